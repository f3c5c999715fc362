-- The lines of a product, and the ranges of what stands in them.
use Rattle.std.specs.Prelude.{◌≡◌, ℕ, ◌<◌, Bool, ◌==◌, if◌then◌else◌, List, [], ◌∷◌, ◌++◌, length, codes, get_or}
use Rattle.insn_ops.specs.declared.side.Side.{Side}
use Rattle.insn_ops.specs.declared.side.Side.TheVariants.{Left, Right}
use Rattle.product_automaton.specs.declared.product.Atom.{Atom}
use Rattle.product_automaton.specs.declared.product.Atom.TheVariants.{Reg, Entry, Lane}
use Rattle.product_automaton.specs.declared.product.Bound1.{Bound1}
use Rattle.product_automaton.specs.declared.product.Bound1.TheVariants.{Of, Num}
use Rattle.product_automaton.specs.declared.product.Invariant.{Invariant}
use Rattle.product_automaton.specs.declared.product.Invariant.TheVariants.{Lin, Less}
use Rattle.product_automaton.specs.declared.product.PNode.{PNode}
use Rattle.product_automaton.specs.declared.product.PEdge.{PEdge}
use Rattle.register_names.specs.Names.{register_names}
use Rattle.text_codes.specs.Lists.{texts_of}
use Rattle.certificate_file.specs.Numbers.{space, newline, number_text, IsU32, IsU64, lines_text, row_text, AreCounted}

-- what an invariant speaks of

-- the name of a general register
abbrev pub register : ℕ → List ℕ
register n = get_or (register_names 64) n []

-- the letter of a side
abbrev pub side_text : Side → List ℕ
side_text Left = codes "l"
side_text Right = codes "r"

-- a register of a side, at the entry, or a lane, with the byte that ends it
abbrev pub atom_text : ℕ → Atom → List ℕ
atom_text end (Reg side n) = side_text side ++ (codes "." ++ (register n ++ end ∷ []))
atom_text end (Entry n) = codes "e." ++ (register n ++ end ∷ [])
atom_text end (Lane side v lane) = side_text side ++ (codes ".y" ++ (number_text 46 v ++ number_text end lane))

-- registers and vectors are numbered below 16
abbrev pub AtomFits : Atom → Type 0
AtomFits (Reg side n) = n < 16
AtomFits (Entry n) = n < 16
AtomFits (Lane side v lane) = (v < 16) × (lane < 256)

-- a side of a comparison, and the byte that ends it
abbrev pub bound_text : ℕ → Bound1 → List ℕ
bound_text end (Of a) = atom_text end a
bound_text end (Num n) = codes "#" ++ number_text end n

-- a side of a comparison in its range
abbrev pub BoundFits : Bound1 → Type 0
BoundFits (Of a) = AtomFits a
BoundFits (Num n) = IsU64 n

-- invariants

-- a coefficient and what it is of
abbrev pub term_text : ℕ × Atom → List ℕ
term_text t = number_text space t.0 ++ atom_text space t.1

-- a coefficient and its atom in their ranges
abbrev pub TermFits : ℕ × Atom → Type 0
TermFits t = IsU64 t.0 × AtomFits t.1

-- the word of a comparison
abbrev pub order_word : Bool → Bool → List ℕ
order_word signed strict =
    if signed then (if strict then codes "slt " else codes "sle ") else (if strict then codes "ult " else codes "ule ")

-- the line of an invariant
abbrev pub invariant_text : Invariant → List ℕ
invariant_text (Lin w terms c) =
    codes "inv lin " ++ (number_text space w ++ (number_text space (length terms) ++ (texts_of term_text terms ++ number_text newline c)))
invariant_text (Less signed strict w a b) =
    codes "inv " ++ (order_word signed strict ++ (number_text space w ++ (bound_text space a ++ bound_text newline b)))

-- an invariant with each field in its range
abbrev pub InvariantFits : Invariant → Type 0
InvariantFits (Lin w terms c) = IsU32 w × (AreCounted TermFits terms × IsU64 c)
InvariantFits (Less signed strict w a b) = IsU32 w × (BoundFits a × BoundFits b)

-- nodes and edges

-- the places of a node; node 1, where both have returned, has none
abbrev pub places_text : ℕ → PNode → List ℕ
places_text i n = if i == 1 then codes "- - " else number_text space n.left ++ number_text space n.right

-- the lines of node i
abbrev pub node_text : ℕ → PNode → List ℕ
node_text i n =
    codes "node " ++ (number_text space i ++ (places_text i n ++ (number_text space n.rank_left ++ (number_text space n.rank_right
    ++ lines_text invariant_text n.invs))))

-- node i with each field in its range
abbrev pub NodeFits : ℕ → PNode → Type 0
NodeFits i n =
    (i ≡ 1 → (n.left ≡ 0) × (n.right ≡ 0))
    × ((IsU32 n.left × IsU32 n.right) × (IsU32 n.rank_left × (IsU32 n.rank_right × AreCounted InvariantFits n.invs)))

-- the paths of an edge
abbrev pub paths_text : List ℕ → List ℕ → List ℕ
paths_text left right = codes "left " ++ (row_text number_text left ++ (codes "right " ++ row_text number_text right))

-- the lines of an edge
abbrev pub edge_text : PEdge → List ℕ
edge_text e = codes "edge " ++ (number_text space e.from ++ (number_text newline e.to ++ paths_text e.left e.right))

-- an edge with each field in its range
abbrev pub EdgeFits : PEdge → Type 0
EdgeFits e = IsU32 e.from × (IsU32 e.to × (AreCounted IsU32 e.left × AreCounted IsU32 e.right))
