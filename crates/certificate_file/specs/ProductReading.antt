-- What the code computes that reads the lines of a product.
use Rattle.std.specs.Prelude.{ℕ, Bool, true, false, ◌==◌, ◌^◌, if◌then◌else◌, List, [], ◌∷◌, codes, decimal, Ok}
use Rattle.insn_ops.specs.declared.side.Side.{Side}
use Rattle.insn_ops.specs.declared.side.Side.TheVariants.{Left, Right}
use Rattle.product_automaton.specs.declared.product.Atom.{Atom}
use Rattle.product_automaton.specs.declared.product.Atom.TheVariants.{Reg, Entry, Lane}
use Rattle.product_automaton.specs.declared.product.Bound1.{Bound1}
use Rattle.product_automaton.specs.declared.product.Bound1.TheVariants.{Of, Num}
use Rattle.product_automaton.specs.declared.product.Invariant.{Invariant}
use Rattle.product_automaton.specs.declared.product.Invariant.TheVariants.{Lin, Less}
use Rattle.product_automaton.specs.declared.product.PNode.{PNode}
use Rattle.product_automaton.specs.declared.product.PEdge.{PEdge}
use Rattle.register_names.specs.Names.{register_names}
use Rattle.text_codes.specs.Endings.{may_end}
use Rattle.text_codes.specs.Numbers.{settled_at}
use Rattle.text_codes.specs.Readers.{Reading, behind, choose_at, counted_at, counted_line_at, letters_at, made_at, names_at, pair_at, then_at, word_at}
use Rattle.text_codes.specs.declared.numbers.Ending.TheVariants.{By, Count}
use Rattle.certificate_file.specs.Numbers.{space, newline}

-- a number of 32 bits, and the byte that ends it
abbrev pub u32_at : ℕ → List ℕ → Reading ℕ
u32_at end text = settled_at (2 ^ 32) 0 (may_end (By end)) text

-- a number of 64 bits, and the byte that ends it
abbrev pub u64_at : ℕ → List ℕ → Reading ℕ
u64_at end text = settled_at (2 ^ 64) 0 (may_end (By end)) text

-- a count, and what is counted on lines of its own
abbrev pub lines_at : {V : Type 0} → (List ℕ → Reading V) → List ℕ → Reading (List V)
lines_at r text = counted_at (u64_at newline) r text

-- a count, and what is counted behind it up to the end of the line
abbrev pub row_at : {V : Type 0} → (ℕ → List ℕ → Reading V) → List ℕ → Reading (List V)
row_at r text = counted_line_at (settled_at (2 ^ 64) 0 (may_end Count)) r text

-- atoms

-- one of two things, by a letter
abbrev pub letter_at : {V : Type 0} → ℕ → V → ℕ → V → List ℕ → Reading V
letter_at c v d w text = letters_at ((c, λ t. Ok (v, t)) ∷ (d, λ t. Ok (w, t)) ∷ []) text

-- a side, by its letter
abbrev pub side_at : List ℕ → Reading Side
side_at text = letter_at 108 Left 114 Right text

-- a register, and the byte that ends it
abbrev pub register_at : ℕ → List ℕ → Reading ℕ
register_at end text = made_at (λ (p : ℕ × Unit {0}). p.0) (pair_at (names_at 0 (register_names 64)) (word_at (end ∷ []))) text

-- what is behind the letter of a side
abbrev pub sided_at : ℕ → Side → List ℕ → Reading Atom
sided_at end side text =
    behind (codes ".")
    (choose_at 121 (made_at (λ (p : ℕ × ℕ). Lane side p.0 p.1) (pair_at (settled_at 16 0 (may_end (By 46))) (settled_at 256 0 (may_end (By end)))))
    (made_at (λ (n : ℕ). Reg side n) (register_at end))) text

-- an atom, and the byte that ends it
abbrev pub atom_at : ℕ → List ℕ → Reading Atom
atom_at end text =
    choose_at 101 (made_at (λ (n : ℕ). Entry n) (behind (codes ".") (register_at end)))
    (made_at (λ (p : Side × Atom). p.1) (then_at side_at (sided_at end))) text

-- a side of a comparison, and the byte that ends it
abbrev pub bound_at : ℕ → List ℕ → Reading Bound1
bound_at end text = choose_at 35 (made_at (λ (n : ℕ). Num n) (u64_at end)) (made_at (λ (a : Atom). Of a) (atom_at end)) text

-- invariants

-- a coefficient and its atom
abbrev pub term_at : List ℕ → Reading (ℕ × Atom)
term_at text = pair_at (u64_at space) (atom_at space) text

-- what is behind the letter l of a sum
abbrev pub lin_at : List ℕ → Reading Invariant
lin_at text =
    made_at (λ (p : ℕ × (List (ℕ × Atom) × ℕ)). Lin p.0 p.1.0 p.1.1)
    (behind (codes "in ") (pair_at (u32_at space) (pair_at (counted_at (u64_at space) term_at) (u64_at newline)))) text

-- what is behind the word of a comparison
abbrev pub less_at : List ℕ → Reading Invariant
less_at text =
    made_at (λ (p : Bool × (Bool × (ℕ × (Bound1 × Bound1)))). Less p.0 p.1.0 p.1.1.0 p.1.1.1.0 p.1.1.1.1)
    (pair_at (letter_at 115 true 117 false) (behind (codes "l") (pair_at (letter_at 116 true 101 false)
    (behind (codes " ") (pair_at (u32_at space) (pair_at (bound_at space) (bound_at newline))))))) text

-- an invariant
abbrev pub invariant_at : List ℕ → Reading Invariant
invariant_at text = behind (codes "inv ") (choose_at 108 lin_at less_at) text

-- nodes and edges

-- the places of node i
abbrev pub places_at : ℕ → List ℕ → Reading (ℕ × ℕ)
places_at i text = if i == 1 then made_at (λ (u : Unit {0}). (0, 0)) (word_at (codes "- - ")) text else pair_at (u32_at space) (u32_at space) text

-- node i, with its invariants
abbrev pub node_at : ℕ → List ℕ → Reading PNode
node_at i text =
    behind (codes "node ") (behind (decimal i) (behind (codes " ")
    (made_at (λ (p : (ℕ × ℕ) × (ℕ × (ℕ × List Invariant))). record { left = p.0.0; right = p.0.1; invs = p.1.1.1; rank_left = p.1.0; rank_right = p.1.1.0 })
    (pair_at (places_at i) (pair_at (u32_at space) (pair_at (u32_at space) (lines_at invariant_at))))))) text

-- a path
abbrev pub path_at : List ℕ → Reading (List ℕ)
path_at text = row_at u32_at text

-- an edge
abbrev pub edge_at : List ℕ → Reading PEdge
edge_at text =
    made_at (λ (p : ℕ × (ℕ × (List ℕ × List ℕ))). record { from = p.0; to = p.1.0; left = p.1.1.0; right = p.1.1.1 })
    (behind (codes "edge ") (pair_at (u32_at space) (pair_at (u32_at newline)
    (behind (codes "left ") (pair_at path_at (behind (codes "right ") path_at)))))) text

-- the byte that ends a value of a line, of which so many are to come with this one
abbrev pub end_at : ℕ → ℕ
end_at n = if n == 1 then newline else space
