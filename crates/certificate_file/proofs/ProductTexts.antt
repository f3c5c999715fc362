-- The lines of a product are read rightly.
use Rattle.std.proofs.Common.{◌≡◌, ◌⊎◌, inl, inr, ℕ, ◌<◌, ◌≤◌, Bool, true, false, cond, eqb, List, [], ◌∷◌, ◌++◌, length, get_or, refl, sym, ap, ◌∙◌, append_assoc, arith}
use Rattle.std.specs.Prelude.{decimal, codes, ◌==◌, if◌then◌else◌}
use Rattle.std.specs.Char.{digit_value}
use Rattle.std.proofs.lemmas.Bool.{eqb-true, eqb-false}
use Rattle.insn_ops.specs.declared.side.Side.{Side}
use Rattle.insn_ops.specs.declared.side.Side.TheVariants.{Left, Right}
use Rattle.product_automaton.specs.declared.product.Atom.{Atom}
use Rattle.product_automaton.specs.declared.product.Atom.TheVariants.{Reg, Entry, Lane}
use Rattle.product_automaton.specs.declared.product.Bound1.{Bound1}
use Rattle.product_automaton.specs.declared.product.Bound1.TheVariants.{Of, Num}
use Rattle.product_automaton.specs.declared.product.Invariant.{Invariant}
use Rattle.product_automaton.specs.declared.product.Invariant.TheVariants.{Lin, Less}
use Rattle.product_automaton.specs.declared.product.PNode.{PNode}
use Rattle.register_names.specs.Names.{register_names}
use Rattle.text_codes.specs.Codes.{IsRead, Reads}
use Rattle.text_codes.specs.Lists.{texts_of}
use Rattle.text_codes.specs.Names.{IsAmong}
use Rattle.text_codes.specs.Readers.{choose_at, made_at, names_at, pair_at, word_at}
use Rattle.text_codes.proofs.Choices.{choose_reads}
use Rattle.text_codes.proofs.Combined.{Anything, Both, made_reads, behind_reads, pair_reads, then_reads, word_reads, refit, counted_reads}
use Rattle.text_codes.proofs.NameReading.{apart_from, names_read}
use Rattle.certificate_file.specs.Numbers.{space, newline, number_text, IsU32, IsU64, lines_text, row_text, AreCounted}
use Rattle.certificate_file.specs.Products.{register, side_text, atom_text, AtomFits, bound_text, BoundFits, term_text, TermFits, order_word, invariant_text, InvariantFits, places_text, node_text, NodeFits, edge_text, EdgeFits}
use Rattle.certificate_file.specs.ProductReading.{u32_at, u64_at, lines_at, letter_at, side_at, register_at, sided_at, atom_at, bound_at, term_at, lin_at, less_at, invariant_at, places_at, node_at, path_at, edge_at}
use Rattle.certificate_file.proofs.FieldTexts.{number_reads, u32_reads, u64_reads, lines_reads, row_reads, letter_reads}

-- atoms

abbrev side_letter : Side → ℕ
side_letter Left = 108
side_letter Right = 114

side_reads : Reads side_text (λ (s : Side). Unit {0}) side_at
side_reads =
    letter_reads side_text (λ (s : Side). Unit {0}) side_letter 108 114 Left Right text tt tt refl refl first second either
  where
    text : (u : Side) → Unit {0} → side_text u ≡ side_letter u ∷ []
    text Left h = refl
    text Right h = refl

    first : (u : Side) → Unit {0} → side_letter u ≡ 108 → u ≡ Left
    first Left h e = refl
    first Right h e = absurd (omega (arith, e))

    second : (u : Side) → Unit {0} → side_letter u ≡ 114 → u ≡ Right
    second Left h e = absurd (omega (arith, e))
    second Right h e = refl

    either : (u : Side) → Unit {0} → (side_letter u ≡ 108) ⊎ (side_letter u ≡ 114)
    either Left h = inl refl
    either Right h = inr refl

-- the name of a register, and the byte that ends it
register_reads : (end : ℕ) → Reads (λ n. register n ++ end ∷ []) (λ n. n < 16) (register_at end)
register_reads end =
    made_reads (λ n. register n ++ end ∷ []) (λ n. n < 16) (λ (p : ℕ × Unit {0}). register p.0 ++ end ∷ []) (Both (IsAmong 0 16) Anything) (λ (p : ℕ × Unit {0}). p.0)
    (pair_at (names_at 0 (register_names 64)) (word_at (end ∷ [])))
    (record { text = λ u h. refl; fits = λ u h. omega (arith, h.0.1); from = λ n h. ((n, tt), (((omega arith, omega (arith, h)), tt), refl)) })
    (pair_reads register (IsAmong 0 16) (λ (u : Unit {0}). end ∷ []) Anything (names_at 0 (register_names 64)) (word_at (end ∷ []))
    (names_read register 0 _ _ (refl, (refl, (refl, (refl, (refl, (refl, (refl, (refl, (refl, (refl, (refl, (refl, (refl, (refl, (refl, (refl, tt)))))))))))))))) refl)
    (word_reads (end ∷ [])))

-- what is behind the dot of a side's atom, and behind its side
abbrev place_text : ℕ → Atom → List ℕ
place_text end (Reg side n) = register n ++ end ∷ []
place_text end (Lane side v lane) = 121 ∷ (number_text 46 v ++ number_text end lane)
place_text end (Entry n) = []

abbrev lane_text : ℕ → Atom → List ℕ
lane_text end (Lane side v lane) = number_text 46 v ++ number_text end lane
lane_text end (Reg side n) = []
lane_text end (Entry n) = []

abbrev IsLaneOf : Side → Atom → Type 0
IsLaneOf s (Lane side v lane) = (side ≡ s) × ((v < 16) × (lane < 256))
IsLaneOf s (Reg side n) = ⊥
IsLaneOf s (Entry n) = ⊥

abbrev IsRegOf : Side → Atom → Type 0
IsRegOf s (Reg side n) = (side ≡ s) × (n < 16)
IsRegOf s (Lane side v lane) = ⊥
IsRegOf s (Entry n) = ⊥

abbrev IsAtomOf : Side → Atom → Type 0
IsAtomOf s (Lane side v lane) = (side ≡ s) × ((v < 16) × (lane < 256))
IsAtomOf s (Reg side n) = (side ≡ s) × (n < 16)
IsAtomOf s (Entry n) = ⊥

-- no register begins with y
no_y : (end n : ℕ) → n < 16 → (x y : List ℕ) → (register n ++ end ∷ []) ++ x ≡ 121 ∷ y → ⊥
no_y end n h x y e =
    apart_from register (121 ∷ []) 0 (register_names 64)
    (refl, (refl, (refl, (refl, (refl, (refl, (refl, (refl, (refl, (refl, (refl, (refl, (refl, (refl, (refl, (refl, tt))))))))))))))))
    refl n (omega arith, omega (arith, h)) y (end ∷ x) (sym e ∙ append_assoc (register n) (end ∷ []) x)

sided_reads : (end : ℕ) → 10 ≤ digit_value end → (s : Side) → Reads (λ a. codes "." ++ place_text end a) (IsAtomOf s) (sided_at end s)
sided_reads end apart s =
    behind_reads (codes ".") (place_text end) (IsAtomOf s) _
    (choose_reads 121 (place_text end) (IsAtomOf s) (lane_text end) (IsLaneOf s) (IsRegOf s) _ _
    (record { text = text; other = other; first = first; second = second; either = either })
    (made_reads (lane_text end) (IsLaneOf s) (λ (p : ℕ × ℕ). number_text 46 p.0 ++ number_text end p.1) (Both (λ n. n < 16) (λ n. n < 256)) (λ (p : ℕ × ℕ). Lane s p.0 p.1) _
    (record { text = λ u h. refl; fits = λ u h. (refl, h); from = from_lane })
    (pair_reads (number_text 46) (λ n. n < 16) (number_text end) (λ n. n < 256) _ _
    (number_reads 16 46 (omega arith) (omega arith) (omega arith)) (number_reads 256 end (omega arith) (omega arith) apart)))
    (made_reads (place_text end) (IsRegOf s) (λ n. register n ++ end ∷ []) (λ n. n < 16) (λ (n : ℕ). Reg s n) (register_at end)
    (record { text = λ u h. refl; fits = λ u h. (refl, h); from = from_reg }) (register_reads end)))
  where
    text : (v : Atom) → IsLaneOf s v → place_text end v ≡ 121 ∷ lane_text end v
    text (Lane side v lane) h = refl
    text (Reg side n) h = absurd h
    text (Entry n) h = absurd h

    other : (v : Atom) (x y : List ℕ) → IsRegOf s v → place_text end v ++ x ≡ 121 ∷ y → ⊥
    other (Reg side n) x y h e = no_y end n h.1 x y e
    other (Lane side v lane) x y h e = h
    other (Entry n) x y h e = h

    first : (v : Atom) → IsLaneOf s v → IsAtomOf s v
    first (Lane side v lane) h = h
    first (Reg side n) h = absurd h
    first (Entry n) h = h

    second : (v : Atom) → IsRegOf s v → IsAtomOf s v
    second (Lane side v lane) h = absurd h
    second (Reg side n) h = h
    second (Entry n) h = h

    either : (v : Atom) → IsAtomOf s v → IsLaneOf s v ⊎ IsRegOf s v
    either (Lane side v lane) h = inl h
    either (Reg side n) h = inr h
    either (Entry n) h = absurd h

    from_lane : (v : Atom) → IsLaneOf s v → (p : ℕ × ℕ) × (Both (λ n. n < 16) (λ n. n < 256) p × (Lane s p.0 p.1 ≡ v))
    from_lane (Lane side v lane) h = ((v, lane), (h.1, ap (λ (t : Side). Lane t v lane) (sym h.0)))
    from_lane (Reg side n) h = absurd h
    from_lane (Entry n) h = absurd h

    from_reg : (v : Atom) → IsRegOf s v → (n : ℕ) × ((n < 16) × (Reg s n ≡ v))
    from_reg (Reg side n) h = (n, (h.1, ap (λ (t : Side). Reg t n) (sym h.0)))
    from_reg (Lane side v lane) h = absurd h
    from_reg (Entry n) h = absurd h

-- the atoms of a side, and those of the entry
abbrev IsSided : Atom → Type 0
IsSided (Reg side n) = n < 16
IsSided (Lane side v lane) = (v < 16) × (lane < 256)
IsSided (Entry n) = ⊥

abbrev IsEntry : Atom → Type 0
IsEntry (Entry n) = n < 16
IsEntry (Reg side n) = ⊥
IsEntry (Lane side v lane) = ⊥

abbrev entry_text : ℕ → Atom → List ℕ
entry_text end (Entry n) = codes "." ++ (register n ++ end ∷ [])
entry_text end (Reg side n) = []
entry_text end (Lane side v lane) = []

abbrev OfSide : Side × Atom → Type 0
OfSide p = Unit {0} × IsAtomOf p.0 p.1

abbrev with_side_text : ℕ → Side × Atom → List ℕ
with_side_text end p = side_text p.0 ++ (codes "." ++ place_text end p.1)

pub atom_reads : (end : ℕ) → 10 ≤ digit_value end → Reads (atom_text end) AtomFits (atom_at end)
atom_reads end apart =
    choose_reads 101 (atom_text end) AtomFits (entry_text end) IsEntry IsSided _ _
    (record { text = text; other = other; first = first; second = second; either = either })
    (made_reads (entry_text end) IsEntry (λ n. codes "." ++ (register n ++ end ∷ [])) (λ n. n < 16) (λ (n : ℕ). Entry n) _
    (record { text = λ u h. refl; fits = λ u h. h; from = from_entry })
    (behind_reads (codes ".") (λ n. register n ++ end ∷ []) (λ n. n < 16) (register_at end) (register_reads end)))
    (made_reads (atom_text end) IsSided (with_side_text end) OfSide (λ (p : Side × Atom). p.1) _
    (record { text = λ u h. side_is u.0 u.1 h.1; fits = λ u h. sided u.0 u.1 h.1; from = from_side })
    (then_reads side_text (λ (s : Side). Unit {0}) (λ s a. codes "." ++ place_text end a) IsAtomOf side_at (sided_at end) side_reads (λ s h. sided_reads end apart s)))
  where
    text : (v : Atom) → IsEntry v → atom_text end v ≡ 101 ∷ entry_text end v
    text (Entry n) h = refl
    text (Reg side n) h = absurd h
    text (Lane side v lane) h = absurd h

    no_e : (s : Side) (x y : List ℕ) → side_text s ++ x ≡ 101 ∷ y → ⊥
    no_e Left x y e = (let h = ap (λ (l : List ℕ). get_or l 0 0) e in omega (arith, h))
    no_e Right x y e = (let h = ap (λ (l : List ℕ). get_or l 0 0) e in omega (arith, h))

    other : (v : Atom) (x y : List ℕ) → IsSided v → atom_text end v ++ x ≡ 101 ∷ y → ⊥
    other (Reg side n) x y h e = no_e side _ y (sym (append_assoc (side_text side) (codes "." ++ (register n ++ end ∷ [])) x) ∙ e)
    other (Lane side v lane) x y h e = no_e side _ y (sym (append_assoc (side_text side) (codes ".y" ++ (number_text 46 v ++ number_text end lane)) x) ∙ e)
    other (Entry n) x y h e = h

    first : (v : Atom) → IsEntry v → AtomFits v
    first (Entry n) h = h
    first (Reg side n) h = absurd h
    first (Lane side v lane) h = absurd h

    second : (v : Atom) → IsSided v → AtomFits v
    second (Entry n) h = absurd h
    second (Reg side n) h = h
    second (Lane side v lane) h = h

    either : (v : Atom) → AtomFits v → IsEntry v ⊎ IsSided v
    either (Entry n) h = inl h
    either (Reg side n) h = inr h
    either (Lane side v lane) h = inr h

    from_entry : (v : Atom) → IsEntry v → (n : ℕ) × ((n < 16) × (Entry n ≡ v))
    from_entry (Entry n) h = (n, (h, refl))
    from_entry (Reg side n) h = absurd h
    from_entry (Lane side v lane) h = absurd h

    side_is : (s : Side) (a : Atom) → IsAtomOf s a → atom_text end a ≡ side_text s ++ (codes "." ++ place_text end a)
    side_is s (Reg side n) h = ap (λ (t : Side). side_text t ++ (codes "." ++ (register n ++ end ∷ []))) h.0
    side_is s (Lane side v lane) h = ap (λ (t : Side). side_text t ++ (codes ".y" ++ (number_text 46 v ++ number_text end lane))) h.0
    side_is s (Entry n) h = absurd h

    sided : (s : Side) (a : Atom) → IsAtomOf s a → IsSided a
    sided s (Reg side n) h = h.1
    sided s (Lane side v lane) h = h.1
    sided s (Entry n) h = h

    from_side : (v : Atom) → IsSided v → (p : Side × Atom) × (OfSide p × (p.1 ≡ v))
    from_side (Reg side n) h = ((side, Reg side n), ((tt, (refl, h)), refl))
    from_side (Lane side v lane) h = ((side, Lane side v lane), ((tt, (refl, h)), refl))
    from_side (Entry n) h = absurd h

-- the two sides of a comparison

abbrev IsNum : Bound1 → Type 0
IsNum (Num n) = IsU64 n
IsNum (Of a) = ⊥

abbrev IsOf : Bound1 → Type 0
IsOf (Of a) = AtomFits a
IsOf (Num n) = ⊥

abbrev num_text : ℕ → Bound1 → List ℕ
num_text end (Num n) = number_text end n
num_text end (Of a) = []

pub bound_reads : (end : ℕ) → 10 ≤ digit_value end → Reads (bound_text end) BoundFits (bound_at end)
bound_reads end apart =
    choose_reads 35 (bound_text end) BoundFits (num_text end) IsNum IsOf _ _
    (record { text = text; other = other; first = first; second = second; either = either })
    (made_reads (num_text end) IsNum (number_text end) IsU64 (λ (n : ℕ). Num n) (u64_at end)
    (record { text = λ u h. refl; fits = λ u h. h; from = from_num }) (u64_reads end apart))
    (made_reads (bound_text end) IsOf (atom_text end) AtomFits (λ (a : Atom). Of a) (atom_at end)
    (record { text = λ u h. refl; fits = λ u h. h; from = from_of }) (atom_reads end apart))
  where
    text : (v : Bound1) → IsNum v → bound_text end v ≡ 35 ∷ num_text end v
    text (Num n) h = refl
    text (Of a) h = absurd h

    no_hash : (a : Atom) (x y : List ℕ) → atom_text end a ++ x ≡ 35 ∷ y → ⊥
    no_hash (Reg Left n) x y e = (let h = ap (λ (l : List ℕ). get_or l 0 0) e in omega (arith, h))
    no_hash (Reg Right n) x y e = (let h = ap (λ (l : List ℕ). get_or l 0 0) e in omega (arith, h))
    no_hash (Entry n) x y e = (let h = ap (λ (l : List ℕ). get_or l 0 0) e in omega (arith, h))
    no_hash (Lane Left v lane) x y e = (let h = ap (λ (l : List ℕ). get_or l 0 0) e in omega (arith, h))
    no_hash (Lane Right v lane) x y e = (let h = ap (λ (l : List ℕ). get_or l 0 0) e in omega (arith, h))

    other : (v : Bound1) (x y : List ℕ) → IsOf v → bound_text end v ++ x ≡ 35 ∷ y → ⊥
    other (Of a) x y h e = no_hash a x y e
    other (Num n) x y h e = h

    first : (v : Bound1) → IsNum v → BoundFits v
    first (Num n) h = h
    first (Of a) h = absurd h

    second : (v : Bound1) → IsOf v → BoundFits v
    second (Num n) h = absurd h
    second (Of a) h = h

    either : (v : Bound1) → BoundFits v → IsNum v ⊎ IsOf v
    either (Num n) h = inl h
    either (Of a) h = inr h

    from_num : (v : Bound1) → IsNum v → (n : ℕ) × (IsU64 n × (Num n ≡ v))
    from_num (Num n) h = (n, (h, refl))
    from_num (Of a) h = absurd h

    from_of : (v : Bound1) → IsOf v → (a : Atom) × (AtomFits a × (Of a ≡ v))
    from_of (Of a) h = (a, (h, refl))
    from_of (Num n) h = absurd h

-- invariants

pub term_reads : Reads term_text TermFits term_at
term_reads = pair_reads (number_text space) IsU64 (atom_text space) AtomFits (u64_at space) (atom_at space) (u64_reads space (omega arith)) (atom_reads space (omega arith))

abbrev letter_of : ℕ → ℕ → Bool → List ℕ
letter_of c d b = (if b then c else d) ∷ []

flag_reads : (c d : ℕ) → (c ≡ d → ⊥) → Reads (letter_of c d) (λ (b : Bool). Unit {0}) (letter_at c true d false)
flag_reads c d apart =
    letter_reads (letter_of c d) (λ (b : Bool). Unit {0}) (λ b. if b then c else d) c d true false (λ u h. refl) tt tt refl refl first second either
  where
    first : (u : Bool) → Unit {0} → (if u then c else d) ≡ c → u ≡ true
    first true h e = refl
    first false h e = absurd (apart (sym e))

    second : (u : Bool) → Unit {0} → (if u then c else d) ≡ d → u ≡ false
    second true h e = absurd (apart e)
    second false h e = refl

    either : (u : Bool) → Unit {0} → ((if u then c else d) ≡ c) ⊎ ((if u then c else d) ≡ d)
    either true h = inl refl
    either false h = inr refl

-- what is behind the word inv, and behind the letter of a sum
abbrev kind_text : Invariant → List ℕ
kind_text (Lin w terms c) = codes "lin " ++ (number_text space w ++ (number_text space (length terms) ++ (texts_of term_text terms ++ number_text newline c)))
kind_text (Less signed strict w a b) = order_word signed strict ++ (number_text space w ++ (bound_text space a ++ bound_text newline b))

abbrev lin_text : Invariant → List ℕ
lin_text (Lin w terms c) = codes "in " ++ (number_text space w ++ (number_text space (length terms) ++ (texts_of term_text terms ++ number_text newline c)))
lin_text (Less signed strict w a b) = []

abbrev IsLin : Invariant → Type 0
IsLin (Lin w terms c) = IsU32 w × (AreCounted TermFits terms × IsU64 c)
IsLin (Less signed strict w a b) = ⊥

abbrev IsLess : Invariant → Type 0
IsLess (Less signed strict w a b) = IsU32 w × (BoundFits a × BoundFits b)
IsLess (Lin w terms c) = ⊥

abbrev Sum : Type 0
Sum = ℕ × (List (ℕ × Atom) × ℕ)

abbrev sum_text : Sum → List ℕ
sum_text p = codes "in " ++ (number_text space p.0 ++ ((number_text space (length p.1.0) ++ texts_of term_text p.1.0) ++ number_text newline p.1.1))

abbrev SumFits : Sum → Type 0
SumFits p = IsU32 p.0 × (AreCounted TermFits p.1.0 × IsU64 p.1.1)

lin_reads : Reads lin_text IsLin lin_at
lin_reads =
    made_reads lin_text IsLin sum_text SumFits (λ (p : Sum). Lin p.0 p.1.0 p.1.1) _
    (record {
      text = λ u h. ap (λ (t : List ℕ). codes "in " ++ (number_text space u.0 ++ t))
          (sym (append_assoc (number_text space (length u.1.0)) (texts_of term_text u.1.0) (number_text newline u.1.1)));
      fits = λ u h. h;
      from = from;
    })
    (behind_reads (codes "in ") (λ (p : Sum). number_text space p.0 ++ ((number_text space (length p.1.0) ++ texts_of term_text p.1.0) ++ number_text newline p.1.1)) SumFits _
    (pair_reads (number_text space) IsU32 (λ (p : List (ℕ × Atom) × ℕ). (number_text space (length p.0) ++ texts_of term_text p.0) ++ number_text newline p.1)
    (Both (AreCounted TermFits) IsU64) (u32_at space) _ (u32_reads space (omega arith))
    (pair_reads (λ ts. number_text space (length ts) ++ texts_of term_text ts) (AreCounted TermFits) (number_text newline) IsU64 _ (u64_at newline)
    (counted_reads (number_text space) IsU64 (u64_at space) term_text TermFits term_at (u64_reads space (omega arith)) term_reads)
    (u64_reads newline (omega arith)))))
  where
    from : (v : Invariant) → IsLin v → (p : Sum) × (SumFits p × (Lin p.0 p.1.0 p.1.1 ≡ v))
    from (Lin w terms c) h = ((w, (terms, c)), (h, refl))
    from (Less signed strict w a b) h = absurd h

abbrev Comparison : Type 0
Comparison = Bool × (Bool × (ℕ × (Bound1 × Bound1)))

abbrev comparison_text : Comparison → List ℕ
comparison_text p = letter_of 115 117 p.0 ++ (codes "l" ++ (letter_of 116 101 p.1.0 ++ (codes " " ++ (number_text space p.1.1.0
    ++ (bound_text space p.1.1.1.0 ++ bound_text newline p.1.1.1.1)))))

abbrev ComparisonFits : Comparison → Type 0
ComparisonFits p = Unit {0} × (Unit {0} × (IsU32 p.1.1.0 × (BoundFits p.1.1.1.0 × BoundFits p.1.1.1.1)))

less_reads : Reads kind_text IsLess less_at
less_reads =
    made_reads kind_text IsLess comparison_text ComparisonFits (λ (p : Comparison). Less p.0 p.1.0 p.1.1.0 p.1.1.1.0 p.1.1.1.1) _
    (record { text = λ u h. word u.0 u.1.0 _; fits = λ u h. h.1.1; from = from })
    (pair_reads (letter_of 115 117) (λ (b : Bool). Unit {0}) _ _ (letter_at 115 true 117 false) _ (flag_reads 115 117 (λ e. omega (arith, e)))
    (behind_reads (codes "l") _ _ _ (pair_reads (letter_of 116 101) (λ (b : Bool). Unit {0}) _ _ (letter_at 116 true 101 false) _ (flag_reads 116 101 (λ e. omega (arith, e)))
    (behind_reads (codes " ") _ _ _ (pair_reads (number_text space) IsU32 _ _ (u32_at space) _ (u32_reads space (omega arith))
    (pair_reads (bound_text space) BoundFits (bound_text newline) BoundFits (bound_at space) (bound_at newline) (bound_reads space (omega arith)) (bound_reads newline (omega arith))))))))
  where
    word : (s t : Bool) (rest : List ℕ) → order_word s t ++ rest ≡ letter_of 115 117 s ++ (codes "l" ++ (letter_of 116 101 t ++ (codes " " ++ rest)))
    word true true rest = refl
    word true false rest = refl
    word false true rest = refl
    word false false rest = refl

    from : (v : Invariant) → IsLess v → (p : Comparison) × (ComparisonFits p × (Less p.0 p.1.0 p.1.1.0 p.1.1.1.0 p.1.1.1.1 ≡ v))
    from (Less signed strict w a b) h = ((signed, (strict, (w, (a, b)))), ((tt, (tt, h)), refl))
    from (Lin w terms c) h = absurd h

pub invariant_reads : Reads invariant_text InvariantFits invariant_at
invariant_reads =
    refit invariant_text (λ v. codes "inv " ++ kind_text v) InvariantFits InvariantFits invariant_at text_is (λ v h. h) (λ v h. h)
    (behind_reads (codes "inv ") kind_text InvariantFits (choose_at 108 lin_at less_at)
    (choose_reads 108 kind_text InvariantFits lin_text IsLin IsLess lin_at less_at
    (record { text = text; other = other; first = first; second = second; either = either }) lin_reads less_reads))
  where
    text_is : (v : Invariant) → InvariantFits v → invariant_text v ≡ codes "inv " ++ kind_text v
    text_is (Lin w terms c) h = refl
    text_is (Less signed strict w a b) h = refl

    text : (v : Invariant) → IsLin v → kind_text v ≡ 108 ∷ lin_text v
    text (Lin w terms c) h = refl
    text (Less signed strict w a b) h = absurd h

    no_l : (s t : Bool) (x y z : List ℕ) → (order_word s t ++ x) ++ y ≡ 108 ∷ z → ⊥
    no_l true true x y z e = (let h = ap (λ (l : List ℕ). get_or l 0 0) e in omega (arith, h))
    no_l true false x y z e = (let h = ap (λ (l : List ℕ). get_or l 0 0) e in omega (arith, h))
    no_l false true x y z e = (let h = ap (λ (l : List ℕ). get_or l 0 0) e in omega (arith, h))
    no_l false false x y z e = (let h = ap (λ (l : List ℕ). get_or l 0 0) e in omega (arith, h))

    other : (v : Invariant) (x y : List ℕ) → IsLess v → kind_text v ++ x ≡ 108 ∷ y → ⊥
    other (Less signed strict w a b) x y h e = no_l signed strict _ x y e
    other (Lin w terms c) x y h e = h

    first : (v : Invariant) → IsLin v → InvariantFits v
    first (Lin w terms c) h = h
    first (Less signed strict w a b) h = absurd h

    second : (v : Invariant) → IsLess v → InvariantFits v
    second (Lin w terms c) h = absurd h
    second (Less signed strict w a b) h = h

    either : (v : Invariant) → InvariantFits v → IsLin v ⊎ IsLess v
    either (Lin w terms c) h = inl h
    either (Less signed strict w a b) h = inr h

-- nodes

abbrev spots_text : ℕ → ℕ × ℕ → List ℕ
spots_text i p = if i == 1 then codes "- - " else number_text space p.0 ++ number_text space p.1

abbrev SpotsFit : ℕ → ℕ × ℕ → Type 0
SpotsFit i p = (i ≡ 1 → (p.0 ≡ 0) × (p.1 ≡ 0)) × (IsU32 p.0 × IsU32 p.1)

places_reads : (i : ℕ) → Reads (spots_text i) (SpotsFit i) (places_at i)
places_reads i = record {
  right = λ text.
      elim (eqb i 1) as (λ t. eqb i 1 ≡ t → IsRead (λ (p : ℕ × ℕ). cond t (codes "- - ") (number_text space p.0 ++ number_text space p.1)) (SpotsFit i) text
      (cond t (made_at (λ (u : Unit {0}). (0, 0)) (word_at (codes "- - ")) text) (pair_at (u32_at space) (u32_at space) text))) [
        | true ↦ λ e. (made_reads (λ (p : ℕ × ℕ). codes "- - ") (SpotsFit i) (λ (u : Unit {0}). codes "- - ") Anything (λ (u : Unit {0}). (0, 0)) (word_at (codes "- - "))
            (record { text = λ u h. refl; fits = λ u h. ((λ is. (refl, refl)), (omega arith, omega arith)); from = λ p h. (tt, (tt, none p.0 p.1 (h.0 (eqb-true i 1 e)))) })
            (word_reads (codes "- - "))).right text
        | false ↦ λ e. (refit (λ (p : ℕ × ℕ). number_text space p.0 ++ number_text space p.1) (λ (p : ℕ × ℕ). number_text space p.0 ++ number_text space p.1) (SpotsFit i) (Both IsU32 IsU32) _
            (λ v h. refl) (λ v h. h.1) (λ v h. ((λ is. absurd (eqb-false i 1 e is)), h))
            (pair_reads (number_text space) IsU32 (number_text space) IsU32 (u32_at space) (u32_at space) (u32_reads space (omega arith)) (u32_reads space (omega arith)))).right text
      ] refl;
}
  where
    none : (a b : ℕ) → (a ≡ 0) × (b ≡ 0) → ◌≡◌ {A = ℕ × ℕ} (0, 0) (a, b)
    none a b h = ap (λ (x : ℕ). let p : ℕ × ℕ = (x, 0) in p) (sym h.0) ∙ ap (λ (x : ℕ). let p : ℕ × ℕ = (a, x) in p) (sym h.1)

abbrev NodeParts : Type 0
NodeParts = (ℕ × ℕ) × (ℕ × (ℕ × List Invariant))

abbrev node_of : NodeParts → PNode
node_of p = record { left = p.0.0; right = p.0.1; invs = p.1.1.1; rank_left = p.1.0; rank_right = p.1.1.0 }

abbrev parts_text : ℕ → NodeParts → List ℕ
parts_text i p = spots_text i p.0 ++ (number_text space p.1.0 ++ (number_text space p.1.1.0 ++ lines_text invariant_text p.1.1.1))

abbrev NodePartsFit : ℕ → NodeParts → Type 0
NodePartsFit i p = SpotsFit i p.0 × (IsU32 p.1.0 × (IsU32 p.1.1.0 × AreCounted InvariantFits p.1.1.1))

abbrev behind_number : ℕ → PNode → List ℕ
behind_number i n = places_text i n ++ (number_text space n.rank_left ++ (number_text space n.rank_right ++ lines_text invariant_text n.invs))

pub node_reads : (i : ℕ) → Reads (node_text i) (NodeFits i) (node_at i)
node_reads i =
    refit (node_text i) (λ n. codes "node " ++ (decimal i ++ (codes " " ++ behind_number i n))) (NodeFits i) (NodeFits i) (node_at i)
    (λ n h. ap (λ (t : List ℕ). codes "node " ++ t) (append_assoc (decimal i) (32 ∷ []) (behind_number i n))) (λ n h. h) (λ n h. h)
    (behind_reads (codes "node ") _ (NodeFits i) _ (behind_reads (decimal i) _ (NodeFits i) _ (behind_reads (codes " ") (behind_number i) (NodeFits i) _
    (made_reads (behind_number i) (NodeFits i) (parts_text i) (NodePartsFit i) node_of _
    (record { text = λ u h. refl; fits = λ u h. (h.0.0, (h.0.1, h.1)); from = λ n h. (((n.left, n.right), (n.rank_left, (n.rank_right, n.invs))), (((h.0, h.1.0), h.1.1), refl)) })
    (pair_reads (spots_text i) (SpotsFit i) _ _ (places_at i) _ (places_reads i)
    (pair_reads (number_text space) IsU32 _ _ (u32_at space) _ (u32_reads space (omega arith))
    (pair_reads (number_text space) IsU32 (lines_text invariant_text) (AreCounted InvariantFits) (u32_at space) (lines_at invariant_at) (u32_reads space (omega arith))
    (lines_reads invariant_text InvariantFits invariant_at invariant_reads))))))))

-- edges

pub path_reads : Reads (row_text number_text) (AreCounted IsU32) path_at
path_reads = row_reads number_text IsU32 u32_at (u32_reads newline (omega arith)) (u32_reads space (omega arith))

pub edge_reads : Reads edge_text EdgeFits edge_at
edge_reads =
    made_reads edge_text EdgeFits _ _ (λ (p : ℕ × (ℕ × (List ℕ × List ℕ))). record { from = p.0; to = p.1.0; left = p.1.1.0; right = p.1.1.1 }) _
    (record { text = λ u h. refl; fits = λ u h. h; from = λ e h. ((e.from, (e.to, (e.left, e.right))), (h, refl)) })
    (behind_reads (codes "edge ") _ _ _ (pair_reads (number_text space) IsU32 _ _ (u32_at space) _ (u32_reads space (omega arith))
    (pair_reads (number_text newline) IsU32 _ _ (u32_at newline) _ (u32_reads newline (omega arith))
    (behind_reads (codes "left ") _ _ _ (pair_reads (row_text number_text) (AreCounted IsU32) _ _ path_at _ path_reads
    (behind_reads (codes "right ") (row_text number_text) (AreCounted IsU32) path_at path_reads))))))
