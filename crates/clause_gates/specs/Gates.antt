-- The clauses of each gate, r being its output.
use Rattle.std.specs.Prelude.{ℕ, zero, suc, ◌+◌, ◌/◌, ◌%◌, ◌^◌, ◌==◌, Bool, false, not, ◌&&◌, ◌||◌, List, [], ◌∷◌, length, map, if◌then◌else◌}
use Rattle.std.specs.List.{filter, range_with_len}
use Rattle.clauses.specs.declared.clause.Lit.{Lit}

-- the literal of the other sign
abbrev pub negation : Lit → Lit
negation l = record { var = l.var; neg = not l.neg }

-- a variable as it is
abbrev pub positive : ℕ → Lit
positive x = record { var = x; neg = false }

-- r is a and b: -r or a, -r or b, r or -a or -b
abbrev pub and_gate : Lit → Lit → Lit → List (List Lit)
and_gate r a b = (negation r ∷ a ∷ []) ∷ (negation r ∷ b ∷ []) ∷ (r ∷ negation a ∷ negation b ∷ []) ∷ []

-- r is a or b: r or -a, r or -b, -r or a or b
abbrev pub or_gate : Lit → Lit → Lit → List (List Lit)
or_gate r a b = (r ∷ negation a ∷ []) ∷ (r ∷ negation b ∷ []) ∷ (negation r ∷ a ∷ b ∷ []) ∷ []

-- r is a: -r or a, r or -a
abbrev pub copy_gate : Lit → Lit → List (List Lit)
copy_gate r a = (negation r ∷ a ∷ []) ∷ (r ∷ negation a ∷ []) ∷ []

-- r is not a: -r or -a, r or a
abbrev pub not_gate : Lit → Lit → List (List Lit)
not_gate r a = (negation r ∷ negation a ∷ []) ∷ (r ∷ a ∷ []) ∷ []

-- literals with the signs that the bits of a number tell: literal k is negated where bit k is 1
abbrev pub signed : ℕ → List Lit → List Lit
signed n [] = []
signed n (l ∷ ls) = (if n % 2 == 1 then negation l else l) ∷ signed (n / 2) ls

-- whether of two Bools exactly one is true
abbrev pub is_one_of : Bool → Bool → Bool
is_one_of a b = if a then not b else b

-- whether an odd number of the k lowest bits of n are 1
abbrev pub has_odd_ones : ℕ → ℕ → Bool
has_odd_ones zero n = false
has_odd_ones (suc k) n = is_one_of (n % 2 == 1) (has_odd_ones k (n / 2))

-- whether an odd number of these are true
abbrev pub is_odd : List Bool → Bool
is_odd [] = false
is_odd (b ∷ bs) = is_one_of b (is_odd bs)

-- r tells whether an odd number of inputs are true: all clauses over r and the inputs with an odd number of
-- negations, in order of the number that tells the signs
abbrev pub xor_gate : Lit → List Lit → List (List Lit)
xor_gate r inputs =
    map (λ n. signed n (r ∷ inputs)) (filter (has_odd_ones (length inputs + 1)) (range_with_len 0 (2 ^ (length inputs + 1))))

-- m is what most of a, b and c are
abbrev pub majority_gate : Lit → Lit → Lit → Lit → List (List Lit)
majority_gate m a b c =
    (negation m ∷ a ∷ b ∷ []) ∷ (negation m ∷ a ∷ c ∷ []) ∷ (negation m ∷ b ∷ c ∷ [])
    ∷ (m ∷ negation a ∷ negation b ∷ []) ∷ (m ∷ negation a ∷ negation c ∷ []) ∷ (m ∷ negation b ∷ negation c ∷ []) ∷ []

-- r is a where c is true, else b
abbrev pub choice_gate : Lit → Lit → Lit → Lit → List (List Lit)
choice_gate r c a b =
    (negation c ∷ negation r ∷ a ∷ []) ∷ (negation c ∷ r ∷ negation a ∷ [])
    ∷ (c ∷ negation r ∷ b ∷ []) ∷ (c ∷ r ∷ negation b ∷ []) ∷ []

-- what most of three are
abbrev pub majority : Bool → Bool → Bool → Bool
majority a b c = (a && b) || ((a && c) || (b && c))
