-- The row of two bytes of memory that may be at one address.
use Rattle.std.specs.Prelude.{◌≡◌, ℕ, Bool, true, false, List, [], ◌∷◌, Option, Some, None, MatchOption}
use Rattle.clauses.specs.declared.clause.Lit.{Lit}
use Rattle.clause_gates.specs.Gates.{negation, positive}
use Rattle.clause_words.specs.Numbers.{word_value}
use Rattle.clause_words.specs.Rows.{bit, columns}

-- the bit that a scratch line has the address, where the sides differ
abbrev pub unless : Option ℕ → List Lit
unless None = []
unless (Some scratch) = positive scratch ∷ []

-- A column: where the bit same_at is 1, bit k of m is 1 only where that of n is, and the other way round, unless a
-- scratch line has the address.
abbrev pub same_column : ℕ → Option ℕ → ℕ → ℕ → ℕ → List (List Lit)
same_column same_at scratch m n k =
    (negation (positive same_at) ∷ negation (bit m k) ∷ bit n k ∷ unless scratch)
    ∷ (negation (positive same_at) ∷ bit m k ∷ negation (bit n k) ∷ unless scratch) ∷ []

-- the row of two bytes
abbrev pub same_row : ℕ → Option ℕ → ℕ → ℕ → List (List Lit)
same_row same_at scratch m n = columns (same_column same_at scratch m n) 8

-- the two bytes are equal where their addresses are, unless a scratch line has it
abbrev pub AreSameBytes : (ℕ → Bool) → ℕ → Option ℕ → ℕ → ℕ → Type 0
AreSameBytes v same_at scratch m n =
    v same_at ≡ true → MatchOption scratch (Unit {0}) (λ at. v at ≡ false) → word_value v 8 m ≡ word_value v 8 n
