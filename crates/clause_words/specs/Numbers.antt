-- The numbers that bits mean, and what clauses with helpers say.
use Rattle.std.specs.Prelude.{◌≡◌, ℕ, zero, suc, ◌+◌, ◌-◌, ◌*◌, ◌^◌, ◌<◌, Bool, List, nat_lt, if◌then◌else◌}
use Rattle.insn_semantics.specs.Words as words
use Rattle.clauses.specs.Assignments.{MeetsAll}
use Rattle.clauses.specs.declared.clause.Lit.{Lit}

-- the number of the lowest w bits
abbrev pub number_of : (ℕ → Bool) → ℕ → ℕ
number_of bits zero = 0
number_of bits (suc k) = number_of bits k + 2 ^ k * words.bit (bits k)

-- the number of the word of w bits whose lowest bit is this variable
abbrev pub word_value : (ℕ → Bool) → ℕ → ℕ → ℕ
word_value v w word = number_of (λ k. v (word + k)) w

-- an assignment with other values from a variable on
abbrev pub with_helpers : (ℕ → Bool) → ℕ → (ℕ → Bool) → ℕ → Bool
with_helpers v first helpers x = if nat_lt x first then v x else helpers (x - first)

-- For some values of the n helpers from a variable on, and for one alone, clauses are met exactly where a fact holds.
pub record SayWithHelpers (v : ℕ → Bool) (first n : ℕ) (clauses : List (List Lit)) (Fact : Type 0) : Type 0 where
  pub some : Fact → (helpers : ℕ → Bool) × MeetsAll (with_helpers v first helpers) clauses
  pub only : (helpers : ℕ → Bool) → MeetsAll (with_helpers v first helpers) clauses → Fact
  pub one : (helpers others : ℕ → Bool) → MeetsAll (with_helpers v first helpers) clauses
      → MeetsAll (with_helpers v first others) clauses → (k : ℕ) → k < n → helpers k ≡ others k

-- a word of w bits stands before a variable
abbrev pub StandsBefore : ℕ → ℕ → ℕ → Type 0
StandsBefore first w word = word + w < first + 1
