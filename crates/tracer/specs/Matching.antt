-- Which visits of a left and a right trace of one test an alignment matches.
use Rattle.std.specs.Prelude.{◌≡◌, ℕ, ◌+◌, ◌-◌, ◌*◌, ◌^◌, ◌%◌, ◌<◌, ◌≤◌, true, false, Bool, List, [], ◌∷◌, Option, Some, None, slice_get, slice_index}
use Rattle.tracer.specs.declared.alignments.Alignment.{Alignment}
use Rattle.tracer.specs.declared.alignments.Equation.{Equation}
use Rattle.tracer.specs.declared.recording.Visit.{Visit}
use Rattle.tracer.specs.declared.traces.Trace.{Trace}

-- k times a register of the entry, where there is one: k is -1 for true and 1 for false
abbrev pub entry_term : List ℕ → Option (ℕ × Bool) → ℕ
entry_term entry None = 0
entry_term entry (Some (e, true)) = 2 ^ 64 - slice_index entry e
entry_term entry (Some (e, false)) = slice_index entry e

-- a*x = b*y + k*e + c modulo 2^64
abbrev pub EquationHolds : Equation → List ℕ → Visit → Visit → Type 0
EquationHolds q entry left right =
    (q.a * slice_index left.regs q.x) % 2 ^ 64
    ≡ (q.b * slice_index right.regs q.y + entry_term entry q.e + q.c) % 2 ^ 64

-- the equation of an alignment holds of two visits; without an equation nothing does
abbrev pub HoldsBy : Option Equation → List ℕ → Visit → Visit → Type 0
HoldsBy None entry left right = ⊥
HoldsBy (Some q) entry left right = EquationHolds q entry left right

-- visit i of the left trace and visit j of the right one, counted from 1, satisfy the alignment
pub record Satisfy (alignment : Alignment) (left right : Trace) (i j : ℕ) : Type 0 where
  pub left_visit : Visit
  pub right_visit : Visit
  pub from_one : (0 < i) × (0 < j)
  pub left_is : slice_get left.visits.items (i - 1) ≡ Some left_visit
  pub right_is : slice_get right.visits.items (j - 1) ≡ Some right_visit
  pub holds : HoldsBy alignment.equation left.entry left_visit right_visit

-- The pair that follows (i, j): of the later pairs of which M holds, one with the least right visit, and of these the one
-- with the least left visit.
pub record IsNext (M : ℕ → ℕ → Type 0) (i j : ℕ) (pair : ℕ × ℕ) : Type 0 where
  pub left_later : i < pair.0
  pub right_later : j < pair.1
  pub holds : M pair.0 pair.1
  pub least_right : (k l : ℕ) → i < k → j < l → M k l → pair.1 ≤ l
  pub least_left : (k : ℕ) → i < k → M k pair.1 → pair.0 ≤ k

-- the pairs that follow (i, j), each the next of the one before it, until none follows
abbrev pub AreMatched : (ℕ → ℕ → Type 0) → ℕ → ℕ → List (ℕ × ℕ) → Type 0
AreMatched M i j [] = (k l : ℕ) → i < k → j < l → M k l → ⊥
AreMatched M i j (pair ∷ pairs) = IsNext M i j pair × AreMatched M pair.0 pair.1 pairs

-- the pairs of visits of two traces that an alignment matches
abbrev pub IsMatching : Alignment → Trace → Trace → List (ℕ × ℕ) → Type 0
IsMatching alignment left right pairs = AreMatched (Satisfy alignment left right) 0 0 pairs
