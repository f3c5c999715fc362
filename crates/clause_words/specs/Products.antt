-- The row of a product of words: a's multiples by b's bits, added up stage by stage.
use Rattle.std.specs.Prelude.{ℕ, zero, suc, ◌+◌, ◌-◌, ◌*◌, List, ◌++◌}
use Rattle.clauses.specs.declared.clause.Lit.{Lit}
use Rattle.clause_gates.specs.Gates.{copy_gate, positive}
use Rattle.clause_words.specs.Rows.{bit, columns, row_clauses}
use Rattle.clause_words.specs.declared.row.Row.TheVariants.{Sum, Times}

-- The first helper of stage k + 1. Stage 0 has w helpers, its sum; a stage on n bits has n for the multiple, n for the
-- sum and n - 1 for the carries.
abbrev pub stage_start : ℕ → ℕ → ℕ → ℕ
stage_start w h zero = h + w
stage_start w h (suc k) = stage_start w h k + (3 * (w - suc k) - 1)

-- the sum after stage k, from bit k on: the bits below it stay in all later stages
abbrev pub sum_start : ℕ → ℕ → ℕ → ℕ
sum_start w h zero = h
sum_start w h (suc k) = stage_start w h k + (w - suc k)

-- a stage on n bits: the multiple of a by the bit b is added to a sum
abbrev pub stage_rows : ℕ → ℕ → ℕ → ℕ → ℕ → List (List Lit)
stage_rows n a b start sum =
    row_clauses n (Times start a b) ++ row_clauses n (Sum n (start + n) sum start (start + n + n))

-- Stage k + 1: on the bits from k + 1 on, a multiplied by bit k + 1 of b is added to the sum so far.
abbrev pub stage_clauses : ℕ → ℕ → ℕ → ℕ → ℕ → List (List Lit)
stage_clauses w a b h k = stage_rows (w - suc k) a (b + suc k) (stage_start w h k) (sum_start w h k + 1)

-- The row of a product of w bits. Bit k of the result is that of the sum after stage k.
abbrev pub product_row : ℕ → ℕ → ℕ → ℕ → ℕ → List (List Lit)
product_row w r a b h =
    row_clauses w (Times h a b) ++ (columns (stage_clauses w a b h) (w - 1)
    ++ columns (λ k. copy_gate (bit r k) (positive (sum_start w h k))) w)

-- how many helpers it has
abbrev pub product_helpers : ℕ → ℕ
product_helpers w = stage_start w 0 (w - 1)
