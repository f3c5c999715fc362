-- The case that a line of the table spells. A flag is written 0 or 1, and 2 where it is unset, in the order carry,
-- parity, zero, sign, overflow. A line is one of
--   0 OPERATION WIDTH DESTINATION SOURCE BEFORE.. VALUE AFTER..   a general operation, by its number
--   2 CONDITION WIDTH DESTINATION SOURCE BEFORE.. VALUE AFTER..   the `cmovCC` of a condition, by its number
--   3 CONDITION WIDTH DESTINATION SOURCE BEFORE.. VALUE AFTER..   the `setCC` of a condition
--   1 CONDITION FLAGS.. HOLDS                                     whether a condition holds: 0, 1, or 2 for no answer
--   4 ROW WIDTH IMMEDIATE FIRST.. SECOND.. RESULT..               a vector row by lane, by its number
--   5 ROW WIDTH IMMEDIATE FIRST.. SECOND.. RESULT..               another vector row
-- A vector is written as four words of 64 bits, the lowest first.
use Rattle.std.specs.Prelude.{ℕ, ◌+◌, ◌==◌, Bool, List, [], ◌∷◌, Option, Some, None, ◌&&◌, length, nat_lt, slice_get, slice_index, if◌then◌else◌}
use Rattle.std.specs.Option.{option_and_then, option_map}
use Rattle.insn_ops.specs.declared.op.Cond.{Cond}
use Rattle.insn_ops.specs.declared.op.Cond.TheVariants as conds
use Rattle.insn_ops.specs.declared.op.Flags.{Flags}
use Rattle.insn_ops.specs.declared.op.Op.{Op}
use Rattle.insn_ops.specs.declared.op.Op.TheVariants as ops
use Rattle.insn_ops.specs.declared.vector_op.VectorOp.{VectorOp}
use Rattle.lane_views.specs.declared.vector.Bytes32.{Bytes32}
use Rattle.processor_cases.specs.Numbers.{numbers_of}
use Rattle.processor_cases.specs.declared.case.Case.{Case}
use Rattle.processor_cases.specs.declared.case.Case.TheVariants.{Row, Condition, Vector}
use Rattle.processor_cases.specs.VectorNumbers.{lane_rows, other_rows}
use Rattle.lane_semantics.specs.Vectors.{lanes_in_turn}

-- the general operations, each at its number
abbrev pub operations : List Op
operations =
    ops.Mov ∷ ops.Movabs ∷ ops.Add ∷ ops.Sub ∷ ops.Cmp ∷ ops.Test ∷ ops.And ∷ ops.Or ∷ ops.Xor ∷ ops.Inc ∷ ops.Dec ∷ ops.Neg
    ∷ ops.Not ∷ ops.Shl ∷ ops.Shr ∷ ops.Sar ∷ ops.Imul ∷ ops.Lea ∷ ops.Movzx 8 ∷ ops.Movzx 16 ∷ ops.Movsx 8 ∷ ops.Movsx 16
    ∷ ops.Movsx 32 ∷ ops.Cltq ∷ []

-- the conditions, each at its number
abbrev pub conditions : List Cond
conditions =
    conds.E ∷ conds.Ne ∷ conds.B ∷ conds.Ae ∷ conds.Be ∷ conds.A ∷ conds.L ∷ conds.Ge ∷ conds.Le ∷ conds.G ∷ conds.S ∷ conds.Ns
    ∷ conds.O ∷ conds.No ∷ conds.P ∷ conds.Np ∷ []

-- the operation of a row: its kind and its number
abbrev pub operation_of : ℕ → ℕ → Option Op
operation_of kind number =
    if kind == 0 then slice_get operations number
    else (if kind == 2 then option_map (λ c. ops.Cmov c) (slice_get conditions number)
    else (if kind == 3 then option_map (λ c. ops.Set c) (slice_get conditions number)
    else None))

-- a flag as it is written
abbrev pub flag_of : ℕ → Option Bool
flag_of n = if n == 2 then None else Some (n == 1)

-- five flags are written from place i on, and which they are
abbrev pub has_flags : List ℕ → ℕ → Bool
has_flags ns i =
    nat_lt (slice_index ns i) 3
    && (nat_lt (slice_index ns (i + 1)) 3
    && (nat_lt (slice_index ns (i + 2)) 3
    && (nat_lt (slice_index ns (i + 3)) 3 && nat_lt (slice_index ns (i + 4)) 3)))

-- the flags of five numbers, from the i-th on
abbrev pub flags_from : List ℕ → ℕ → Flags
flags_from ns i = record {
  cf = flag_of (slice_index ns i);
  pf = flag_of (slice_index ns (i + 1));
  zf = flag_of (slice_index ns (i + 2));
  sf = flag_of (slice_index ns (i + 3));
  of = flag_of (slice_index ns (i + 4));
}

-- the case of an operation, with its numbers at their places
abbrev pub row_of : List ℕ → Op → Case
row_of ns op =
    Row (slice_index ns 1) op (slice_index ns 2) (slice_index ns 3) (slice_index ns 4) (flags_from ns 5) (slice_index ns 10)
    (slice_index ns 11 ∷ slice_index ns 12 ∷ slice_index ns 13 ∷ slice_index ns 14 ∷ slice_index ns 15 ∷ [])

-- the case of 16 numbers, and of 8
abbrev pub row_case : List ℕ → Option Case
row_case ns =
    if nat_lt (slice_index ns 2) 65 && has_flags ns 5
    then option_map (row_of ns) (operation_of (slice_index ns 0) (slice_index ns 1))
    else None

-- the case of a condition, of eight numbers
abbrev pub condition_case : List ℕ → Option Case
condition_case ns =
    if (slice_index ns 0 == 1) && has_flags ns 2
    then option_map (λ cond. Condition cond (flags_from ns 2) (slice_index ns 7)) (slice_get conditions (slice_index ns 1))
    else None

-- the vector operation of a row: its kind and its number
abbrev pub vector_operation : ℕ → ℕ → Option VectorOp
vector_operation kind number =
    if kind == 4 then slice_get lane_rows number else (if kind == 5 then slice_get other_rows number else None)

-- the vector that is written from place i on
abbrev pub vector_from : List ℕ → ℕ → Bytes32
vector_from ns i = record { bytes = lanes_in_turn 64 (λ k. slice_index ns (i + k)) 4 }

-- the case of a vector operation: the width, the immediate, both arguments and the result
abbrev pub vector_row : List ℕ → VectorOp → Case
vector_row ns op =
    Vector (slice_index ns 1) op (slice_index ns 2) (slice_index ns 3) (vector_from ns 4) (vector_from ns 8) (vector_from ns 12)

-- the case that 16 numbers are, where the width and the immediate are in their ranges
abbrev pub vector_case : List ℕ → Option Case
vector_case ns =
    if nat_lt (slice_index ns 2) 257 && nat_lt (slice_index ns 3) 256
    then option_map (vector_row ns) (vector_operation (slice_index ns 0) (slice_index ns 1))
    else None

-- 16 numbers are a case of a vector operation where they begin with 4 or more
abbrev pub long_case : List ℕ → Option Case
long_case ns = if nat_lt (slice_index ns 0) 4 then row_case ns else vector_case ns

-- the case that so many numbers are
abbrev pub case_of_numbers : List ℕ → Option Case
case_of_numbers ns = if length ns == 16 then long_case ns else (if length ns == 8 then condition_case ns else None)

-- the case of a line
abbrev pub case_of : List ℕ → Option Case
case_of line = option_and_then case_of_numbers (numbers_of line)
