-- When a case of the table says what the definitions say.
use Rattle.std.specs.Prelude.{◌≡◌, ℕ, zero, suc, List, [], ◌∷◌, Bool, true, false, Option, Some, None, IsSomeAnd}
use Rattle.std.specs.Option.{option_map}
use Rattle.insn_ops.specs.declared.op.Flags.{Flags}
use Rattle.insn_ops.specs.declared.op.Op.{Op}
use Rattle.insn_ops.specs.declared.op.Op.TheVariants as ops
use Rattle.insn_semantics.specs.Conditions.{cond_of}
use Rattle.insn_semantics.specs.Exprs.{value}
use Rattle.insn_semantics.specs.FlagRules.{flags_after}
use Rattle.insn_semantics.specs.Rows.{AreWords, Computes, computed, row_expr}
use Rattle.insn_semantics.specs.Words.{bit}
use Rattle.processor_cases.specs.Table.{case_of}
use Rattle.processor_cases.specs.declared.case.Case.{Case}
use Rattle.processor_cases.specs.declared.case.Case.TheVariants.{Row, Condition, Vector}
use Rattle.lane_semantics.specs.VectorRows.{IsVectorRow}
use Rattle.lane_semantics.specs.Vectors.{vector_of}

-- how the table writes a flag: 2 where it is unset
abbrev pub flag_code : Option Bool → ℕ
flag_code (Some false) = 0
flag_code (Some true) = 1
flag_code None = 2

-- the five flags as numbers
abbrev pub flag_codes : Flags → List ℕ
flag_codes f = flag_code f.cf ∷ flag_code f.pf ∷ flag_code f.zf ∷ flag_code f.sf ∷ flag_code f.of ∷ []

-- the operands are in the ranges of the row
abbrev pub IsInRange : Op → ℕ → ℕ → ℕ → Type 0
IsInRange (ops.Cmov c) w a b = AreWords w a b
IsInRange (ops.Set c) w a b = w ≡ 8
IsInRange op w a b = Computes op w a b

-- the leaves of a row that reads a condition
abbrev pub conditional_leaves : ℕ → ℕ → Bool → ℕ → ℕ
conditional_leaves a b holds zero = a
conditional_leaves a b holds (suc zero) = b
conditional_leaves a b holds (suc (suc i)) = bit holds

-- the value of a row, where the condition that it reads has a value
abbrev pub row_value : Op → ℕ → ℕ → ℕ → Flags → Option ℕ
row_value (ops.Cmov c) w a b before =
    option_map (λ holds. value (conditional_leaves a b holds) (row_expr (ops.Cmov c) w b)) (cond_of c before)
row_value (ops.Set c) w a b before =
    option_map (λ holds. value (conditional_leaves a b holds) (row_expr (ops.Set c) w b)) (cond_of c before)
row_value op w a b before = Some (computed op w a b)

-- the row has this value of its operands, and leaves these flags; the condition has this value; the operation has this
-- result
abbrev pub Agrees : Case → Type 0
Agrees (Row number op w a b before result after) =
    IsInRange op w a b × (row_value op w a b before ≡ Some result) × (flag_codes (flags_after op w a b before) ≡ after)
Agrees (Condition cond flags holds) = flag_code (cond_of cond flags) ≡ holds
Agrees (Vector number op w k first second result) =
    IsVectorRow op w × (vector_of op w k first.bytes second.bytes ≡ result.bytes)

-- a line that can be read, and whose case agrees
abbrev pub LineAgrees : List ℕ → Type 0
LineAgrees line = IsSomeAnd (case_of line) Agrees
