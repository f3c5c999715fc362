-- The forms of each operation, and what `fits` answers.
use Rattle.std.specs.Prelude.{◌≡◌, ◌==◌, ℕ, Bool, true, false, ◌&&◌, not, List, [], ◌∷◌, Option, Some, None, Result, Ok, Err, IsTrue, max, slice_get, if◌then◌else◌}
use Rattle.std.specs.List.{find, list_any}
use Rattle.insn_ops.specs.declared.op.Op.{Op}
use Rattle.insn_ops.specs.declared.op.Op.TheVariants.{Mov, Movabs, Add, Sub, Cmp, Test, And, Or, Xor, Inc, Dec, Neg, Not, Shl, Shr, Sar, Imul, Lea, Movzx, Movsx, Cltq, Cmov, Set, Jump, Jmp, Push, Pop, Ret, Nop, Endbr64, Vector}
use Rattle.insn_ops.specs.declared.vector_op.VectorOp.TheVariants.{Moving}
use Rattle.insn_ops.specs.declared.vector_op.MoveOp.TheVariants.{Movq}
use Rattle.insn_table.specs.declared.insn.Operand.{Operand}
use Rattle.insn_table.specs.declared.insn.Operand.TheVariants.{Reg, Imm, Mem, Vec, Nothing}
use Rattle.insn_table.specs.declared.insn.Insn.{Insn}
use Rattle.insn_spellings.specs.declared.shape.Shape.{Shape}
use Rattle.insn_table.specs.declared.classes.Class.TheVariants.{Register, Writable, Readable, Source, Immediate, Wide, Count, Address, Label}
use Rattle.insn_table.specs.declared.fitting.Misfit.{Misfit}
use Rattle.insn_table.specs.declared.fitting.Misfit.TheVariants.{BadOperand, BadNumber}
use Rattle.insn_table.specs.Classes.{OperandForm, none, one, two, three, takes, numbers_fit}
use Rattle.insn_spellings.specs.Rows.{general}
use Rattle.insn_table.specs.VectorForms.{vector_forms}
use Rattle.insn_spellings.specs.Widths.{is_wide, is_shape}

-- The forms of a general operation of w bits. A move by condition has none of 8 bits, nor one of 0 bits: there its suffix
-- was left out, and its destination is no register.
abbrev pub general_forms : Op → ℕ → List OperandForm
general_forms Mov w = two (Source w) (Writable w) ∷ []
general_forms Movabs w = two Wide (Register w) ∷ []
general_forms Add w = two (Source w) (Writable w) ∷ []
general_forms Sub w = two (Source w) (Writable w) ∷ []
general_forms Cmp w = two (Source w) (Readable w) ∷ []
general_forms Test w = two (Source w) (Readable w) ∷ []
general_forms And w = two (Source w) (Writable w) ∷ []
general_forms Or w = two (Source w) (Writable w) ∷ []
general_forms Xor w = two (Source w) (Writable w) ∷ []
general_forms Inc w = one (Writable w) ∷ []
general_forms Dec w = one (Writable w) ∷ []
general_forms Neg w = one (Writable w) ∷ []
general_forms Not w = one (Writable w) ∷ []
general_forms Shl w = two (Count w) (Writable w) ∷ []
general_forms Shr w = two (Count w) (Writable w) ∷ []
general_forms Sar w = two (Count w) (Writable w) ∷ []
general_forms Imul w =
    two (Readable w) (Register w) ∷ two (Immediate w) (Register w) ∷ three (Immediate w) (Readable w) (Register w) ∷ []
general_forms Lea w = two Address (Register w) ∷ []
general_forms (Movzx from) w = two (Readable from) (Register w) ∷ []
general_forms (Movsx from) w = two (Readable from) (Register w) ∷ []
general_forms Cltq w = none ∷ []
general_forms (Cmov condition) w = if is_wide w then two (Readable w) (Register w) ∷ [] else []
general_forms (Set condition) w = one (Writable w) ∷ []
general_forms (Jump condition) w = one Label ∷ []
general_forms Jmp w = one Label ∷ []
general_forms Push w = one (Register w) ∷ []
general_forms Pop w = one (Register w) ∷ []
general_forms Ret w = none ∷ []
general_forms Nop w = none ∷ []
general_forms Endbr64 w = none ∷ []
general_forms (Vector op) w = []

-- the forms of an operation of w bits, with VEX or without
abbrev pub forms : Op → Bool → ℕ → List OperandForm
forms (Vector op) vex w = vector_forms op vex w
forms op vex w = general_forms op w

-- an operation that shifts
abbrev pub is_shift : Op → Bool
is_shift Shl = true
is_shift Shr = true
is_shift Sar = true
is_shift _ = false

-- a register or memory, and nothing else
abbrev pub is_lone : List Operand → Bool
is_lone (Reg n w ∷ Nothing ∷ rest) = true
is_lone (Mem base index scale disp ∷ Nothing ∷ rest) = true
is_lone _ = false

-- the operands with the count 1 before the first, in place of the second, which is nothing
abbrev pub counted_once : List Operand → List Operand
counted_once (first ∷ second ∷ rest) = Imm 1 ∷ first ∷ rest
counted_once args = args

-- a shift of a lone operand has the count 1
abbrev pub completed : Op → List Operand → List Operand
completed op args = if is_shift op && is_lone args then counted_once args else args

-- the width of a general register
abbrev pub register_width : Option Operand → ℕ
register_width (Some (Reg n w)) = w
register_width _ = 0

-- the width of a vector register
abbrev pub vector_register_width : Operand → ℕ
vector_register_width (Vec n w) = w
vector_register_width _ = 0

-- the width of the widest vector register among the operands, 0 where there is none
abbrev pub widest : List Operand → ℕ
widest [] = 0
widest (a ∷ args) = max (vector_register_width a) (widest args)

-- the width that the operands tell where the shape has none: with VEX the widest vector's, else the destination's
abbrev pub told_width : Bool → List Operand → ℕ
told_width vex args = if vex then widest args else register_width (slice_get args 1)

-- the width of a form
abbrev pub width_of : Shape → List Operand → ℕ
width_of shape args = if shape.w == 0 then told_width shape.vex args else shape.w

-- `movq` names the general move of 64 bits
abbrev pub is_quadword_move : Op → ℕ → Bool → Bool
is_quadword_move Mov w vex = not vex && w == 64
is_quadword_move _ w vex = false

-- a vector register
abbrev pub is_vector : Operand → Bool
is_vector (Vec n w) = true
is_vector _ = false

-- the shape of the row that the operands choose: `movq` with a vector register is the move of vectors
abbrev pub chosen : Shape → List Operand → Shape
chosen shape args =
    if is_quadword_move shape.op shape.w shape.vex && list_any is_vector args
    then general (Vector (Moving Movq)) 128 else shape

-- the instruction of a row with these operands, with its width and its count written out
abbrev pub insn_with : Shape → List Operand → ℕ → Insn
insn_with row args line =
    record { op = row.op; w = width_of row args; vex = row.vex; args = completed row.op args; line = line }

-- the instruction of this shape with these operands
abbrev pub insn_of : Shape → List Operand → ℕ → Insn
insn_of shape args line = insn_with (chosen shape args) args line

-- the first form that takes the instruction's kinds of operands, where a mnemonic names the shape
abbrev pub found_form : Shape → Insn → Option OperandForm
found_form shape i = if is_shape shape then find (takes i.args) (forms i.op i.vex i.w) else None

-- the instruction where this form was found and takes its numbers
abbrev pub judged_by : Option OperandForm → Insn → Result Insn Misfit
judged_by None i = Err BadOperand
judged_by (Some form) i = if numbers_fit i.args form then Ok i else Err BadNumber

-- the instruction of this shape with these operands, or why there is none
abbrev pub fits_of : Shape → List Operand → ℕ → Result Insn Misfit
fits_of shape args line = let i = insn_of shape args line in judged_by (found_form shape i) i

-- a mnemonic names the shape, and a form takes the instruction's kinds of operands
pub record HasForm (shape : Shape) (i : Insn) : Type 0 where
  pub named : IsTrue (is_shape shape)
  pub taken : IsTrue (list_any (takes i.args) (forms i.op i.vex i.w))

-- the first form that takes the kinds of operands doesn't take the numbers
pub record HasBadNumber (shape : Shape) (i : Insn) : Type 0 where
  pub form : OperandForm
  pub first : found_form shape i ≡ Some form
  pub beyond : numbers_fit i.args form ≡ false
