-- The rows of instructions that can be run have their widths.
use Rattle.std.proofs.Common.{◌≡◌, ℕ, ◌<◌, ◌≤◌, true, refl, sym, ◌∙◌, ap, inl, inr, arith}
use Rattle.insn_ops.specs.declared.op.Op.{Op}
use Rattle.insn_ops.specs.declared.op.Op.TheVariants as ops
use Rattle.insn_ops.specs.Outputs.{IsWidth}
use Rattle.insn_table.specs.declared.insn.Insn.{Insn}
use Rattle.insn_table.specs.declared.insn.Operand.{Operand}
use Rattle.insn_table.specs.declared.insn.Operand.TheVariants.{Imm}
use Rattle.insn_semantics.specs.FormedRows.{HasRowWidth}
use Rattle.insn_semantics.specs.OperationGroups.{is_shift}
use Rattle.machine.specs.Family.{family_of}
use Rattle.machine.specs.Operands.{operand}
use Rattle.machine.specs.Runnable.{HasCount, HasRowOf, HasWidth}
use Rattle.sym_general.specs.Operands.{HasCountOf}
use Rattle.sym_general.specs.Results.{IsGeneral}

pub width_ranged : (w : ℕ) → IsWidth w → (8 ≤ w) × (w ≤ 64)
width_ranged w (inl e) = (omega (arith, e), omega (arith, e))
width_ranged w (inr (inl e)) = (omega (arith, e), omega (arith, e))
width_ranged w (inr (inr (inl e))) = (omega (arith, e), omega (arith, e))
width_ranged w (inr (inr (inr e))) = (omega (arith, e), omega (arith, e))

abbrev immediate : Operand → ℕ
immediate (Imm v) = v
immediate _ = 0

counted : (i : Insn) (k : ℕ) → IsWidth i.w → HasCount i → operand i 0 ≡ Imm k → (0 < k) × (k < i.w) × (i.w ≤ 64)
counted i k width row is =
    let same : k ≡ row.count = ap immediate (sym is ∙ row.source) in
    (omega (arith, same, row.some), omega (arith, same, row.below), (width_ranged i.w width).1)

widened : (m w : ℕ) → IsWidth w → IsWidth m × (m < w) → (0 < m) × (m < w) × (w ≤ 64)
widened m w width row = (omega (arith, (width_ranged m row.0).0), row.1, (width_ranged w width).1)

some : (w : ℕ) → IsWidth w → (0 < w) × (w ≤ 64)
some w width = (omega (arith, (width_ranged w width).0), (width_ranged w width).1)

row_width : (op : Op) (i : Insn) (k : ℕ) → IsGeneral op → HasWidth (family_of op) i.w → HasRowOf op i
    → (is_shift op ≡ true → operand i 0 ≡ Imm k) → HasRowWidth op i.w k
row_width ops.Shl i k g width row count = counted i k width row (count refl)
row_width ops.Shr i k g width row count = counted i k width row (count refl)
row_width ops.Sar i k g width row count = counted i k width row (count refl)
row_width (ops.Movzx m) i k g width row count = widened m i.w width row
row_width (ops.Movsx m) i k g width row count = widened m i.w width row
row_width ops.Cltq i k g width row count = row
row_width (ops.Set c) i k g width row count = row
row_width (ops.Vector op) i k g width row count = absurd g
row_width _ i k g width row count = some i.w width

pub runnable_rows : (i : Insn) (k : ℕ) → IsGeneral i.op → HasWidth (family_of i.op) i.w → HasRowOf i.op i → HasCountOf i k
    → HasRowWidth i.op i.w k
runnable_rows i k g width row count = row_width i.op i k g width row count

-- of each, 8 bits at least
general_width : (op : Op) (w : ℕ) → IsGeneral op → HasWidth (family_of op) w → IsWidth w
general_width (ops.Vector op) w g width = absurd g
general_width _ w g width = width

pub general_bits : (i : Insn) → IsGeneral i.op → HasWidth (family_of i.op) i.w → (8 ≤ i.w) × (i.w ≤ 64)
general_bits i g width = width_ranged i.w (general_width i.op i.w g width)
