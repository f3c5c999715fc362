-- Plain moves keep registers of 64 bits: sixteen of them, each below 2^64.
use Rattle.std.proofs.Common.{◌≡◌, ℕ, ◌^◌, ◌<◌, inl, inr, List, [], ◌∷◌, length, slice_get, slice_index, slice_set, unwrap_or, subst, sym, arith}
use Rattle.std.proofs.Math.ListN.{length-set}
use Rattle.std.specs.List.{AllByRecursion}
use Rattle.std.proofs.lemmas.Grind.{common_steps}
use Rattle.insn_ops.specs.declared.op.Op.{Op}
use Rattle.insn_ops.specs.declared.op.Op.TheVariants.{Mov, Add, Sub}
use Rattle.insn_table.specs.declared.insn.Operand.{Operand}
use Rattle.insn_table.specs.declared.insn.Operand.TheVariants.{Reg, Imm, Mem, Vec, Pool, Target, Nothing}
use Rattle.insn_table.specs.declared.insn.Insn.{Insn}
use Rattle.plain_functions.specs.Plain.{IsMoveOf, IsPlainMove, IsRegister, IsSignedWord, IsSource}
use Rattle.machine.specs.Machine.{AreRegs}
use Rattle.machine.specs.Operands.{operand}
use Rattle.machine.proofs.Keeping.{set-below}
use Rattle.plain_functions.specs.Straight.{plain_result, regs_after, regs_through, value_at, regs_with}

-- an immediate is below 2^64
pub IsSignedWord-below : (v : ℕ) → IsSignedWord v → v < 2 ^ 64
IsSignedWord-below v (inl small) = omega arith
IsSignedWord-below v (inr large) = large.1

value-below : (o : Operand) (regs : List ℕ) → IsSource o → AreRegs regs → value_at regs o < 2 ^ 64
value-below (Reg n w) regs is all = all.below n
value-below (Imm v) regs is all = IsSignedWord-below v is
value-below (Mem base index scale disp) regs is all = absurd is
value-below (Vec n w) regs is all = absurd is
value-below (Pool n) regs is all = absurd is
value-below (Target n) regs is all = absurd is
value-below Nothing regs is all = absurd is

computed-below : (o : Op) (old value : ℕ) → old < 2 ^ 64 → value < 2 ^ 64 → plain_result o old value < 2 ^ 64
computed-below Mov old value h k = k
computed-below Add old value h k = omega arith
computed-below Sub old value h k = omega arith
computed-below _ old value h k = h

written-regs : (o : Operand) (regs : List ℕ) (v : ℕ) → IsRegister o → AreRegs regs → v < 2 ^ 64 → AreRegs (regs_with regs o v)
written-regs (Reg r w) regs v is all small = record {
  sixteen = simp length-set all.sixteen;
  below = λ n. set-below regs r v n (omega (arith, all.sixteen, is.0)) small (all.below n);
}
written-regs (Imm a) regs v is all small = absurd is
written-regs (Mem base index scale disp) regs v is all small = absurd is
written-regs (Vec n w) regs v is all small = absurd is
written-regs (Pool n) regs v is all small = absurd is
written-regs (Target n) regs v is all small = absurd is
written-regs Nothing regs v is all small = absurd is

-- a register can be a source
source_too : (o : Operand) → IsRegister o → IsSource o
source_too (Reg n w) is = is
source_too (Imm v) is = absurd is
source_too (Mem base index scale disp) is = absurd is
source_too (Vec n w) is = absurd is
source_too (Pool n) is = absurd is
source_too (Target n) is = absurd is
source_too Nothing is = absurd is

-- a plain move keeps registers of 64 bits
pub move_keeps_regs : (i : Insn) (source target : Operand) (regs : List ℕ) → IsMoveOf i source target → AreRegs regs → AreRegs (regs_after i regs)
move_keeps_regs i source target regs m all =
    let first : source ≡ operand i 0 = λ j. unwrap_or (slice_get (sym m.args j) 0) Nothing in
    let second : target ≡ operand i 1 = λ j. unwrap_or (slice_get (sym m.args j) 1) Nothing in
    let reads = subst IsSource first m.reads in
    let writes = subst IsRegister second m.writes in
    written-regs (operand i 1) regs _ writes all
    (computed-below i.op _ _ (value-below (operand i 1) regs (source_too (operand i 1) writes) all) (value-below (operand i 0) regs reads all))

-- plain moves keep registers of 64 bits
pub moves_keep_regs : (moves : List Insn) (regs : List ℕ) → AllByRecursion IsPlainMove moves → AreRegs regs → AreRegs (regs_through moves regs)
moves_keep_regs [] regs each all = all
moves_keep_regs (i ∷ is) regs each all =
    moves_keep_regs is (regs_after i regs) each.1 (move_keeps_regs i each.0.source each.0.target regs each.0.move all)
