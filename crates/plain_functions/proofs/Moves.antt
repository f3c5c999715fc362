-- What a plain move, sum or difference does to the whole state: the registers change as in the short form, the flags
-- somehow, and the place is the next one.
use Rattle.std.proofs.Common.{◌≡◌, ℕ, ◌+◌, ◌-◌, ◌^◌, ◌%◌, ◌<◌, Bool, List, [], ◌∷◌, slice_get, slice_index, slice_set, Some, sym, ◌∙◌, ap, subst, arith}
use Rattle.insn_ops.specs.declared.op.Flags.{Flags}
use Rattle.insn_ops.specs.declared.op.Op.{Op}
use Rattle.insn_ops.specs.declared.op.Op.TheVariants.{Mov, Add, Sub}
use Rattle.insn_table.specs.declared.insn.Insn.{Insn}
use Rattle.insn_table.specs.declared.insn.Operand.{Operand}
use Rattle.insn_table.specs.declared.insn.Operand.TheVariants.{Reg, Imm, Mem, Vec, Pool, Target, Nothing}
use Rattle.plain_functions.specs.Plain.{IsMoveOp, IsPlainMove, IsRegister, IsSource}
use Rattle.insn_semantics.specs.FlagRules.{flags_after}
use Rattle.machine.specs.Machine.{AreRegs, Machine}
use Rattle.runs.specs.Run.{Step, Goes}
use Rattle.machine.specs.Step.{destination_value, insn_step, source_value, step_of}
use Rattle.plain_functions.specs.Straight.{regs_after}
use Rattle.machine.proofs.Families.{step_at}
use Rattle.plain_functions.proofs.Keeping.{IsSignedWord-below}

-- the state after a plain move
abbrev pub moved : List ℕ → Insn → Machine → Machine
moved pool i s =
    record s {
      regs = regs_after i s.regs;
      flags = flags_after i.op i.w (destination_value pool i s) (source_value pool i.op i s) s.flags;
      place = s.place + 1;
    }

-- a move by its parts
abbrev move_by : Op → Bool → ℕ → Operand → Operand → Insn
move_by o vex line source target = record { op = o; w = 64; vex = vex; args = source ∷ target ∷ Nothing ∷ Nothing ∷ []; line = line }

abbrev written_by : Machine → ℕ → Flags → ℕ → Step Machine
written_by s n flags v = Goes (record s { regs = slice_set s.regs n v; flags = flags; place = s.place + 1 })

mod-small : (a : ℕ) → a < 2 ^ 64 → a % 2 ^ 64 ≡ a
mod-small a h = omega arith

sum-small : (a b : ℕ) → a < 2 ^ 64 → b < 2 ^ 64 → (a % 2 ^ 64 + b % 2 ^ 64) % 2 ^ 64 ≡ (a + b) % 2 ^ 64
sum-small a b h k = omega arith

difference-small : (a b : ℕ) → a < 2 ^ 64 → b < 2 ^ 64 → (a % 2 ^ 64 + (2 ^ 64 - b % 2 ^ 64)) % 2 ^ 64 ≡ (a + (2 ^ 64 - b)) % 2 ^ 64
difference-small a b h k = omega arith

-- from a register or an immediate below 2^64 to a register
register-moves : (pool : List ℕ) (o : Op) (vex : Bool) (line n w m v : ℕ) (s : Machine) → IsMoveOp o → AreRegs s.regs
    → insn_step pool (move_by o vex line (Reg n w) (Reg m v)) s ≡ Goes (moved pool (move_by o vex line (Reg n w) (Reg m v)) s)
register-moves pool Mov vex line n w m v s op all = ap (written_by s m _) (mod-small (slice_index s.regs n) (all.below n))
register-moves pool Add vex line n w m v s op all =
    ap (written_by s m _) (sum-small (slice_index s.regs m) (slice_index s.regs n) (all.below m) (all.below n))
register-moves pool Sub vex line n w m v s op all =
    ap (written_by s m _) (difference-small (slice_index s.regs m) (slice_index s.regs n) (all.below m) (all.below n))
register-moves pool _ vex line n w m v s op all = absurd op

immediate-moves : (pool : List ℕ) (o : Op) (vex : Bool) (line a m v : ℕ) (s : Machine) → IsMoveOp o → a < 2 ^ 64 → AreRegs s.regs
    → insn_step pool (move_by o vex line (Imm a) (Reg m v)) s ≡ Goes (moved pool (move_by o vex line (Imm a) (Reg m v)) s)
immediate-moves pool Mov vex line a m v s op small all = ap (written_by s m _) (mod-small a small)
immediate-moves pool Add vex line a m v s op small all = ap (written_by s m _) (sum-small (slice_index s.regs m) a (all.below m) small)
immediate-moves pool Sub vex line a m v s op small all = ap (written_by s m _) (difference-small (slice_index s.regs m) a (all.below m) small)
immediate-moves pool _ vex line a m v s op small all = absurd op

source-moves : (pool : List ℕ) (o : Op) (vex : Bool) (line m v : ℕ) (source : Operand) (s : Machine) → IsMoveOp o → IsSource source → AreRegs s.regs
    → insn_step pool (move_by o vex line source (Reg m v)) s ≡ Goes (moved pool (move_by o vex line source (Reg m v)) s)
source-moves pool o vex line m v (Reg n w) s op is all = register-moves pool o vex line n w m v s op all
source-moves pool o vex line m v (Imm a) s op is all = immediate-moves pool o vex line a m v s op (IsSignedWord-below a is) all
source-moves pool o vex line m v (Mem base index scale disp) s op is all = absurd is
source-moves pool o vex line m v (Vec n w) s op is all = absurd is
source-moves pool o vex line m v (Pool n) s op is all = absurd is
source-moves pool o vex line m v (Target n) s op is all = absurd is
source-moves pool o vex line m v Nothing s op is all = absurd is

target-moves : (pool : List ℕ) (o : Op) (vex : Bool) (line : ℕ) (source target : Operand) (s : Machine)
    → IsMoveOp o → IsSource source → IsRegister target → AreRegs s.regs
    → insn_step pool (move_by o vex line source target) s ≡ Goes (moved pool (move_by o vex line source target) s)
target-moves pool o vex line source (Reg m v) s op is to all = source-moves pool o vex line m v source s op is all
target-moves pool o vex line source (Imm a) s op is to all = absurd to
target-moves pool o vex line source (Mem base index scale disp) s op is to all = absurd to
target-moves pool o vex line source (Vec n w) s op is to all = absurd to
target-moves pool o vex line source (Pool n) s op is to all = absurd to
target-moves pool o vex line source (Target n) s op is to all = absurd to
target-moves pool o vex line source Nothing s op is to all = absurd to

plain-moves : (pool : List ℕ) (i : Insn) (s : Machine) → IsPlainMove i → AreRegs s.regs → insn_step pool i s ≡ Goes (moved pool i s)
plain-moves pool i s m all =
    let parts : move_by i.op i.vex i.line m.source m.target ≡ i =
    λ j. record { op = i.op; w = sym m.move.width j; vex = i.vex; args = sym m.move.args j; line = i.line }
    in
    subst (λ (x : Insn). insn_step pool x s ≡ Goes (moved pool x s)) parts
    (target-moves pool i.op i.vex i.line m.source m.target s m.op m.move.reads m.move.writes all)

-- The step at a plain move.
pub step_moves : (insns : List Insn) (pool : List ℕ) (s : Machine) (i : Insn) → slice_get insns s.place ≡ Some i → IsPlainMove i → AreRegs s.regs
    → step_of insns pool s ≡ Goes (moved pool i s)
step_moves insns pool s i h m all = step_at insns pool s i h ∙ plain-moves pool i s m all
