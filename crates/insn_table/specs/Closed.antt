-- Closed functions: those that can be run from any of their instructions on.
use Rattle.std.specs.Prelude.{◌≡◌, ℕ, ◌-◌, ◌^◌, ◌<◌, List, length, slice_get, Some}
use Rattle.std.specs.List.{AllByRecursion}
use Rattle.insn_ops.specs.declared.op.Op.{Op}
use Rattle.insn_ops.specs.declared.op.Op.TheVariants.{Jmp, Ret}
use Rattle.insn_table.specs.declared.insn.Operand.{Operand}
use Rattle.insn_table.specs.declared.insn.Operand.TheVariants.{Target}
use Rattle.insn_table.specs.declared.insn.Insn.{Insn}
use Rattle.insn_table.specs.Table.{IsTableInsn}

-- a jump's target is one of n instructions
abbrev pub IsInside : ℕ → Operand → Type 0
IsInside n (Target place) = place < n
IsInside n _ = Unit {0}

-- a return or a jump: what a function may end in
abbrev pub IsLeaving : Op → Type 0
IsLeaving Ret = Unit {0}
IsLeaving Jmp = Unit {0}
IsLeaving _ = ⊥

-- A closed function has an instruction and fewer than 2^32, each is one of the table and goes to one of them, and the
-- last one leaves.
pub record IsClosed (insns : List Insn) : Type 0 where
  pub some : 0 < length insns
  pub few : length insns < 2 ^ 32
  pub each : (k : ℕ) (i : Insn) → slice_get insns k ≡ Some i → IsTableInsn i
  pub targets : (k : ℕ) (i : Insn) → slice_get insns k ≡ Some i
      → AllByRecursion (IsInside (length insns)) i.args
  pub last : (i : Insn) → slice_get insns (length insns - 1) ≡ Some i → IsLeaving i.op
