-- What the code of a step needs before it changes the state, and what it has done at the end of a row.
use Rattle.std.specs.Prelude.{◌≡◌, ℕ, true, if◌then◌else◌}
use Rattle.insn_ops.specs.declared.op.Flags.{Flags}
use Rattle.insn_table.specs.declared.insn.Insn.{Insn}
use Rattle.insn_table.specs.Table.{HasRegisters}
use Rattle.machine.specs.declared.operands.Family.{Family}
use Rattle.machine.specs.Access.{allows_by, writes}
use Rattle.machine.specs.Family.{family_of}
use Rattle.machine.specs.Kept.{Kept, pure_of}
use Rattle.machine.specs.Machine.{Machine}
use Rattle.machine.specs.Operands.{operand, with_value}
use Rattle.machine.specs.Runnable.{HasRowOf, HasWidth}
use Rattle.machine.specs.Step.{target_operand}

-- the state after a row that has given this result and these flags
abbrev pub finished_row : Insn → Machine → ℕ → Flags → Machine
finished_row i s result flags =
    record (if writes i.op then with_value i.w s (target_operand i.op i) result else s) { flags = flags }

-- an instruction of this family, whose tests hold
pub record IsReady (kind : Family) (i : Insn) (k : Kept) : Type 0 where
  pub width : HasWidth kind i.w
  pub numbers : (n : ℕ) → HasRegisters (operand i n)
  pub row : HasRowOf i.op i
  pub family : family_of i.op ≡ kind
  pub allowed : allows_by kind i (pure_of k) ≡ true
