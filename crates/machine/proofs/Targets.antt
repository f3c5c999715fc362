-- What a row's operands need is what its instruction has.
use Rattle.std.proofs.Common.{ℕ, ◌-◌, ◌==◌, Bool, true, false, if◌then◌else◌, lit<}
use Rattle.insn_ops.specs.declared.op.Op.{Op}
use Rattle.insn_ops.specs.declared.op.Op.TheVariants as ops
use Rattle.insn_table.specs.Table.{HasRegisters}
use Rattle.insn_table.specs.declared.insn.Insn.{Insn}
use Rattle.insn_table.specs.declared.insn.Operand.{Operand}
use Rattle.machine.specs.Access.{arity}
use Rattle.machine.specs.Operands.{operand}
use Rattle.machine.proofs.RowValues.{source_is_width}
use Rattle.machine.specs.Step.{destination_operand, source_operand, target_operand}

-- the target of a row has registers that there are
pub target_numbers : (op : Op) (i : Insn) → ((n : ℕ) → HasRegisters (operand i n)) → HasRegisters (target_operand op i)
target_numbers ops.Cltq i h = lit< tt
target_numbers _ i h = h (arity i - 1)

-- the source of a row has registers that there are
pub source_numbers : (op : Op) (i : Insn) → ((n : ℕ) → HasRegisters (operand i n)) → HasRegisters (source_operand op i)
source_numbers ops.Cltq i h = lit< tt
source_numbers _ i h = h 0

chosen : (b : Bool) (x y : Operand) → HasRegisters x → HasRegisters y → HasRegisters (if b then x else y)
chosen true x y h k = h
chosen false x y h k = k

-- the destination of a row has registers that there are
pub destination_numbers : (op : Op) (i : Insn) → ((n : ℕ) → HasRegisters (operand i n)) → HasRegisters (destination_operand op i)
destination_numbers ops.Cltq i h = lit< tt
destination_numbers _ i h = chosen (arity i == 1) (operand i 0) (operand i 1) (h 0) (h 1)

pub ruleset targets = (target_numbers, source_numbers, destination_numbers, source_is_width)
