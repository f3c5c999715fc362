use Rattle.std.proofs.Common.{rules, Ok, Err}
use Rattle.insn_table.specs.declared.fitting.Misfit.TheVariants.{BadOperand, BadNumber}
use Rattle.insn_table.proofs.Judging.{bad_operand_clause}
use Rattle.insn_table.proofs.fitting.fits.Goals as goal

pub returns-in-None-clause-bad_operand : goal.returns-in-None-clause-bad_operand
returns-in-None-clause-bad_operand c = bad_operand_clause c.args.shape c.args.args c.args.line (Err BadOperand) (search rules)

pub returns-then-numbers_fit-clause-bad_operand : goal.returns-then-numbers_fit-clause-bad_operand
returns-then-numbers_fit-clause-bad_operand c = bad_operand_clause c.args.shape c.args.args c.args.line (Ok _) (search rules)

pub returns-else-numbers_fit-clause-bad_operand : goal.returns-else-numbers_fit-clause-bad_operand
returns-else-numbers_fit-clause-bad_operand c = bad_operand_clause c.args.shape c.args.args c.args.line (Err BadNumber) (search rules)
