use Rattle.std.proofs.Common.{sym, ◌∙◌}
use Rattle.insn_table.proofs.Built.{made_of_table}
use Rattle.insn_table.proofs.assembling.assemble.Goals as goal

pub returns-then-have_registers-clause-table : goal.returns-then-have_registers-clause-table
returns-then-have_registers-clause-table c =
    made_of_table c.args.mnemonic.now c.in_ok-shape.shape c.in_ok-args.args c.args.line c.in_ok-insn.insn
    (sym c.look_up.ensures ∙ c.in_ok-shape.ensures.ok_part) (sym c.fits.ensures.is ∙ c.in_ok-insn.was)
    (sym c.have_registers.ensures ∙ c.if-have_registers.true)
