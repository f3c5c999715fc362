use Rattle.std.proofs.Common.{length}
use Rattle.insn_table.proofs.fitting.+each_takes.Given as goal

abbrev pub decreases-each_takes : goal.decreases-each_takes
decreases-each_takes l = length l.form.now
