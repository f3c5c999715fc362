use Rattle.std.proofs.Common.{length}
use Rattle.insn_table.proofs.fitting.+widest.Given as goal

abbrev pub decreases-widest : goal.decreases-widest
decreases-widest l = length l.args.now
