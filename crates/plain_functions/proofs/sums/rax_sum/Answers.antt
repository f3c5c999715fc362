use Rattle.std.proofs.Common.{arith}
use Rattle.plain_functions.proofs.Tracking.{tracks-more}
use Rattle.plain_functions.proofs.sums.rax_sum.Goals as goal

pub loop-insn-preserved : goal.loop-insn-preserved
loop-insn-preserved c = (
  omega arith,
  λ start are. tracks-more _ _ _ _ start c.loop-insn-test.true (c.advance.ensures start _ (c.loop-insn.invariant.1 start are)),
)
