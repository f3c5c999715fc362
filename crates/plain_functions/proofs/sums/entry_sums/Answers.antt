use Rattle.std.proofs.Common.{arith}
use Rattle.plain_functions.proofs.Tracking.{entry-tracks}
use Rattle.plain_functions.proofs.sums.entry_sums.Goals as goal

pub returns : goal.returns
returns c = entry-tracks c.loop-n.sums c.loop-n.invariant.0 (λ regs l k s low h. c.loop-n.invariant.1 regs l k s (omega arith) h)
