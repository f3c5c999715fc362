use Rattle.std.proofs.Common.{arith}
use Rattle.align_report.proofs.RegisterLines.{lines-all, lines-more}
use Rattle.align_report.proofs.plain_report.push_registers.Goals as goal

pub loop-n-preserved : goal.loop-n-preserved
loop-n-preserved c = lines-more c.args.regs.now _ _ _ _ c.loop-n.n (omega arith) c.name_of.ensures c.in_ok-push_register.ensures c.loop-n.invariant

pub returns : goal.returns
returns c = lines-all c.args.regs.now _ _ c.loop-n.n (omega arith) c.loop-n.invariant
