use Rattle.text_lines.proofs.CodeSteps.{visible-passes, visible-fails, visible-ends}
use Rattle.text_lines.proofs.cuts.visible_part.Goals as goal

pub returns-then-line-end-eq35 : goal.returns-then-line-end-eq35
returns-then-line-end-eq35 c = visible-fails c.args.line.now c.loop-end.end c.loop-end.invariant c.loop-end-test.true c.if-line-end-eq35.true

pub loop-end-preserved : goal.loop-end-preserved
loop-end-preserved c = visible-passes c.args.line.now c.loop-end.end c.loop-end.invariant c.loop-end-test.true c.if-line-end-eq35.false

pub returns : goal.returns
returns c = visible-ends c.args.line.now c.loop-end.end c.loop-end.invariant c.loop-end-test.false
