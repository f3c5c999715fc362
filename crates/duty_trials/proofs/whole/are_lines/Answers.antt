use Rattle.duty_claims.specs.Whole.{IsLine}
use Rattle.duty_trials.proofs.Elements.{all_more}
use Rattle.duty_trials.proofs.whole.are_lines.Goals as goal

pub loop-line-preserved : goal.loop-line-preserved
loop-line-preserved c =
    all_more (IsLine c.args.built.now.sheet) c.args.scratch.now c.loop-line.line-index _ c.loop-line-test.true c.loop-line.invariant
    (c.in_ok-is_line.ensures c.if-not-branch.false)
