use Rattle.std.proofs.Common.{◌+◌, ◌∙◌, sym, arith}
use Rattle.text_lines.proofs.CodeSteps.{line-less, long-here, long-later, long-end}
use Rattle.text_lines.proofs.faults.long_line.Goals as goal

pub returns-then-here-gt-LINE_LIMIT : goal.returns-then-here-gt-LINE_LIMIT
returns-then-here-gt-LINE_LIMIT c =
    sym (long-here (c.loop-here.line + 1) c.loop-here.rest.now c.in-Some.here.now c.in-Some.after.now (sym c.in-Some.ensures) c.if-here-gt-LINE_LIMIT.true) ∙ c.loop-here.invariant.0

pub loop-here-smaller : goal.loop-here-smaller
loop-here-smaller c = line-less c.loop-here.rest.now c.in-Some.here.now c.in-Some.after.now (sym c.in-Some.ensures)

pub loop-here-preserved : goal.loop-here-preserved
loop-here-preserved c = (
  long-later (c.loop-here.line + 1) c.loop-here.rest.now c.in-Some.here.now c.in-Some.after.now (sym c.in-Some.ensures) c.if-here-gt-LINE_LIMIT.false ∙ c.loop-here.invariant.0,
  omega (arith, c.loop-here.invariant.1, line-less c.loop-here.rest.now c.in-Some.here.now c.in-Some.after.now (sym c.in-Some.ensures)),
)

pub returns : goal.returns
returns c = sym (long-end (c.loop-here.line + 1) c.loop-here.rest.now (sym c.in_default.ensures)) ∙ c.loop-here.invariant.0
