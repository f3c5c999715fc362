use Rattle.std.proofs.Common.{sym, ◌∙◌, rules}
use Rattle.att_bodies.proofs.CodeSteps.{last-shared, last-before}
use Rattle.att_bodies.proofs.body.last_line.Goals as goal

pub returns-then-stands_on : goal.returns-then-stands_on
returns-then-stands_on c =
    last-shared c.args.lines c.args.body.now c.args.after.now _ _ c.line_of-line.result c.in-Some.ensures.cases.0 c.line_of-line.ensures (sym c.stands_on.ensures ∙ c.if-stands_on.true)

pub returns-else-stands_on : goal.returns-else-stands_on
returns-else-stands_on c =
    last-before c.args.lines c.args.body.now c.args.after.now _ _ c.line_of-line.result c.saturating_sub.result c.in-Some.ensures.cases.0 c.line_of-line.ensures
    (sym c.stands_on.ensures ∙ c.if-stands_on.false) (search rules)
