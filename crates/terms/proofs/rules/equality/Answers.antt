use Rattle.std.proofs.Common.{sym, ◌∙◌}
use Rattle.terms.proofs.EqualityRule.{equality_fails, equality_holds}
use Rattle.terms.proofs.rules.equality.Goals as goal

pub returns-then-c-eq0 : goal.returns-then-c-eq0
returns-then-c-eq0 c =
    equality_holds c.args.nodes.now c.args.widths.now c.requires.list c.args.a c.args.b c.requires.alike c.in-Some.c (sym c.in-Some.is ∙ c.in_ok-c.ensures)
    c.if-c-eq0.true

pub returns-else-c-eq0 : goal.returns-else-c-eq0
returns-else-c-eq0 c =
    equality_fails c.args.nodes.now c.args.widths.now c.requires.list c.args.a c.args.b c.requires.alike c.in-Some.c (sym c.in-Some.is ∙ c.in_ok-c.ensures)
    c.if-c-eq0.false
