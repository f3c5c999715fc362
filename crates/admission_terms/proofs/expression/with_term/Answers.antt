use Rattle.std.proofs.Common.{◌∙◌}
use Rattle.admission_terms.proofs.Joined.{joined_alike}
use Rattle.admission_terms.proofs.Longer.{later_value}
use Rattle.admission_terms.proofs.expression.with_term.Goals as goal

pub returns-clause-value : goal.returns-clause-value
returns-clause-value c e =
    c.in_ok-joined.ensures.value e ∙ joined_alike c.args.term.minus _ _ _ _
    (later_value c.args.sheet.now c.in_order.ensures.sheet c.multiple_of.new.sheet c.in_ok-id.ensures.extends e c.args.sum.0 c.requires.sum.0)
    (c.in_ok-id.ensures.value e)
