use Rattle.std.proofs.Common.{sym, ◌∙◌}
use Rattle.std.proofs.lemmas.Bool.{ltb-true}
use Rattle.att_bodies.proofs.CodeSteps.{known-first}
use Rattle.att_bodies.proofs.labels.BodyLabels.is_known_first.Goals as goal

pub returns-then-place-self : goal.returns-then-place-self
returns-then-place-self c named =
    known-first c.args.self.now.body.now c.args.place c.args.self.now.distinct c.in-Some.item.now c.args.name.now (ltb-true _ _ (sym c.in-Some.ensures.lookup.0))
    c.args.self.now.once c.if-place-self.true (sym c.in-Some.ensures.lookup.1) (sym c.is_label.ensures ∙ named)
