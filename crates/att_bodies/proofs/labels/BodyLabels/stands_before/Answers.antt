use Rattle.std.proofs.Common.{sym, ap, ◌∙◌}
use Rattle.att_bodies.specs.Labelled.{labelled}
use Rattle.att_bodies.proofs.CodeSteps.{before_by, before-first}
use Rattle.att_bodies.proofs.labels.BodyLabels.stands_before.Goals as goal

pub returns-in-Some : goal.returns-in-Some
returns-in-Some c =
    ap (before_by c.args.place) (c.in-Some.ensures.value ∙ c.args.self.now.kept c.args.name.now) ∙ sym (before-first (labelled c.args.self.now) c.args.name.now c.args.place)

pub returns-in-None : goal.returns-in-None
returns-in-None c =
    ap (before_by c.args.place) (c.in-None.ensures.value ∙ c.args.self.now.kept c.args.name.now) ∙ sym (before-first (labelled c.args.self.now) c.args.name.now c.args.place)
