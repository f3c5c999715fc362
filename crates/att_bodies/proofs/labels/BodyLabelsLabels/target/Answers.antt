use Rattle.std.proofs.Common.{sym, ap, ◌∙◌, Some}
use Rattle.att_bodies.specs.Labelled.{labelled}
use Rattle.att_bodies.proofs.CodeSteps.{target-kept, target-inside, target-behind}
use Rattle.att_bodies.proofs.labels.BodyLabelsLabels.target.Goals as goal

pub returns-in_err-first : goal.returns-in_err-first
returns-in_err-first c =
    let labels = c.args.self.now in
    c.from_residual.ensures
    ∙ target-kept (labelled labels) c.args.name.now labels.insns _ (c.in_err-first.ensures.value ∙ labels.kept c.args.name.now) labels.counted

pub returns-then-first-self : goal.returns-then-first-self
returns-then-first-self c =
    let labels = c.args.self.now in
    ap Some c.saturated.ensures ∙ sym (target-inside c.in_ok-first.first.now labels.insns c.if-first-self.true)
    ∙ target-kept (labelled labels) c.args.name.now labels.insns _ (c.in_ok-first.ensures.value ∙ labels.kept c.args.name.now) labels.counted

pub returns-else-first-self : goal.returns-else-first-self
returns-else-first-self c =
    let labels = c.args.self.now in
    sym (target-behind c.in_ok-first.first.now labels.insns c.if-first-self.false)
    ∙ target-kept (labelled labels) c.args.name.now labels.insns _ (c.in_ok-first.ensures.value ∙ labels.kept c.args.name.now) labels.counted
