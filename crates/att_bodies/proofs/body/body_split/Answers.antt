use Rattle.att_bodies.proofs.CodeSteps.{split-within, split-body}
use Rattle.att_bodies.proofs.body.body_split.Goals as goal

pub slice_bounds-result-count : goal.slice_bounds-result-count
slice_bounds-result-count c =
    split-within c.args.name.now c.args.items.now _ _ c.behind_body-behind.result.now c.in-Some.ensures.cases.0 c.behind_body-behind.ensures

pub returns-in-Some : goal.returns-in-Some
returns-in-Some c = split-body c.args.name.now c.args.items.now _ _ c.behind_body-behind.result.now c.in-Some.ensures.cases.0 c.behind_body-behind.ensures
