use Rattle.std.proofs.Common.{◌≡◌, ℕ, ◌+◌, List, Vec, Global, get_or, length, sym, ◌∙◌, ap, subst, arith}
use Rattle.std.proofs.lemmas.Option.{slice_get-get_or}
use Rattle.flow_graph.specs.declared.control.Flow.TheVariants.{Next}
use Rattle.flow_graph.specs.Flows.{IsHead, ListsInOrder}
use Rattle.flow_graph.proofs.Marking.{AreTargets, each_ok, heads-listed, targets-kept, targets-pushed}
use Rattle.flow_graph.proofs.building.heads_of.Goals as goal
use Rattle.flow_graph.proofs.building.heads_of.Goals.{in-Some+in_ok-push, in_default}

pub loop-place-preserved : goal.loop-place-preserved
loop-place-preserved c =
    let flows = c.args.flows.now in
    let n = c.loop-place.place in
    let there = slice_get-get_or flows n Next c.loop-place-test.true in
    elim c.match-backward_target.branch [
      | in-Some+in_ok-push w ↦
          subst (λ (xs : List ℕ). AreTargets flows (n + 1) xs) (sym (ap (λ (v : Vec ℕ Global). v.items) w.targets-is ∙ w.in_ok-push.ensures.items))
          (targets-pushed flows n c.loop-place.targets.items (get_or flows n Next) w.in-Some.target there w.in-Some.ensures.0 w.in-Some.ensures.1 c.loop-place.invariant)
      | in_default w ↦
          subst (λ (xs : List ℕ). AreTargets flows (n + 1) xs) (sym (ap (λ (v : Vec ℕ Global). v.items) w.targets-is))
          (targets-kept flows n c.loop-place.targets.items (get_or flows n Next) there w.in_default.ensures c.loop-place.invariant)
    ]

pub returns : goal.returns
returns c =
    let flows = c.args.flows.now in
    let all : c.loop-place.place ≡ length flows = omega (arith, c.loop-place-test.false, c.loop-place.auto.place-end) in
    each_ok (λ ordered. ListsInOrder (IsHead flows) ordered.items) c.in_order.result c.in_order.ensures
    (λ ordered is. heads-listed flows c.loop-place.place c.loop-place.targets.items ordered.items all c.loop-place.invariant is)
