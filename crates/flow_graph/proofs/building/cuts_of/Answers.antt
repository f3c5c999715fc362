use Rattle.std.proofs.Common.{◌≡◌, ℕ, ◌+◌, List, [], ◌∷◌, ◌++◌, Vec, Global, get_or, length, sym, ◌∙◌, ap, subst, arith}
use Rattle.std.proofs.lemmas.Option.{slice_get-get_or}
use Rattle.flow_graph.specs.declared.control.Flow.TheVariants.{Next}
use Rattle.flow_graph.specs.Flows.{IsCut, ListsInOrder}
use Rattle.flow_graph.proofs.Marking.{AreCutsBefore, cuts-kept, cuts-listed, cuts-pushed, each_ok, first-cuts}
use Rattle.flow_graph.proofs.building.cuts_of.Goals as goal
use Rattle.flow_graph.proofs.building.cuts_of.Goals.{in-Return+in_ok-push-2, in_default}

pub loop-place-init : goal.loop-place-init
loop-place-init c =
    subst (λ (xs : List ℕ). AreCutsBefore c.args.flows.now 0 xs)
    (sym (c.in_ok-push.ensures.items ∙ ap (λ (xs : List ℕ). xs ++ 0 ∷ []) c.in_ok-cuts.ensures.items))
    (first-cuts c.args.flows.now c.args.heads.now c.requires.heads)

pub loop-place-preserved : goal.loop-place-preserved
loop-place-preserved c =
    let flows = c.args.flows.now in
    let n = c.loop-place.place in
    let there = slice_get-get_or flows n Next c.loop-place-test.true in
    elim c.match-flow.branch [
      | in-Return+in_ok-push-2 w ↦
          subst (λ (xs : List ℕ). AreCutsBefore flows (n + 1) xs) (sym (ap (λ (v : Vec ℕ Global). v.items) w.cuts-is ∙ w.in_ok-push-2.ensures.items))
          (cuts-pushed flows n c.loop-place.cuts.items (get_or flows n Next) there w.in-Return.is c.loop-place.invariant)
      | in_default w ↦
          subst (λ (xs : List ℕ). AreCutsBefore flows (n + 1) xs) (sym (ap (λ (v : Vec ℕ Global). v.items) w.cuts-is))
          (cuts-kept flows n c.loop-place.cuts.items (get_or flows n Next) there w.in_default.not-Return c.loop-place.invariant)
    ]

pub returns : goal.returns
returns c =
    let flows = c.args.flows.now in
    let all : c.loop-place.place ≡ length flows = omega (arith, c.loop-place-test.false, c.loop-place.auto.place-end) in
    each_ok (λ ordered. ListsInOrder (IsCut flows) ordered.items) c.in_order.result c.in_order.ensures
    (λ ordered is. cuts-listed flows c.loop-place.place c.loop-place.cuts.items ordered.items all c.loop-place.invariant is)
