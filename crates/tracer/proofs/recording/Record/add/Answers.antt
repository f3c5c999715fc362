use Rattle.std.proofs.Common.{ℕ, [], ◌∷◌, ◌++◌, refl, ◌∙◌, ap, subst}
use Rattle.flow_graph.specs.Flows.{IsHead}
use Rattle.tracer.specs.Recording.{AtHead}
use Rattle.tracer.proofs.recording.Record.add.Goals as goal

pub returns-in_ok-push-2 : goal.returns-in_ok-push-2
returns-in_ok-push-2 c = record {
  places = c.in_ok-push.ensures.items ∙ ap (λ (p : ℕ). c.args.self.now.places.items ++ p ∷ []) c.place-place.ensures;
  visits =
      AtHead (subst (λ (p : ℕ). IsHead c.args.graph.now p) c.place-place.ensures (c.if-is_head.ensures.0 refl)) c.visit_of.result c.visit_of.ensures
      c.in_ok-push-2.ensures.items;
}
