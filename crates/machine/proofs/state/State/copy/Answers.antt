use Rattle.std.proofs.Common.{◌∙◌, ap, List, refl, subst}
use Rattle.memory_spans.specs.declared.span.Span.{Span}
use Rattle.machine.specs.Holding.{kept_of}
use Rattle.machine.specs.Kept.{Kept}
use Rattle.machine.specs.Start.{IsCopy}
use Rattle.memory_spans.specs.Spans.{contents}
use Rattle.machine.proofs.KeptStates.{copy_of, held_by_places}
use Rattle.memory_spans.proofs.Contents.{places_by_contents}
use Rattle.machine.proofs.state.State.copy.Goals as goal

pub invariant_of-result : goal.invariant_of-result
invariant_of-result c =
    let old : Kept = kept_of c.self.inside in
    let new : Kept = record old { spans = c.in_ok-spans.spans.items; regions = c.in_ok-regions.regions.items } in
    let same = c.in_ok-spans.ensures ∙ ap (λ (spans : List Span). contents spans) c.deref.ensures.value in
    held_by_places old new c.self.invariant.regs refl c.self.invariant.vecs refl (c.in_ok-regions.ensures.items ∙ c.deref-2.ensures.value)
    (places_by_contents old.spans new.spans same) c.self.invariant

pub returns : goal.returns
returns c =
    let old : Kept = kept_of c.self.inside in
    let new : Kept = record old { spans = c.in_ok-spans.spans.items; regions = c.in_ok-regions.regions.items } in
    let same = c.in_ok-spans.ensures ∙ ap (λ (spans : List Span). contents spans) c.deref.ensures.value in
    subst (λ (k : Kept). IsCopy k new) c.self.view_is
    (copy_of old new.spans new.regions same (c.in_ok-regions.ensures.items ∙ c.deref-2.ensures.value))
