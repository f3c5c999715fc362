use Rattle.std.proofs.Common.{add-one, length, refl}
use Rattle.std.proofs.lemmas.Option.{slice_get_read}
use Rattle.machine.specs.Kept.{pure_of}
use Rattle.machine.proofs.Differences.{first_of_spans, same_so_far}
use Rattle.memory_spans.proofs.Ordering.{order_ends}
use Rattle.machine.proofs.state.State.first_in_spans.Goals as goal

pub first_in_span-requires : goal.first_in_span-requires
first_in_span-requires c =
    let spans = c.args.spans.now in
    order_ends 0 spans c.loop-span.span-index c.span-item.result c.requires
    (slice_get_read spans (length spans) c.loop-span.span-index c.span-item.result refl c.loop-span-test.true c.span-item.is)

pub returns-in-Some-clause-some : goal.returns-in-Some-clause-some
returns-in-Some-clause-some c =
    let spans = c.args.spans.now in
    first_of_spans spans c.loop-span.span-index c.span-item.result c.args.scratch.now (pure_of c.args.self.now) (pure_of c.args.other.now) c.in-Some.at c.requires
    (slice_get_read spans (length spans) c.loop-span.span-index c.span-item.result refl c.loop-span-test.true c.span-item.is)
    c.loop-span.invariant c.in-Some.ensures.some c.in-Some.ensures.within

pub loop-span-preserved : goal.loop-span-preserved
loop-span-preserved c =
    let spans = c.args.spans.now in
    λ x among. rw add-one (same_so_far spans c.loop-span.span-index c.span-item.result c.args.scratch.now (pure_of c.args.self.now) (pure_of c.args.other.now) x
    (slice_get_read spans (length spans) c.loop-span.span-index c.span-item.result refl c.loop-span-test.true c.span-item.is)
    (c.loop-span.invariant x among) c.in_default.ensures.none)
