use Rattle.std.proofs.Common.{ℕ, ◌+◌, ◌<◌, ◌≤◌, ◌^◌, List, length, take, subst, arith}
use Rattle.std.proofs.lemmas.List.{take_all, take_more}
use Rattle.memory_spans.specs.declared.span.Span.{Span}
use Rattle.test_states.specs.declared.range.Range.{Range}
use Rattle.test_states.proofs.Spanning.{AreSpansOf, apart_is_range, byte-named, spanned-covered, spans_more, spans_ordered}
use Rattle.test_states.proofs.spans.spans_of.Goals as goal

pub span_of-requires : goal.span_of-requires
span_of-requires c = apart_is_range 0 c.args.ranges.now (2 ^ 64 + 1) c.loop-range.range-index (record { first = 0; last = 0 }) c.requires (omega arith)

pub loop-range-preserved : goal.loop-range-preserved
loop-range-preserved c =
    let below : c.loop-range.range-index < length c.args.ranges.now = omega arith in
    rw (c.in_ok-push.ensures.items, take_more c.args.ranges.now c.loop-range.range-index (record { first = 0; last = 0 }) below)
    (spans_more c.args.named.now (take c.loop-range.range-index c.args.ranges.now) c.loop-range.spans.items _ _ c.loop-range.invariant c.in_ok-span_of.ensures)

all_spans : (named : List (ℕ × ℕ)) (ranges : List Range) (i : ℕ) (spans : List Span) → length ranges ≤ i → AreSpansOf named (take i ranges) spans → AreSpansOf named ranges spans
all_spans named ranges i spans all are = subst (λ (rs : List Range). AreSpansOf named rs spans) (take_all i ranges all) are

pub returns-clause-ordered : goal.returns-clause-ordered
returns-clause-ordered c = spans_ordered c.args.named.now 0 c.args.ranges.now c.loop-range.spans.items
    (all_spans c.args.named.now c.args.ranges.now c.loop-range.range-index c.loop-range.spans.items (omega arith) c.loop-range.invariant) c.requires

pub returns-clause-spanned : goal.returns-clause-spanned
returns-clause-spanned c = λ x. spanned-covered c.args.named.now 0 c.args.ranges.now c.loop-range.spans.items x
    (all_spans c.args.named.now c.args.ranges.now c.loop-range.range-index c.loop-range.spans.items (omega arith) c.loop-range.invariant) c.requires

pub returns-clause-bytes : goal.returns-clause-bytes
returns-clause-bytes c = λ x. byte-named c.args.named.now 0 c.args.ranges.now c.loop-range.spans.items x
    (all_spans c.args.named.now c.args.ranges.now c.loop-range.range-index c.loop-range.spans.items (omega arith) c.loop-range.invariant) c.requires
