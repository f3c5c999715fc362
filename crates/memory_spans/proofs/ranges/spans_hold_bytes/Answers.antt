use Rattle.std.proofs.Common.{List, subst}
use Rattle.std.proofs.lemmas.List.{take_all}
use Rattle.std.specs.List.{All}
use Rattle.memory_spans.specs.declared.span.Span.{Span}
use Rattle.memory_spans.proofs.ByteRanges.{HoldsBytes, bytes_below}
use Rattle.memory_spans.proofs.ranges.spans_hold_bytes.Goals as goal

pub returns : goal.returns
returns c =
    bytes_below c.args.spans.now
    (subst (λ (spans : List Span). All HoldsBytes spans) (take_all c.loop-span.span-index c.args.spans.now c.loop-span-test.false) c.loop-span.invariant)
