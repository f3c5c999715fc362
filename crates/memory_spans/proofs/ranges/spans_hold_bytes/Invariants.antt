use Rattle.std.proofs.Common.{take}
use Rattle.std.specs.List.{All}
use Rattle.memory_spans.proofs.ByteRanges.{HoldsBytes}
use Rattle.memory_spans.proofs.ranges.spans_hold_bytes.Given as goal

abbrev pub invariant-loop-span : goal.invariant-loop-span
invariant-loop-span l = All HoldsBytes (take l.span-index l.spans)
