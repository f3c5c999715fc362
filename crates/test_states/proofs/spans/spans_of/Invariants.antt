use Rattle.std.proofs.Common.{take}
use Rattle.test_states.proofs.Spanning.{AreSpansOf}
use Rattle.test_states.proofs.spans.spans_of.Given as goal

abbrev pub invariant-loop-range : goal.invariant-loop-range
invariant-loop-range l = AreSpansOf l.named (take l.range-index l.ranges) l.spans.items
