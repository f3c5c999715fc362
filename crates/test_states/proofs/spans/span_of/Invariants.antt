use Rattle.std.proofs.Common.{take}
use Rattle.test_states.proofs.Naming.{AreNamed}
use Rattle.test_states.proofs.spans.span_of.Given as goal

abbrev pub invariant-loop-at : goal.invariant-loop-at
invariant-loop-at l = AreNamed (take l.at-index l.named) l.range.first l.len l.bytes.items
