use Rattle.test_states.proofs.Joining.{IsJoining}
use Rattle.test_states.proofs.ranges.joined.Given as goal

abbrev pub invariant-loop-range : goal.invariant-loop-range
invariant-loop-range l = IsJoining l.ranges l.range-index l.joined.items l.current
