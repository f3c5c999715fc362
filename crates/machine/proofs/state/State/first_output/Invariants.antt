use Rattle.machine.specs.Difference.{AgreeBefore}
use Rattle.machine.specs.Kept.{pure_of}
use Rattle.machine.proofs.state.State.first_output.Given as goal

abbrev pub invariant-loop-k : goal.invariant-loop-k
invariant-loop-k l = AgreeBefore l.live (pure_of l.self) (pure_of l.other) l.k
