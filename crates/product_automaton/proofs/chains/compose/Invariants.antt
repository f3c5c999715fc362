use Rattle.std.proofs.Common.{length}
use Rattle.product_automaton.proofs.Joining.{IsComposedSoFar}
use Rattle.product_automaton.proofs.chains.compose.Given as goal

abbrev pub invariant-loop-rest : goal.invariant-loop-rest
invariant-loop-rest l = IsComposedSoFar l.bound l.rest l.fn.ks

abbrev pub decreases-loop-rest : goal.decreases-loop-rest
decreases-loop-rest l = length l.rest
