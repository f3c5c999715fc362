use Rattle.std.proofs.Common.{◌≡◌, ◌≤◌}
use Rattle.address_nodes.specs.Multiples.{exponent}
use Rattle.address_nodes.proofs.sums.exponent_of.Given as goal

abbrev pub invariant-loop-n : goal.invariant-loop-n
invariant-loop-n l = (l.n ≤ 64) × (exponent l.n l.q ≡ exponent 64 l.q)

abbrev pub decreases-loop-n : goal.decreases-loop-n
decreases-loop-n l = l.n
