use Rattle.std.proofs.Common.{◌≡◌, None, drop}
use Rattle.test_states.specs.Choosing.{least_outside}
use Rattle.test_states.proofs.choosing.least_outside.Given as goal

abbrev pub invariant-loop-at : goal.invariant-loop-at
invariant-loop-at l = least_outside l.regions l.found (drop l.at-index l.named) ≡ least_outside l.regions None l.named
