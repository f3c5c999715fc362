use Rattle.std.proofs.Common.{◌≡◌, take}
use Rattle.admission.specs.Admitted.{regions_of}
use Rattle.test_states.proofs.starts.regions_at.Given as goal

abbrev pub invariant-loop-i : goal.invariant-loop-i
invariant-loop-i l = l.regions.items ≡ take l.i (regions_of l.regs l.admission)
