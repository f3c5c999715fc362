use Rattle.std.proofs.Common.{◌≡◌, ℕ, ◌+◌, ◌-◌, vec_len}
use Rattle.node_reach.specs.Reached.{is_marked}
use Rattle.node_reach.proofs.reach.mark.Given as goal

abbrev pub invariant-loop-marks : goal.invariant-loop-marks
invariant-loop-marks l = (k : ℕ) → is_marked l.marks.items k ≡ is_marked l.initial.marks.items k

abbrev pub decreases-loop-marks : goal.decreases-loop-marks
decreases-loop-marks l = l.n + 1 - vec_len l.marks
