use Rattle.std.proofs.Common.{◌≡◌, ◌-◌, ◌*◌, ◌^◌, ◌<◌, ◌≤◌, drop, length}
use Rattle.lane_views.specs.Lanes.{number}
use Rattle.lane_views.proofs.numbers.number.Given as goal

abbrev pub invariant-loop-place : goal.invariant-loop-place
invariant-loop-place l =
    (l.place ≤ length l.bytes) × (l.value ≡ number (drop l.place l.bytes)) × (l.value < 2 ^ (8 * (length l.bytes - l.place)))

abbrev pub decreases-loop-place : goal.decreases-loop-place
decreases-loop-place l = l.place
