use Rattle.std.proofs.Common.{◌≡◌, ◌^◌, ◌<◌}
use Rattle.lane_views.specs.Lanes.{lane}
use Rattle.lane_semantics.specs.Sources.{tops}
use Rattle.lane_ops.proofs.sums.byte_mask.Given as goal

abbrev pub invariant-loop-k : goal.invariant-loop-k
invariant-loop-k l = (l.mask ≡ tops (λ j. lane 8 j l.bytes.bytes) l.k) × (l.mask < 2 ^ l.k)
