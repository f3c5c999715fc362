use Rattle.std.proofs.Common.{take}
use Rattle.std.specs.List.{All}
use Rattle.lane_views.specs.declared.Bytes32.{Bytes32}
use Rattle.machine.proofs.StartRanges.{IsVec}
use Rattle.machine.proofs.ranges.are_vecs.Given as goal

abbrev pub invariant-loop-vec : goal.invariant-loop-vec
invariant-loop-vec l = All (λ (v : Bytes32). IsVec v.bytes) (take l.vec-index l.vecs)
