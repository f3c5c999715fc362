use Rattle.std.proofs.Common.{◌≡◌, ◌-◌, ◌*◌, ◌/◌, ◌++◌, length}
use Rattle.std.specs.Prelude.{replicate}
use Rattle.lane_semantics.specs.Vectors.{lane_value, lanes_in_turn}
use Rattle.lane_ops.proofs.lanes.vector.Given as goal

abbrev pub invariant-loop-i : goal.invariant-loop-i
invariant-loop-i l =
    (l.result.bytes ≡ lanes_in_turn l.width (lane_value l.op l.w l.imm l.first.bytes l.second.bytes) l.i ++ replicate (32 - l.i * (l.width / 8)) 0)
    × (length l.result.bytes ≡ 32)
