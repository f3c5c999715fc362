use Rattle.std.proofs.Common.{◌≡◌, ◌/◌, refl, ◌∙◌, ap, arith}
use Rattle.lane_views.specs.Lanes.{with_lane}
use Rattle.lane_semantics.specs.VectorRows as rows
use Rattle.lane_semantics.specs.Vectors as vectors
use Rattle.lane_ops.proofs.Inside.{lanes_of_vector}
use Rattle.lane_ops.proofs.Turns.{all_lanes, lane_added, zeros}
use Rattle.lane_ops.proofs.lanes.vector.Goals as goal

pub loop-i-init : goal.loop-i-init
loop-i-init c =
    (zeros c.result_bits-width.result (vectors.lane_value c.args.op c.args.w c.args.imm c.args.first.now.bytes c.args.second.now.bytes), refl)

pub loop-i-preserved : goal.loop-i-preserved
loop-i-preserved c = (
  c.set_lane.ensures.bytes ∙ ap (with_lane c.result_bits-width.result c.loop-i.i c.lane_value.result) c.loop-i.invariant.0
      ∙ lane_added c.result_bits-width.result c.loop-i.i c.lane_value.result
      (vectors.lane_value c.args.op c.args.w c.args.imm c.args.first.now.bytes c.args.second.now.bytes) c.lane_value.ensures.value,
  c.set_lane.ensures.whole,
)

pub returns : goal.returns
returns c =
    let last : c.loop-i.i ≡ c.args.w / c.result_bits-width.result = omega arith in
    all_lanes c.result_bits-width.result (rows.result_bits c.args.op) c.args.w c.loop-i.i
    (vectors.lane_value c.args.op c.args.w c.args.imm c.args.first.now.bytes c.args.second.now.bytes) c.loop-i.result.bytes
    c.result_bits-width.ensures.value last (lanes_of_vector c.result_bits-width.result c.args.w c.result_bits-width.ensures.width c.requires.0) c.loop-i.invariant.0
