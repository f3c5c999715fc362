use Rattle.std.proofs.Common.{◌+◌, get_or, refl, ◌∙◌, ap}
use Rattle.lane_views.specs.Lanes.{with_lane}
use Rattle.lane_ops.proofs.Turns.{lane_added, zeros}
use Rattle.processor_cases.proofs.vector_rows.vector_from.Goals as goal

pub loop-k-init : goal.loop-k-init
loop-k-init c = (zeros 64 (λ k. get_or c.args.n.now (c.args.at + k) 0), refl)

pub loop-k-preserved : goal.loop-k-preserved
loop-k-preserved c = (
  c.set_lane.ensures.bytes ∙ ap (with_lane 64 c.loop-k.k _) c.loop-k.invariant.0
      ∙ lane_added 64 c.loop-k.k _ (λ k. get_or c.args.n.now (c.args.at + k) 0) refl,
  c.set_lane.ensures.whole,
)
