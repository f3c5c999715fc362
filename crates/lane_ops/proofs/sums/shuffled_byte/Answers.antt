use Rattle.std.proofs.Common.{◌≡◌, refl, sym, ◌∙◌, ap, arith}
use Rattle.insn_semantics.specs.Words.{cut}
use Rattle.lane_views.specs.Lanes.{lane}
use Rattle.lane_ops.proofs.LaneSums.{shuffled_at, top_of_high, top_of_low}
use Rattle.lane_ops.proofs.sums.shuffled_byte.Goals as goal

pub returns-then-control-ge128-clause-value : goal.returns-then-control-ge128-clause-value
returns-then-control-ge128-clause-value c =
    let top : cut c.lane-control.result 7 1 ≡ 1 = top_of_high c.lane-control.result (omega arith) (omega (arith, c.lane-control.ensures.below)) in
    let read : cut (lane 8 c.args.i c.args.second.now.bytes) 7 1 ≡ 1 = ap (λ b. cut b 7 1) (sym c.lane-control.ensures.value) ∙ top in
    sym (shuffled_at c.args.first.now.bytes c.args.second.now.bytes c.args.i ∙ rw read refl)

pub returns-else-control-ge128-clause-value : goal.returns-else-control-ge128-clause-value
returns-else-control-ge128-clause-value c =
    let top : cut c.lane-control.result 7 1 ≡ 0 = top_of_low c.lane-control.result (omega arith) in
    let read : cut (lane 8 c.args.i c.args.second.now.bytes) 7 1 ≡ 0 = ap (λ b. cut b 7 1) (sym c.lane-control.ensures.value) ∙ top in
    sym (shuffled_at c.args.first.now.bytes c.args.second.now.bytes c.args.i ∙ rw (read, ← c.lane-control.ensures.value) (sym c.lane.ensures.value))
