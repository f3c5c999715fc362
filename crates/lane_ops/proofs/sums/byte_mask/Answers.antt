use Rattle.std.proofs.Common.{◌≡◌, ◌+◌, ◌*◌, ◌/◌, ◌%◌, ◌^◌, ◌<◌, ◌≤◌, ap, arith, add-one}
use Rattle.std.proofs.lemmas.Nat.{mod_below}
use Rattle.insn_semantics.specs.Words.{cut}
use Rattle.insn_semantics.proofs.WordLaws.{power_grows}
use Rattle.lane_views.specs.Lanes.{lane}
use Rattle.lane_ops.proofs.WordSteps.{mask_more, top_at}
use Rattle.lane_ops.proofs.sums.byte_mask.Goals as goal

pub overflow_add-mask : goal.overflow_add-mask
overflow_add-mask c =
    let byte : c.lane.result < 256 = omega (arith, c.lane.ensures.below) in
    let place : c.loop-k.k < 32 = omega arith in
    let top : c.lane.result / 2 ^ 7 * 2 ^ c.loop-k.k % 2 ^ 64 ≡ cut c.lane.result 7 1 * 2 ^ c.loop-k.k = top_at c.lane.result c.loop-k.k byte place in
    let more : cut c.lane.result 7 1 * 2 ^ c.loop-k.k + c.loop-k.mask < 2 ^ (c.loop-k.k + 1) =
    mask_more (cut c.lane.result 7 1) c.loop-k.mask c.loop-k.k (mod_below _ 2 (omega arith)) c.loop-k.invariant.1 in
    let fits : 2 ^ (c.loop-k.k + 1) ≤ 2 ^ 64 = power_grows (c.loop-k.k + 1) 64 (omega arith) in
    rw top (omega arith)

pub loop-k-preserved : goal.loop-k-preserved
loop-k-preserved c =
    let byte : c.lane.result < 256 = omega (arith, c.lane.ensures.below) in
    let place : c.loop-k.k < 32 = omega arith in
    let top : c.lane.result / 2 ^ 7 * 2 ^ c.loop-k.k % 2 ^ 64 ≡ cut c.lane.result 7 1 * 2 ^ c.loop-k.k = top_at c.lane.result c.loop-k.k byte place in
    let more : cut c.lane.result 7 1 * 2 ^ c.loop-k.k + c.loop-k.mask < 2 ^ (c.loop-k.k + 1) =
    mask_more (cut c.lane.result 7 1) c.loop-k.mask c.loop-k.k (mod_below _ 2 (omega arith)) c.loop-k.invariant.1 in
    let read : cut c.lane.result 7 1 * 2 ^ c.loop-k.k ≡ cut (lane 8 c.loop-k.k c.args.bytes.now.bytes) 7 1 * 2 ^ c.loop-k.k =
    ap (λ b. cut b 7 1 * 2 ^ c.loop-k.k) c.lane.ensures.value in
    rw top (rw add-one (omega (arith, read, c.loop-k.invariant.0)), omega arith)
