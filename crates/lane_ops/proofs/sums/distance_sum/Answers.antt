use Rattle.std.proofs.Common.{◌≡◌, ℕ, ◌+◌, ◌-◌, ◌*◌, sym, ◌∙◌, ap, arith, add-zero}
use Rattle.insn_ops.specs.declared.vector_op.VectorOp.TheVariants as ops
use Rattle.insn_semantics.specs.Exprs.{value}
use Rattle.insn_semantics.specs.Words.{plus}
use Rattle.lane_semantics.specs.VectorRows.{byte_distance, distances}
use Rattle.lane_semantics.specs.Vectors.{row_leaves}
use Rattle.lane_semantics.proofs.Chains.{distances_more}
use Rattle.lane_ops.proofs.LaneSums.{distance_at, distance_sum_at, first_distance}
use Rattle.lane_ops.proofs.sums.distance_sum.Goals as goal

pub loop-k-init : goal.loop-k-init
loop-k-init c =
    let place : 8 * c.args.i ≡ 8 * c.args.i + 0 = sym (add-zero _) in
    rw (c.distance-sum.ensures, c.lane.ensures.value, c.lane-2.ensures.value) (first_distance c.args.first.now.bytes c.args.second.now.bytes c.args.i (8 * c.args.i) place)

pub loop-k-preserved : goal.loop-k-preserved
loop-k-preserved c =
    let back : c.loop-k.k + 1 - 1 ≡ c.loop-k.k = omega arith in
    let more : c.distance-more.result ≡ value (row_leaves ops.Psadbw 0 c.args.first.now.bytes c.args.second.now.bytes c.args.i) (byte_distance c.loop-k.k) =
    rw (c.distance-more.ensures, c.lane-in-loop-k.ensures.value, c.lane-in-loop-k-2.ensures.value) (sym (distance_at c.args.first.now.bytes c.args.second.now.bytes c.args.i c.loop-k.k (omega arith))) in
    let sum : plus 64 c.loop-k.sum c.distance-more.result ≡ plus 64 (value (row_leaves ops.Psadbw 0 c.args.first.now.bytes c.args.second.now.bytes c.args.i) (distances (c.loop-k.k - 1))) (value (row_leaves ops.Psadbw 0 c.args.first.now.bytes c.args.second.now.bytes c.args.i) (byte_distance c.loop-k.k)) =
    λ j. plus 64 (c.loop-k.invariant j) (more j) in
    c.word_add-sum.ensures.value ∙ sum ∙ sym (distances_more (row_leaves ops.Psadbw 0 c.args.first.now.bytes c.args.second.now.bytes c.args.i) c.loop-k.k (omega arith))
    ∙ ap (λ (n : ℕ). value (row_leaves ops.Psadbw 0 c.args.first.now.bytes c.args.second.now.bytes c.args.i) (distances n)) (sym back)

pub returns : goal.returns
returns c =
    c.loop-k.invariant ∙ distance_sum_at c.args.first.now.bytes c.args.second.now.bytes c.args.i c.loop-k.k (omega arith)
