use Rattle.std.proofs.Common.{◌≡◌, ◌-◌}
use Rattle.insn_ops.specs.declared.vector_op.VectorOp.TheVariants as ops
use Rattle.insn_semantics.specs.Exprs.{value}
use Rattle.lane_semantics.specs.VectorRows.{distances}
use Rattle.lane_semantics.specs.Vectors.{row_leaves}
use Rattle.lane_ops.proofs.sums.distance_sum.Given as goal

abbrev pub invariant-loop-k : goal.invariant-loop-k
invariant-loop-k l = l.sum ≡ value (row_leaves ops.Psadbw 0 l.first.bytes l.second.bytes l.i) (distances (l.k - 1))
