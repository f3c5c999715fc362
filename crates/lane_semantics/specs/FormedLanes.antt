-- The widths that the rows of vectors are formed over.
use Rattle.std.specs.Prelude.{ℕ}
use Rattle.insn_ops.specs.declared.vector_op.VectorOp.{VectorOp}
use Rattle.insn_ops.specs.declared.vector_op.VectorOp.TheVariants as ops
use Rattle.lane_semantics.specs.LaneRows.{lane_op_bits}
use Rattle.lane_semantics.specs.MoveRows.{move_source_bits}

-- the width of the lanes that are the leaves of the row's expression, in bits
abbrev pub leaf_bits : VectorOp → ℕ
leaf_bits (ops.Lanewise op) = lane_op_bits op
leaf_bits (ops.Moving op) = move_source_bits op
leaf_bits ops.Pmaddwd = 16
leaf_bits ops.Psadbw = 8
leaf_bits ops.Pshufb = 8
leaf_bits ops.Pmovmskb = 8
leaf_bits ops.Vzeroupper = 64
