-- What a row by lane computes of two lanes.
use Rattle.std.specs.Prelude.{ℕ, ℤ, pos, ◌-◌, ◌^◌, ◌-ℤ◌, int_lt, if◌then◌else◌}
use Rattle.insn_ops.specs.declared.vector_op.LaneOp.{LaneOp}
use Rattle.insn_semantics.specs.Exprs.{value}
use Rattle.insn_semantics.specs.Rows.{scalar_leaves}
use Rattle.lane_semantics.specs.LaneRows.{lane_expr}

-- of the first argument's lane a and the second's b, with the immediate k
abbrev pub lane_of : LaneOp → ℕ → ℕ → ℕ → ℕ
lane_of op k a b = value (scalar_leaves a b) (lane_expr op k)

-- the signed number of w bits that is nearest to z: they go from -2^(w - 1) to 2^(w - 1) - 1
abbrev pub nearest_signed : ℕ → ℤ → ℤ
nearest_signed w z =
    if int_lt z (pos 0 -ℤ pos (2 ^ (w - 1)))
    then pos 0 -ℤ pos (2 ^ (w - 1))
    else (if int_lt z (pos (2 ^ (w - 1))) then z else pos (2 ^ (w - 1)) -ℤ pos 1)
