-- What a vector operation computes, as bytes.
use Rattle.std.specs.Prelude.{ℕ, zero, suc, ◌-◌, ◌/◌, List, [], ◌++◌, replicate}
use Rattle.insn_ops.specs.declared.vector_op.VectorOp.{VectorOp}
use Rattle.insn_semantics.specs.Exprs.{value}
use Rattle.lane_views.specs.Lanes.{bytes_of}
use Rattle.lane_semantics.specs.Sources.{source_value}
use Rattle.lane_semantics.specs.VectorRows.{result_bits, row_source, vector_expr}

-- the leaves of lane i, of the arguments a and b
abbrev pub row_leaves : VectorOp → ℕ → List ℕ → List ℕ → ℕ → ℕ → ℕ
row_leaves op k a b i j = source_value a b (row_source op k i j)

-- lane i of the result
abbrev pub lane_value : VectorOp → ℕ → ℕ → List ℕ → List ℕ → ℕ → ℕ
lane_value op w k a b i = value (row_leaves op k a b i) (vector_expr op w k)

-- the first n lanes of w bits, lane i being g i
unfoldable pub lanes_in_turn : ℕ → (ℕ → ℕ) → ℕ → List ℕ
lanes_in_turn w g zero = []
lanes_in_turn w g (suc n) = lanes_in_turn w g n ++ bytes_of (w / 8) (g n)

-- The result of an operation on vectors of w bits: its lanes, and above w bits zeros.
abbrev pub vector_of : VectorOp → ℕ → ℕ → List ℕ → List ℕ → List ℕ
vector_of op w k a b =
    lanes_in_turn (result_bits op) (lane_value op w k a b) (w / result_bits op) ++ replicate (32 - w / 8) 0
