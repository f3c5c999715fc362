-- The rows of the vector operations: of which lanes of the arguments lane i of the result is computed, and how. k is
-- the immediate, w the width of the vectors, 128 or 256 bits. Of `pmovmskb` the result is a word of 32 bits, lane 0.
-- Each row is named as its section of Intel's SDM, volume 2, is: see VectorOp.
use Rattle.std.specs.Prelude.{◌≡◌, ◌⊎◌, ℕ, zero, suc, ◌+◌, ◌*◌, ◌/◌, ◌==◌, if◌then◌else◌}
use Rattle.insn_ops.specs.declared.vector_op.VectorOp.{VectorOp}
use Rattle.insn_ops.specs.declared.vector_op.VectorOp.TheVariants as ops
use Rattle.insn_semantics.specs.Exprs.{Expr, Leaf, Number, Two, Joined, Cut, Extended, Choice, Let, Plus, Minus, Times, Equal, Below}
use Rattle.lane_semantics.specs.LaneRows.{IsLaneRow, lane_expr, lane_op_bits, zero_extended}
use Rattle.lane_semantics.specs.MoveRows.{HasMoveWidths, IsMoveRow, move_expr, move_op_bits, move_source}
use Rattle.lane_semantics.specs.Sources.{under_lane}
use Rattle.lane_semantics.specs.declared.source.Source.{Source}
use Rattle.lane_semantics.specs.declared.source.Source.TheVariants.{First, Second, Zero}

-- the lane that leaf j of the expression of lane i is
abbrev pub row_source : VectorOp → ℕ → ℕ → ℕ → Source
row_source (ops.Lanewise op) k i zero = First (lane_op_bits op) i
row_source (ops.Lanewise op) k i (suc j) = Second (lane_op_bits op) i
row_source (ops.Moving op) k i j = move_source op k i
row_source ops.Pmaddwd k i j = under_lane 2 16 i j
row_source ops.Psadbw k i j = under_lane 8 8 i j
row_source ops.Pshufb k i zero = Second 8 i
row_source ops.Pshufb k i (suc j) = First 8 (16 * (i / 16) + j)
row_source ops.Pmovmskb k i j = if i == 0 then Second 8 j else Zero
row_source ops.Vzeroupper k i j = Zero

-- the product of leaves i and j as signed words of 16 bits
abbrev pub signed_product : ℕ → ℕ → Expr
signed_product i j = Two Times 32 (Extended 16 32 (Leaf i)) (Extended 16 32 (Leaf j))

-- how far bytes k of the two arguments are apart, as 64 bits; leaf 16 names it
abbrev pub byte_distance : ℕ → Expr
byte_distance k =
    Let 16 (Choice (Two Below 8 (Leaf k) (Leaf (8 + k)))
    (Two Minus 8 (Leaf (8 + k)) (Leaf k)) (Two Minus 8 (Leaf k) (Leaf (8 + k))))
    (zero_extended 8 64 (Leaf 16))

-- the sum of the distances of bytes 0 to k
abbrev pub distances : ℕ → Expr
distances zero = byte_distance 0
distances (suc k) = Two Plus 64 (distances k) (byte_distance (suc k))

-- the sum of the distances of eight bytes
unfoldable pub distance_sum : Expr
distance_sum = distances 7

-- The byte that the low four bits of leaf 0 number: of byte 0 and then of bytes 1 to 15 in turn, byte n where n is that
-- number, and else the byte so far. Byte n is leaf 1 + n; leaf 16 + n names the byte so far.
abbrev pub picked : ℕ → ℕ → ℕ → Expr
picked zero n so_far = Leaf so_far
picked (suc left) n so_far =
    Let (16 + n) (Choice (Two Equal 4 (Cut (Leaf 0) 0 4) (Number 4 n)) (Leaf (1 + n)) (Leaf so_far))
    (picked left (n + 1) (16 + n))

-- zero where leaf 0 has its highest bit set, and else the byte that its low four bits number
unfoldable pub shuffled : Expr
shuffled = Choice (Cut (Leaf 0) 7 1) (Number 8 0) (picked 15 1 1)

-- the highest bits of the bytes from n on, each named: that of byte n by leaf 32 + n
abbrev pub with_tops : ℕ → ℕ → Expr → Expr
with_tops zero n x = x
with_tops (suc left) n x = Let (32 + n) (Cut (Leaf n) 7 1) (with_tops left (n + 1) x)

-- bits 0 to k so named, joined from the lowest up
abbrev pub tops_joined : ℕ → Expr
tops_joined zero = Leaf 32
tops_joined (suc k) = Joined (k + 1) (Leaf (32 + (k + 1))) (tops_joined k)

-- the highest bits of the bytes of w bits, as a word of 32 bits
unfoldable pub byte_mask : ℕ → Expr
byte_mask w =
    if w == 256
    then with_tops 32 0 (tops_joined 31)
    else with_tops 16 0 (Let 64 (tops_joined 15) (zero_extended 16 32 (Leaf 64)))

-- lane i of the result, the same expression for every i
abbrev pub vector_expr : VectorOp → ℕ → ℕ → Expr
vector_expr (ops.Lanewise op) w k = lane_expr op k
vector_expr (ops.Moving op) w k = move_expr op
vector_expr ops.Pmaddwd w k = Two Plus 32 (signed_product 0 2) (signed_product 1 3)
vector_expr ops.Psadbw w k = distance_sum
vector_expr ops.Pshufb w k = shuffled
vector_expr ops.Pmovmskb w k = byte_mask w
vector_expr ops.Vzeroupper w k = Leaf 0

-- the width of the result's lanes, in bits
abbrev pub result_bits : VectorOp → ℕ
result_bits (ops.Lanewise op) = lane_op_bits op
result_bits (ops.Moving op) = move_op_bits op
result_bits ops.Pmaddwd = 32
result_bits ops.Psadbw = 64
result_bits ops.Pshufb = 8
result_bits ops.Pmovmskb = 32
result_bits ops.Vzeroupper = 64

-- vectors of 128 or 256 bits
abbrev pub IsVectorWidth : ℕ → Type 0
IsVectorWidth w = (w ≡ 128) ⊎ (w ≡ 256)

-- the rows of the table that compute a vector, by their width; `vzeroupper` computes none
abbrev pub HasRow : VectorOp → ℕ → Type 0
HasRow (ops.Lanewise op) w = IsLaneRow op
HasRow (ops.Moving op) w = HasMoveWidths op × IsMoveRow op w
HasRow ops.Vzeroupper w = ⊥
HasRow _ w = Unit {0}

-- a row of the table, at a width of vectors that it has
abbrev pub IsVectorRow : VectorOp → ℕ → Type 0
IsVectorRow op w = IsVectorWidth w × HasRow op w
