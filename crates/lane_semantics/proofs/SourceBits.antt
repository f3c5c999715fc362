-- The sources of a row are lanes of the width of its leaves.
use Rattle.std.proofs.Common.{ℕ, zero, suc, ◌+◌, ◌*◌, ◌/◌, ◌%◌, Bool, true, false, refl, if◌then◌else◌}
use Rattle.std.specs.Prelude.{nat_lt}
use Rattle.insn_ops.specs.declared.vector_op.MoveOp.{MoveOp}
use Rattle.insn_ops.specs.declared.vector_op.MoveOp.TheVariants as moves
use Rattle.insn_ops.specs.declared.vector_op.VectorOp.{VectorOp}
use Rattle.insn_ops.specs.declared.vector_op.VectorOp.TheVariants as ops
use Rattle.lane_semantics.specs.FormedLanes.{leaf_bits}
use Rattle.lane_semantics.specs.MoveRows.{four_bits, move_source, move_source_bits, selected_half}
use Rattle.lane_semantics.specs.Sources.{HasBits}
use Rattle.lane_semantics.specs.VectorRows.{row_source}
use Rattle.lane_semantics.specs.declared.source.Source.{Source}
use Rattle.lane_semantics.specs.declared.source.Source.TheVariants.{First, Second, Zero}

-- of two sources either
either_bits : (n : ℕ) (t : Bool) (x y : Source) → HasBits n x → HasBits n y → HasBits n (if t then x else y)
either_bits n true x y h j = h
either_bits n false x y h j = j

-- a half that a control selects
selected_bits : (c j : ℕ) → HasBits 8 (selected_half c j)
selected_bits c j =
    let half : Source = if nat_lt (c % 4) 2 then First 8 (16 * (c % 2) + j) else Second 8 (16 * (c % 2) + j) in
    either_bits 8 (nat_lt c 8) half Zero
    (either_bits 8 (nat_lt (c % 4) 2) (First 8 (16 * (c % 2) + j)) (Second 8 (16 * (c % 2) + j)) refl refl) tt

-- the rows that move lanes
move_bits : (op : MoveOp) (k i : ℕ) → HasBits (move_source_bits op) (move_source op k i)
move_bits moves.Pslldq k i = either_bits 8 _ Zero (Second 8 _) tt refl
move_bits moves.Psrldq k i = either_bits 8 _ (Second 8 _) Zero refl tt
move_bits (moves.Punpckl l) k i = either_bits _ _ (First _ _) (Second _ _) refl refl
move_bits (moves.Punpckh l) k i = either_bits _ _ (First _ _) (Second _ _) refl refl
move_bits moves.Pshuflw k i = either_bits 16 _ (Second 16 _) (Second 16 _) refl refl
move_bits moves.Pshufhw k i = either_bits 16 _ (Second 16 _) (Second 16 _) refl refl
move_bits (moves.Packss l) k i = either_bits _ _ (First _ _) (Second _ _) refl refl
move_bits moves.Packuswb k i = either_bits 16 _ (First 16 _) (Second 16 _) refl refl
move_bits moves.Movd k i = either_bits 32 _ (Second 32 0) Zero refl tt
move_bits moves.Movq k i = either_bits 64 _ (Second 64 0) Zero refl tt
move_bits moves.Extracti128 k i = either_bits 8 _ (Second 8 _) Zero refl tt
move_bits moves.Inserti128 k i = either_bits 8 _ (Second 8 _) (First 8 _) refl refl
move_bits moves.Perm2i128 k i = selected_bits (four_bits k (4 * (i / 16))) (i % 16)
move_bits _ k i = refl

-- all rows of vectors
pub sources_bits : (op : VectorOp) (k i j : ℕ) → HasBits (leaf_bits op) (row_source op k i j)
sources_bits (ops.Lanewise op) k i zero = refl
sources_bits (ops.Lanewise op) k i (suc j) = refl
sources_bits (ops.Moving op) k i j = move_bits op k i
sources_bits ops.Pmaddwd k i j = either_bits 16 _ (First 16 _) (Second 16 _) refl refl
sources_bits ops.Psadbw k i j = either_bits 8 _ (First 8 _) (Second 8 _) refl refl
sources_bits ops.Pshufb k i zero = refl
sources_bits ops.Pshufb k i (suc j) = refl
sources_bits ops.Pmovmskb k i j = either_bits 8 _ (Second 8 _) Zero refl tt
sources_bits ops.Vzeroupper k i j = tt
