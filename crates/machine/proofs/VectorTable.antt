-- What the table says of an operation on vectors is what its row needs: lanes of widths that there are, in vectors of 128 or
-- 256 bits.
use Rattle.std.proofs.Common.{◌≡◌, inl, inr, ℕ, ◌≤◌, ◌==◌, Bool, true, false, not, ◌&&◌, if◌then◌else◌, List, [], ◌∷◌, Some, refl, arith, ⊎_elim}
use Rattle.std.specs.List.{find}
use Rattle.std.proofs.lemmas.Bool.Decides.{Decides-eqb}
use Rattle.std.proofs.lemmas.Bool.{and_parts, or_cases}
use Rattle.insn_ops.specs.declared.vector_op.LaneWidth.{LaneWidth}
use Rattle.insn_ops.specs.declared.vector_op.LaneWidth.TheVariants.{Byte, Word, Doubleword, Quadword}
use Rattle.insn_ops.specs.declared.vector_op.LaneOp.{LaneOp}
use Rattle.insn_ops.specs.declared.vector_op.LaneOp.TheVariants as lanes
use Rattle.insn_ops.specs.declared.vector_op.MoveOp.{MoveOp}
use Rattle.insn_ops.specs.declared.vector_op.MoveOp.TheVariants as moves
use Rattle.insn_ops.specs.declared.vector_op.VectorOp.{VectorOp}
use Rattle.insn_ops.specs.declared.vector_op.VectorOp.TheVariants.{Lanewise, Moving, Vzeroupper}
use Rattle.insn_table.specs.Classes.{OperandForm}
use Rattle.insn_spellings.specs.Widths.{has_lanes, has_move, has_vectors, is_byte, is_middle, is_narrow, is_quadword, is_word, widens}
use Rattle.insn_table.specs.VectorForms.{exchanged, extracted, forms_at, is_vector_width, joined, move_forms, moved_quadword, only_low, only_wide, shuffled, vector_forms}
use Rattle.lane_semantics.specs.LaneRows.{IsLaneRow}
use Rattle.lane_semantics.specs.MoveRows.{HasMoveWidths, IsMoveRow, Widens}
use Rattle.lane_semantics.specs.VectorRows.{IsVectorWidth}
use Rattle.lane_semantics.specs.Widths.{bits}
use Rattle.machine.specs.Runnable.{HasVectorRow}

-- lanes

narrow-bits : (l : LaneWidth) → is_narrow l ≡ true → bits l ≤ 16
narrow-bits Byte h = omega arith
narrow-bits Word h = omega arith
narrow-bits Doubleword h = cc
narrow-bits Quadword h = cc

middle-bits : (l : LaneWidth) → is_middle l ≡ true → (bits l ≤ 32) × (16 ≤ bits l)
middle-bits Byte h = cc
middle-bits Word h = (omega arith, omega arith)
middle-bits Doubleword h = (omega arith, omega arith)
middle-bits Quadword h = cc

short-bits : (l : LaneWidth) → not (is_quadword l) ≡ true → bits l ≤ 32
short-bits Byte h = omega arith
short-bits Word h = omega arith
short-bits Doubleword h = omega arith
short-bits Quadword h = cc

wide-bits : (l : LaneWidth) → not (is_byte l) ≡ true → 16 ≤ bits l
wide-bits Byte h = cc
wide-bits Word h = omega arith
wide-bits Doubleword h = omega arith
wide-bits Quadword h = omega arith

word-middle : (l : LaneWidth) → is_word l ≡ true → is_middle l ≡ true
word-middle Word h = refl
word-middle _ h = cc

word-short : (l : LaneWidth) → is_word l ≡ true → not (is_quadword l) ≡ true
word-short Word h = refl
word-short _ h = cc

byte-short : (l : LaneWidth) → is_byte l ≡ true → not (is_quadword l) ≡ true
byte-short Byte h = refl
byte-short _ h = cc

either-way : (b x y z : Bool) → (x ≡ true → z ≡ true) → (y ≡ true → z ≡ true) → (if b then x else y) ≡ true → z ≡ true
either-way true x y z f g h = f h
either-way false x y z f g h = g h

lanes-have : (op : LaneOp) (vex : Bool) → has_lanes vex op ≡ true → IsLaneRow op
lanes-have (lanes.Padds l) vex h = narrow-bits l h
lanes-have (lanes.Psubs l) vex h = narrow-bits l h
lanes-have (lanes.Paddus l) vex h = narrow-bits l h
lanes-have (lanes.Psubus l) vex h = narrow-bits l h
lanes-have (lanes.Pcmpeq l) vex h = short-bits l h
lanes-have (lanes.Pcmpgt l) vex h = short-bits l h
lanes-have (lanes.Pmull l) vex h = middle-bits l (either-way vex (is_middle l) (is_word l) (is_middle l) (λ k. k) (word-middle l) h)
lanes-have (lanes.Psll l) vex h = wide-bits l h
lanes-have (lanes.Psrl l) vex h = wide-bits l h
lanes-have (lanes.Psra l) vex h = middle-bits l h
lanes-have (lanes.Pmins l) vex h = short-bits l (either-way vex (not (is_quadword l)) (is_word l) (not (is_quadword l)) (λ k. k) (word-short l) h)
lanes-have (lanes.Pmaxs l) vex h = short-bits l (either-way vex (not (is_quadword l)) (is_word l) (not (is_quadword l)) (λ k. k) (word-short l) h)
lanes-have (lanes.Pminu l) vex h = short-bits l (either-way vex (not (is_quadword l)) (is_byte l) (not (is_quadword l)) (λ k. k) (byte-short l) h)
lanes-have (lanes.Pmaxu l) vex h = short-bits l (either-way vex (not (is_quadword l)) (is_byte l) (not (is_quadword l)) (λ k. k) (byte-short l) h)
lanes-have (lanes.Pavg l) vex h = narrow-bits l h
lanes-have (lanes.Pabs l) vex h = short-bits l (and_parts vex (not (is_quadword l)) h).1
lanes-have _ vex h = tt

widens-by : (l m : LaneWidth) → widens l m ≡ true → Widens l m
widens-by Byte Word h = tt
widens-by Byte Doubleword h = tt
widens-by Word Doubleword h = tt
widens-by Doubleword Quadword h = tt
widens-by _ _ h = cc

packs-by : (l : LaneWidth) → is_middle l ≡ true → (16 ≤ bits l) × (bits l ≤ 32)
packs-by l h = let both = middle-bits l h in (both.1, both.0)

moves-have : (op : MoveOp) (vex : Bool) → has_move vex op ≡ true → HasMoveWidths op
moves-have (moves.Packss l) vex h = packs-by l h
moves-have (moves.Pmovzx l m) vex h = widens-by l m (and_parts vex (widens l m) h).1
moves-have (moves.Pmovsx l m) vex h = widens-by l m (and_parts vex (widens l m) h).1
moves-have _ vex h = tt

-- the lanes of an operation on vectors are of widths that its row has
pub HasLanes : VectorOp → Type 0
HasLanes (Lanewise op) = IsLaneRow op
HasLanes (Moving op) = HasMoveWidths op
HasLanes _ = Unit {0}

-- an operation that a mnemonic names has such lanes
pub vectors-have : (op : VectorOp) (vex : Bool) → has_vectors vex op ≡ true → HasLanes op
unfolding HasLanes
vectors-have (Lanewise op) vex h = lanes-have op vex h
vectors-have (Moving op) vex h = moves-have op vex h
vectors-have _ vex h = tt

-- and so has the move of quadwords
pub quadword-has : HasLanes (Moving moves.Movq)
unfolding HasLanes
quadword-has = tt

-- vectors

found-where : (b : Bool) (p : OperandForm → Bool) (forms : List OperandForm) (form : OperandForm) → find p (if b then forms else []) ≡ Some form → (b ≡ true) × (find p forms ≡ Some form)
found-where true p forms form h = (refl, h)
found-where false p forms form h = cc

width-by : (vex : Bool) (w : ℕ) → is_vector_width vex w ≡ true → IsVectorWidth w
width-by vex w h =
    ⊎_elim (λ (e : (w == 128) ≡ true). inl ((Decides-eqb w 128).0 e))
    (λ (e : (vex && w == 256) ≡ true). inr ((Decides-eqb w 256).0 (and_parts vex (w == 256) e).1))
    (or_cases (w == 128) (vex && w == 256) h)

low-only : (w : ℕ) (p : OperandForm → Bool) (forms : List OperandForm) (form : OperandForm) → find p (only_low w forms) ≡ Some form → w ≡ 128
low-only w p forms form h = (Decides-eqb w 128).0 (found-where (w == 128) p forms form h).0

wide-only : (w : ℕ) (p : OperandForm → Bool) (forms : List OperandForm) (form : OperandForm) → find p (only_wide w forms) ≡ Some form → w ≡ 256
wide-only w p forms form h = (Decides-eqb w 256).0 (found-where (w == 256) p forms form h).0

move-row : (op : MoveOp) (vex : Bool) (w : ℕ) (p : OperandForm → Bool) (form : OperandForm) → find p (move_forms op vex w) ≡ Some form → IsMoveRow op w
move-row moves.Movd vex w p form h = low-only w p (exchanged 32) form h
move-row moves.Movq vex w p form h = low-only w p moved_quadword form h
move-row moves.Extracti128 vex w p form h = wide-only w p extracted form h
move-row moves.Inserti128 vex w p form h = wide-only w p (joined 128 ∷ []) form h
move-row moves.Perm2i128 vex w p form h = wide-only w p (joined 256 ∷ []) form h
move-row moves.Permq vex w p form h = wide-only w p (shuffled 256 ∷ []) form h
move-row _ vex w p form h = tt

row-at : (op : VectorOp) (vex : Bool) (w : ℕ) (p : OperandForm → Bool) (form : OperandForm) → HasLanes op → IsVectorWidth w → find p (forms_at op vex w) ≡ Some form
    → HasVectorRow op w
unfolding HasLanes
row-at (Lanewise op) vex w p form have width h = (width, have)
row-at (Moving op) vex w p form have width h = (width, (have, move-row op vex w p form h))
row-at Vzeroupper vex w p form have width h = width
row-at _ vex w p form have width h = (width, tt)

-- an operation with such lanes, of which a form was found, is a row of the table
pub vector-row : (op : VectorOp) (vex : Bool) (w : ℕ) (p : OperandForm → Bool) (form : OperandForm) → HasLanes op → find p (vector_forms op vex w) ≡ Some form
    → HasVectorRow op w
vector-row op vex w p form have h =
    let found = found-where (is_vector_width vex w) p (forms_at op vex w) form h in
    row-at op vex w p form have (width-by vex w found.0) found.1
