-- A step on vectors keeps each value of a state in its range.
use Rattle.std.proofs.Common.{◌≡◌, inl, inr, ℕ, zero, suc, ◌+◌, ◌-◌, ◌*◌, ◌/◌, ◌^◌, ◌<◌, ◌≤◌, Bool, true, false, List, [], ◌∷◌, ◌++◌, length, take, drop, map, get_or, slice_get, slice_set, Some, refl, sym, ◌∙◌, ap, subst, arith, lit<, length-append}
use Rattle.std.specs.Prelude.{replicate}
use Rattle.std.proofs.Math.ListN.{length-set}
use Rattle.std.proofs.Math.Nat.{pow-suc, pow-le-pow_right}
use Rattle.std.proofs.lemmas.List.{length-map, length-replicate, length-take, length-drop}
use Rattle.std.proofs.lemmas.Nat.{mod_below}
use Rattle.std.proofs.lemmas.Option.{slice_get-get_or}
use Rattle.insn_ops.specs.declared.op.Op.{Op}
use Rattle.insn_ops.specs.declared.op.Op.TheVariants as ops
use Rattle.insn_ops.specs.declared.vector_op.LaneOp.{LaneOp}
use Rattle.insn_ops.specs.declared.vector_op.LaneOp.TheVariants as scalar_ops
use Rattle.insn_ops.specs.declared.vector_op.LaneWidth.{LaneWidth}
use Rattle.insn_ops.specs.declared.vector_op.LaneWidth.TheVariants.{Byte, Word, Doubleword, Quadword}
use Rattle.insn_ops.specs.declared.vector_op.VectorOp.{VectorOp}
use Rattle.insn_ops.specs.declared.vector_op.VectorOp.TheVariants as vectors
use Rattle.insn_table.specs.Table.{HasRegisters}
use Rattle.insn_table.specs.declared.insn.Insn.{Insn}
use Rattle.insn_table.specs.declared.insn.Operand.{Operand}
use Rattle.insn_table.specs.declared.insn.Operand.TheVariants.{Reg, Imm, Mem, Vec, Pool, Target, Nothing}
use Rattle.lane_views.specs.Lanes.{byte_of, bytes_of, is_lane_width, lane, number}
use Rattle.lane_views.proofs.Settings.{length-bytes_of}
use Rattle.lane_ops.proofs.Inside.{lanes_of_vector, move_width}
use Rattle.lane_semantics.specs.LaneRows.{lane_op_bits}
use Rattle.lane_semantics.specs.VectorRows.{HasRow, IsVectorRow, IsVectorWidth, result_bits}
use Rattle.lane_semantics.specs.Vectors.{lane_value, lanes_in_turn, vector_of}
use Rattle.lane_semantics.specs.Widths.{bits}
use Rattle.machine.specs.declared.operands.Family.TheVariants.{OnVectors}
use Rattle.machine.specs.Access.{target_width}
use Rattle.machine.specs.Family.{family_of}
use Rattle.machine.specs.Machine.{AreVecs, IsState, Machine}
use Rattle.memory_spans.specs.Memory.{offset_from}
use Rattle.machine.specs.Operands.{effective_address}
use Rattle.machine.specs.Runnable.{HasRowOf, HasVectorRow, IsRunnable}
use Rattle.machine.specs.Vectors.{after_clearing, after_vectors, cleared_above, last_operand, vector_at, vector_result, with_vector, written_vector}
use Rattle.memory_spans.proofs.ByteRanges.{AreBytes}
use Rattle.machine.proofs.StartRanges.{IsVec}
use Rattle.machine.proofs.Keeping.{set_regs}

-- bytes

joined : (xs ys : List ℕ) → AreBytes xs → AreBytes ys → AreBytes (xs ++ ys)
joined [] ys h k i = k i
joined (x ∷ xs) ys h k zero = h zero
joined (x ∷ xs) ys h k (suc i) = joined xs ys (λ j. h (suc j)) k i

taken : (n : ℕ) (xs : List ℕ) → AreBytes xs → AreBytes (take n xs)
taken zero xs h i = lit< tt
taken (suc n) [] h i = lit< tt
taken (suc n) (x ∷ xs) h zero = h zero
taken (suc n) (x ∷ xs) h (suc i) = taken n xs (λ j. h (suc j)) i

dropped : (n : ℕ) (xs : List ℕ) → AreBytes xs → AreBytes (drop n xs)
dropped zero xs h i = h i
dropped (suc n) [] h i = lit< tt
dropped (suc n) (x ∷ xs) h i = dropped n xs (λ j. h (suc j)) i

zeros : (n : ℕ) → AreBytes (replicate n 0)
zeros zero i = lit< tt
zeros (suc n) zero = lit< tt
zeros (suc n) (suc i) = zeros n i

mapped : (f : ℕ → ℕ) → ((x : ℕ) → f x < 256) → (xs : List ℕ) → AreBytes (map f xs)
mapped f below [] i = lit< tt
mapped f below (x ∷ xs) zero = below x
mapped f below (x ∷ xs) (suc i) = mapped f below xs i

number_bytes : (n v : ℕ) → AreBytes (bytes_of n v)
unfolding bytes_of
number_bytes n v i = mapped (byte_of v) (λ k. mod_below (v / 2 ^ (8 * k)) 256 (lit< tt)) _ i

item_below : (bytes : List ℕ) (i d : ℕ) → AreBytes bytes → d < 256 → get_or bytes i d < 256
item_below [] i d h low = low
item_below (x ∷ xs) zero d h low = h zero
item_below (x ∷ xs) (suc i) d h low = item_below xs i d (λ j. h (suc j)) low

next_digit : (b m p : ℕ) → b < 256 → m < p → b + 256 * m < p * 256
next_digit b m p low h = omega (arith, low, h)

number_below : (bytes : List ℕ) → AreBytes bytes → number bytes < 256 ^ length bytes
number_below [] h = lit< tt
number_below (x ∷ xs) h = rw (pow-suc 256 (length xs)) (next_digit x (number xs) (256 ^ length xs) (h zero) (number_below xs (λ j. h (suc j))))

-- the low word of a vector
low_lane_below : (v : List ℕ) → AreBytes v → lane 64 0 v < 2 ^ 64
low_lane_below v h =
    let few : length (take 8 (drop 0 v)) ≤ 8 = omega (arith, length-take 8 (drop 0 v)) in
    let low = number_below (take 8 (drop 0 v)) (taken 8 (drop 0 v) (dropped 0 v h)) in
    let most : 256 ^ length (take 8 (drop 0 v)) ≤ 256 ^ 8 = pow-le-pow_right {n = 256} (lit< tt) {i = length (take 8 (drop 0 v))} {j = 8} few in
    omega (arith, low, most)

-- vectors

lanes_bytes : (w : ℕ) (g : ℕ → ℕ) (n : ℕ) → AreBytes (lanes_in_turn w g n)
unfolding lanes_in_turn
lanes_bytes w g zero i = lit< tt
lanes_bytes w g (suc n) i = joined (lanes_in_turn w g n) (bytes_of (w / 8) (g n)) (lanes_bytes w g n) (number_bytes (w / 8) (g n)) i

lanes_size : (w : ℕ) (g : ℕ → ℕ) (n : ℕ) → length (lanes_in_turn w g n) ≡ n * (w / 8)
unfolding lanes_in_turn
lanes_size w g zero = omega arith
lanes_size w g (suc n) = rw (length-append, lanes_size w g n, length-bytes_of) (omega arith)

bits_width : (l : LaneWidth) → is_lane_width (bits l) ≡ true
bits_width Byte = refl
bits_width Word = refl
bits_width Doubleword = refl
bits_width Quadword = refl

lane_width : (op : LaneOp) → is_lane_width (lane_op_bits op) ≡ true
lane_width (scalar_ops.Padd l) = bits_width l
lane_width (scalar_ops.Psub l) = bits_width l
lane_width (scalar_ops.Padds l) = bits_width l
lane_width (scalar_ops.Psubs l) = bits_width l
lane_width (scalar_ops.Paddus l) = bits_width l
lane_width (scalar_ops.Psubus l) = bits_width l
lane_width (scalar_ops.Pcmpeq l) = bits_width l
lane_width (scalar_ops.Pcmpgt l) = bits_width l
lane_width (scalar_ops.Pmull l) = bits_width l
lane_width (scalar_ops.Psll l) = bits_width l
lane_width (scalar_ops.Psrl l) = bits_width l
lane_width (scalar_ops.Psra l) = bits_width l
lane_width (scalar_ops.Pmins l) = bits_width l
lane_width (scalar_ops.Pmaxs l) = bits_width l
lane_width (scalar_ops.Pminu l) = bits_width l
lane_width (scalar_ops.Pmaxu l) = bits_width l
lane_width (scalar_ops.Pavg l) = bits_width l
lane_width (scalar_ops.Pabs l) = bits_width l
lane_width _ = refl

result_width : (op : VectorOp) (w : ℕ) → HasRow op w → is_lane_width (result_bits op) ≡ true
result_width (vectors.Lanewise op) w row = lane_width op
result_width (vectors.Moving op) w row = move_width op row.0
result_width vectors.Vzeroupper w row = absurd row
result_width _ w row = refl

vector_fits : (w : ℕ) → IsVectorWidth w → w / 8 ≤ 32
vector_fits w (inl e) = omega (arith, e)
vector_fits w (inr e) = omega (arith, e)

whole : (n k : ℕ) → n ≡ k → k ≤ 32 → n + (32 - k) ≡ 32
whole n k e h = omega (arith, e, h)

-- what an operation computes is a vector
result_ranged : (op : VectorOp) (w k : ℕ) (a b : List ℕ) → IsVectorRow op w → IsVec (vector_of op w k a b)
result_ranged op w k a b row =
    let n : ℕ = result_bits op in
    let g : ℕ → ℕ = lane_value op w k a b in
    let size : length (lanes_in_turn n g (w / n)) ≡ w / 8 = lanes_size n g (w / n) ∙ lanes_of_vector n w (result_width op w row.1) row.0 in (
      length-append (lanes_in_turn n g (w / n)) (replicate (32 - w / 8) 0)
          ∙ ap (λ (m : ℕ). length (lanes_in_turn n g (w / n)) + m) (length-replicate (32 - w / 8) 0)
          ∙ whole (length (lanes_in_turn n g (w / n))) (w / 8) size (vector_fits w row.0),
      joined (lanes_in_turn n g (w / n)) (replicate (32 - w / 8) 0) (lanes_bytes n g (w / n)) (zeros (32 - w / 8)),
    )

half : (v : List ℕ) → length v ≡ 32 → length (take 16 v) ≡ 16
half v e = omega (arith, length-take 16 v, e)

upper : (v : List ℕ) → length v ≡ 32 → length (drop 16 v) ≡ 16
upper v e = omega (arith, length-drop 16 v, e)

halves_joined : (x y : List ℕ) → length x ≡ 16 → length y ≡ 16 → AreBytes x → AreBytes y → IsVec (x ++ y)
halves_joined x y e f h k = (length-append x y ∙ (λ i. e i + f i), joined x y h k)

written_ranged : (vex : Bool) (old new : List ℕ) → IsVec old → IsVec new → IsVec (written_vector vex old new)
written_ranged true old new h k = k
written_ranged false old new h k = halves_joined (take 16 new) (drop 16 old) (half new k.0) (upper old h.0) (taken 16 new k.1) (dropped 16 old h.1)

set_each : (vecs : List (List ℕ)) (r n : ℕ) (v u : List ℕ) → IsVec v → ((k : ℕ) (x : List ℕ) → slice_get vecs k ≡ Some x → IsVec x)
    → slice_get (slice_set vecs r v) n ≡ Some u → IsVec u
set_each [] r n v u new each at = cc
set_each (x ∷ xs) zero zero v u new each at = let same : v ≡ u = cc in subst IsVec same new
set_each (x ∷ xs) zero (suc n) v u new each at = each (suc n) u at
set_each (x ∷ xs) (suc r) zero v u new each at = each zero u at
set_each (x ∷ xs) (suc r) (suc n) v u new each at = set_each xs r n v u new (λ k y there. each (suc k) y there) at

set_vecs : (vecs : List (List ℕ)) (r : ℕ) (v : List ℕ) → IsVec v → AreVecs vecs → AreVecs (slice_set vecs r v)
set_vecs vecs r v new all = record { sixteen = simp length-set all.sixteen; each = λ n u at. set_each vecs r n v u new all.each at }

vector_ranged : (s : Machine) (n : ℕ) → n < 16 → AreVecs s.vecs → IsVec (vector_at s n)
vector_ranged s n low all = all.each n (get_or s.vecs n []) (slice_get-get_or s.vecs n [] (omega (arith, low, all.sixteen)))

-- a write of a vector keeps a state
write_ranged : (vex : Bool) (n : ℕ) (s : Machine) (o : Operand) (new : List ℕ) → HasRegisters o → IsVec new → IsState s → IsState (with_vector vex n s o new)
write_ranged vex n s (Vec r v) new low ranged state = record {
  regs = state.regs;
  entry = state.entry;
  vecs = set_vecs s.vecs r (written_vector vex (vector_at s r) new) (written_ranged vex (vector_at s r) new (vector_ranged s r low state.vecs) ranged) state.vecs;
  memory = state.memory;
}
write_ranged vex n s (Reg r v) new low ranged state = record {
  regs = set_regs s.regs r (lane 64 0 new) low (low_lane_below new ranged.1) state.regs;
  entry = state.entry;
  vecs = state.vecs;
  memory = state.memory;
}
write_ranged vex n s (Mem base index scale disp) new low ranged state = record {
  regs = state.regs;
  entry = state.entry;
  vecs = state.vecs;
  memory = λ x. item_below (take n new) (offset_from (effective_address s.regs base index scale disp) x) (s.memory x) (taken n new ranged.1) (state.memory x);
}
write_ranged vex n s (Imm v) new low ranged state = state
write_ranged vex n s (Pool at) new low ranged state = state
write_ranged vex n s (Target at) new low ranged state = state
write_ranged vex n s Nothing new low ranged state = state

-- the row of an operation on vectors that computes
computing_row : (op : VectorOp) (w : ℕ) → family_of (ops.Vector op) ≡ OnVectors → HasVectorRow op w → IsVectorRow op w
computing_row (vectors.Lanewise op) w f row = row
computing_row (vectors.Moving op) w f row = row
computing_row vectors.Vzeroupper w f row = cc
computing_row vectors.Pmaddwd w f row = row
computing_row vectors.Psadbw w f row = row
computing_row vectors.Pshufb w f row = row
computing_row vectors.Pmovmskb w f row = row

changed_by : (op : Op) (pool : List ℕ) (n : ℕ) (i : Insn) (s : Machine) → i.op ≡ op → family_of op ≡ OnVectors → IsRunnable n i → IsState s
    → IsState (after_vectors op pool i s)
changed_by (ops.Vector op) pool n i s same f r state =
    let row : HasVectorRow op i.w = subst (λ (o : Op). HasRowOf o i) same r.row in
    write_ranged i.vex (target_width i.op i.w / 8) s (last_operand i) (vector_result pool op i s) (r.numbers _)
    (result_ranged op i.w _ _ _ (computing_row op i.w f row)) state
changed_by _ pool n i s same f r state = state

-- An operation on vectors keeps a state,
pub vectors_ranged : (op : Op) (pool : List ℕ) (n : ℕ) (i : Insn) (s : Machine) → i.op ≡ op → family_of i.op ≡ OnVectors → IsRunnable n i → IsState s
    → IsState (after_vectors op pool i s)
vectors_ranged op pool n i s same f r state = changed_by op pool n i s same (ap family_of (sym same) ∙ f) r state

cleared_is_vector : (v : List ℕ) → IsVec v → IsVec (cleared_above v)
cleared_is_vector v h = halves_joined (take 16 v) (replicate 16 0) (half v h.0) refl (taken 16 v h.1) (zeros 16)

cleared_each : (vecs : List (List ℕ)) → ((k : ℕ) (x : List ℕ) → slice_get vecs k ≡ Some x → IsVec x) → (n : ℕ) (u : List ℕ)
    → slice_get (map cleared_above vecs) n ≡ Some u → IsVec u
cleared_each [] each n u at = cc
cleared_each (x ∷ xs) each zero u at = let same : cleared_above x ≡ u = cc in subst IsVec same (cleared_is_vector x (each zero x refl))
cleared_each (x ∷ xs) each (suc n) u at = cleared_each xs (λ k y there. each (suc k) y there) n u at

-- and so does `vzeroupper`.
pub cleared_ranged : (s : Machine) → IsState s → IsState (after_clearing s)
cleared_ranged s state = record {
  regs = state.regs;
  entry = state.entry;
  vecs = record { sixteen = length-map s.vecs cleared_above ∙ state.vecs.sixteen; each = cleared_each s.vecs state.vecs.each };
  memory = state.memory;
}
