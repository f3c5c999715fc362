-- The lanes that `psadbw` and `pshufb` read, and their values.
use Rattle.std.proofs.Common.{◌≡◌, ◌≢◌, ℕ, suc, ◌+◌, ◌-◌, ◌*◌, ◌/◌, ◌%◌, ◌<◌, ◌≤◌, List, refl, sym, ◌∙◌, ap, inl, inr, arith, div-one}
use Rattle.std.proofs.lemmas.Bool.{le-ltb, lt-ltb, ne_eqb}
use Rattle.insn_ops.specs.declared.vector_op.VectorOp.TheVariants as ops
use Rattle.insn_semantics.specs.Exprs.{value}
use Rattle.insn_semantics.specs.Words.{below, choice, cut, minus}
use Rattle.lane_views.specs.Lanes.{lane}
use Rattle.lane_semantics.specs.Sources.{tops}
use Rattle.lane_semantics.specs.VectorRows.{IsVectorWidth, byte_distance, distances}
use Rattle.lane_semantics.specs.Vectors.{lane_value, row_leaves}
use Rattle.lane_semantics.proofs.Chains.{byte_distance_is, byte_mask_128, byte_mask_256, distance_sum_is, shuffled_is, tops_of_zeros}

first_byte : (a b : List ℕ) (i k : ℕ) → k < 8 → row_leaves ops.Psadbw 0 a b i k ≡ lane 8 (8 * i + k) a
first_byte a b i k h = rw (lt-ltb k 8 h) refl

second_byte : (a b : List ℕ) (i k : ℕ) → k < 8 → row_leaves ops.Psadbw 0 a b i (8 + k) ≡ lane 8 (8 * i + k) b
second_byte a b i k h =
    let high : 8 ≤ 8 + k = omega arith in
    let back : 8 + k - 8 ≡ k = omega arith in
    rw (le-ltb (8 + k) 8 high, back) refl

-- the distance of the bytes k of lane i
pub distance_at : (a b : List ℕ) (i k : ℕ) → k < 8 → value (row_leaves ops.Psadbw 0 a b i) (byte_distance k)
    ≡ choice (below (lane 8 (8 * i + k) a) (lane 8 (8 * i + k) b)) (minus 8 (lane 8 (8 * i + k) b) (lane 8 (8 * i + k) a)) (minus 8 (lane 8 (8 * i + k) a) (lane 8 (8 * i + k) b))
distance_at a b i k h = byte_distance_is (row_leaves ops.Psadbw 0 a b i) k _ _ (first_byte a b i k h) (second_byte a b i k h)

pub first_distance : (a b : List ℕ) (i j : ℕ) → j ≡ 8 * i + 0 → choice (below (lane 8 j a) (lane 8 j b)) (minus 8 (lane 8 j b) (lane 8 j a)) (minus 8 (lane 8 j a) (lane 8 j b))
    ≡ value (row_leaves ops.Psadbw 0 a b i) (distances 0)
first_distance a b i j e =
    ap (λ (n : ℕ). choice (below (lane 8 n a) (lane 8 n b)) (minus 8 (lane 8 n b) (lane 8 n a)) (minus 8 (lane 8 n a) (lane 8 n b))) e
    ∙ sym (distance_at a b i 0 (omega arith))

-- the sum is that of all eight
pub distance_sum_at : (a b : List ℕ) (i k : ℕ) → k ≡ 8 → value (row_leaves ops.Psadbw 0 a b i) (distances (k - 1)) ≡ lane_value ops.Psadbw 0 0 a b i
distance_sum_at a b i k e = ap (λ (n : ℕ). value (row_leaves ops.Psadbw 0 a b i) (distances (n - 1))) e ∙ sym (distance_sum_is (row_leaves ops.Psadbw 0 a b i))

-- `pshufb` by the byte that numbers
pub shuffled_at : (a b : List ℕ) (i : ℕ) → lane_value ops.Pshufb 0 0 a b i ≡ choice (cut (lane 8 i b) 7 1) 0 (lane 8 (16 * (i / 16) + lane 8 i b % 16) a)
shuffled_at a b i =
    let number : 1 + cut (lane 8 i b) 0 4 ≡ suc (lane 8 i b % 16) = rw div-one (omega arith) in
    shuffled_is (row_leaves ops.Pshufb 0 a b i) ∙ ap (λ (j : ℕ). choice (cut (lane 8 i b) 7 1) 0 (row_leaves ops.Pshufb 0 a b i j)) number

pub top_of_high : (c : ℕ) → 128 ≤ c → c < 256 → cut c 7 1 ≡ 1
top_of_high c h k = omega arith

pub top_of_low : (c : ℕ) → c < 128 → cut c 7 1 ≡ 0
top_of_low c h = omega arith

-- `pmovmskb`: the mask of the second argument's bytes in lane 0, and zeros above
pub mask_at : (a b : List ℕ) (w k i : ℕ) → IsVectorWidth w → i ≡ 0 → lane_value ops.Pmovmskb w k a b i ≡ tops (λ j. lane 8 j b) (w / 8)
mask_at a b w k i (inl e) zero_lane =
    (λ t. lane_value ops.Pmovmskb (e t) k a b (zero_lane t)) ∙ byte_mask_128 (row_leaves ops.Pmovmskb k a b 0) (λ j. lane 8 j b) (λ j h. refl)
    ∙ ap (λ (v : ℕ). tops (λ j. lane 8 j b) (v / 8)) (sym e)
mask_at a b w k i (inr e) zero_lane =
    (λ t. lane_value ops.Pmovmskb (e t) k a b (zero_lane t)) ∙ byte_mask_256 (row_leaves ops.Pmovmskb k a b 0) (λ j. lane 8 j b) (λ j h. refl)
    ∙ ap (λ (v : ℕ). tops (λ j. lane 8 j b) (v / 8)) (sym e)

no_bytes : (a b : List ℕ) (k i j : ℕ) → i ≢ 0 → row_leaves ops.Pmovmskb k a b i j ≡ 0
no_bytes a b k i j h = rw (ne_eqb i 0 h) refl

pub mask_above : (a b : List ℕ) (w k i : ℕ) → IsVectorWidth w → i ≢ 0 → lane_value ops.Pmovmskb w k a b i ≡ 0
mask_above a b w k i (inl e) h =
    ap (λ (v : ℕ). lane_value ops.Pmovmskb v k a b i) e ∙ byte_mask_128 (row_leaves ops.Pmovmskb k a b i) (λ j. 0) (λ j l. no_bytes a b k i j h)
    ∙ tops_of_zeros (λ j. 0) 16 (λ j. refl)
mask_above a b w k i (inr e) h =
    ap (λ (v : ℕ). lane_value ops.Pmovmskb v k a b i) e ∙ byte_mask_256 (row_leaves ops.Pmovmskb k a b i) (λ j. 0) (λ j l. no_bytes a b k i j h)
    ∙ tops_of_zeros (λ j. 0) 32 (λ j. refl)
