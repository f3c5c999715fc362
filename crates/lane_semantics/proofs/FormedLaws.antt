-- The expressions of the rows of vectors are formed, over leaves of the width that their sources have.
use Rattle.std.proofs.Common.{◌≡◌, ℕ, zero, suc, ◌+◌, ◌-◌, ◌/◌, ◌^◌, ◌<◌, ◌≤◌, ◌==◌, refl, sym, ◌∙◌, ap, subst, inl, inr, arith, if◌then◌else◌}
use Rattle.std.specs.Prelude.{min, nat_lt}
use Rattle.std.proofs.lemmas.Bool.{cases_Bool, cases_lt, cases_order, eq-eqb, le-ltb, lt-ltb, ne_eqb}
use Rattle.std.proofs.lemmas.Nat.{pow_pos}
use Rattle.std.proofs.Math.Pow.{pow-lt}
use Rattle.insn_ops.specs.declared.vector_op.LaneWidth.{LaneWidth}
use Rattle.insn_ops.specs.declared.vector_op.LaneWidth.TheVariants.{Byte, Word, Doubleword, Quadword}
use Rattle.insn_ops.specs.declared.vector_op.LaneOp.{LaneOp}
use Rattle.insn_ops.specs.declared.vector_op.LaneOp.TheVariants as lanes
use Rattle.insn_ops.specs.declared.vector_op.MoveOp.{MoveOp}
use Rattle.insn_ops.specs.declared.vector_op.MoveOp.TheVariants as moves
use Rattle.insn_ops.specs.declared.vector_op.VectorOp.{VectorOp}
use Rattle.insn_ops.specs.declared.vector_op.VectorOp.TheVariants as ops
use Rattle.insn_semantics.specs.Exprs.{Expr, Leaf, Number, Two, Shifted, Joined, Cut, Extended, Choice, Let, Operator, Plus, Minus, Times, And, Or, Xor, Equal, Below, SignedBelow, Shift, Left, Right, Signed, with_leaf}
use Rattle.insn_semantics.specs.Formed.{IsFormedAt, expr_width, operator_width}
use Rattle.insn_semantics.proofs.FormedLaws.{cut_formed, leaf_formed, number_formed, two_formed}
use Rattle.insn_semantics.proofs.WordLaws.{power_grows}
use Rattle.lane_semantics.specs.FormedLanes.{leaf_bits}
use Rattle.lane_semantics.specs.LaneRows.{IsLaneRow, average, lane_expr, lane_op_bits, low_half, magnitude, shifted_by_sign, shifted_left, shifted_right, signed_saturated, signed_saturation, unsigned_saturated, unsigned_saturation, zero_extended}
use Rattle.lane_semantics.specs.MoveRows.{HasMoveWidths, Widens, move_expr, move_op_bits, move_source_bits}
use Rattle.lane_semantics.specs.VectorRows.{IsVectorRow, IsVectorWidth, byte_distance, byte_mask, distances, distance_sum, picked, result_bits, shuffled, signed_product, tops_joined, vector_expr, with_tops}
use Rattle.lane_semantics.specs.Widths.{bits}
use Rattle.lane_semantics.proofs.Chains.{with_leaf_other, with_leaf_same}

-- the operators, over leaves of any widths
module _ (L : ℕ → ℕ) where
  extended_formed : (m n : ℕ) (x : Expr) → IsFormedAt L m x → m < n → n ≤ 64 → IsFormedAt L n (Extended m n x)
  extended_formed m n x h more most = record { formed = (h.width, more, most, h.formed); width = refl }

  joined_formed : (m n : ℕ) (x y : Expr) → IsFormedAt L m x → IsFormedAt L n y → m + n ≤ 64 → IsFormedAt L (m + n) (Joined n x y)
  joined_formed m n x y h j most = record { formed = (j.width, omega (arith, h.width, most), h.formed, j.formed); width = ap (λ k. k + n) h.width }

  zero_extended_formed : (m n : ℕ) (x : Expr) → IsFormedAt L m x → m < n → n ≤ 64 → IsFormedAt L n (zero_extended m n x)
  zero_extended_formed m n x h more most =
      let whole : n - m + m ≡ n = omega arith in
      let zeros : IsFormedAt L (n - m) (Number (n - m) 0) = number_formed L (n - m) 0 (omega arith) (omega arith) (pow_pos (n - m)) in
      subst (λ (k : ℕ). IsFormedAt L k (zero_extended m n x)) whole (joined_formed (n - m) m (Number (n - m) 0) x zeros h (omega arith))

  choice_formed : (n : ℕ) (c x y : Expr) → IsFormedAt L 1 c → IsFormedAt L n x → IsFormedAt L n y → IsFormedAt L n (Choice c x y)
  choice_formed n c x y h i j = record { formed = (h.width, i.width ∙ sym j.width, h.formed, i.formed, j.formed); width = i.width }

  let_formed : (i m n : ℕ) (x y : Expr) → IsFormedAt L m x → IsFormedAt (with_leaf L i m) n y → IsFormedAt L n (Let i x y)
  let_formed i m n x y h j =
      let named : IsFormedAt (with_leaf L i (expr_width L x)) n y = subst (λ (v : ℕ). IsFormedAt (with_leaf L i v) n y) (sym h.width) j in
      record { formed = (h.formed, named.formed); width = named.width }

  below_formed : (m : ℕ) (x y : Expr) → IsFormedAt L m x → IsFormedAt L m y → IsFormedAt L 1 (Two SignedBelow m x y)
  below_formed m x y h j = two_formed L SignedBelow m x y h j

  -- saturation of m bits to w
  module _ (m w : ℕ) (some : 0 < w) (fewer : w < m) (most : m ≤ 64) (x : Expr) (h : IsFormedAt L m x) where
    half_below : 2 ^ (w - 1) < 2 ^ w
    half_below = pow-lt (omega arith)

    whole_below : 2 ^ w < 2 ^ m
    whole_below = pow-lt fewer

    low_bits : IsFormedAt L w (Cut x 0 w)
    low_bits = cut_formed L m 0 w x h some (omega arith)

    of_m : (v : ℕ) → v < 2 ^ m → IsFormedAt L m (Number m v)
    of_m v b = number_formed L m v (omega arith) most b

    of_w : (v : ℕ) → v < 2 ^ w → IsFormedAt L w (Number w v)
    of_w v b = number_formed L w v some (omega arith) b

    signed_saturation_formed : IsFormedAt L w (signed_saturation m w x)
    signed_saturation_formed =
        let first : 0 < 2 ^ (w - 1) = pow_pos (w - 1) in
        let second = half_below in
        let third = whole_below in
        choice_formed w _ _ _ (below_formed m _ x (of_m (2 ^ (w - 1) - 1) (omega arith)) h) (of_w (2 ^ (w - 1) - 1) (omega arith))
        (choice_formed w _ _ _ (below_formed m x _ h (of_m (2 ^ m - 2 ^ (w - 1)) (omega arith))) (of_w (2 ^ (w - 1)) half_below) low_bits)

    unsigned_saturation_formed : IsFormedAt L w (unsigned_saturation m w x)
    unsigned_saturation_formed =
        let first : 0 < 2 ^ w = pow_pos w in
        let second = whole_below in
        choice_formed w _ _ _ (below_formed m x _ h (of_m 0 (omega arith))) (of_w 0 first)
        (choice_formed w _ _ _ (below_formed m _ x (of_m (2 ^ w - 1) (omega arith)) h) (of_w (2 ^ w - 1) (omega arith)) low_bits)

-- the rows by lane, over lanes of w bits
module _ (w : ℕ) (some : 8 ≤ w) (most : w ≤ 64) where
  abbrev W : ℕ → ℕ
  W j = w

  two_lanes : (operator : Operator) → IsFormedAt W (operator_width operator w) (Two operator w (Leaf 0) (Leaf 1))
  two_lanes operator = two_formed W operator w (Leaf 0) (Leaf 1) (leaf_formed W 0) (leaf_formed W 1)

  signed_saturated_formed : (operator : Operator) → operator_width operator (w + 1) ≡ w + 1 → w ≤ 16 → IsFormedAt W w (signed_saturated operator w)
  signed_saturated_formed operator same few =
      let left = extended_formed W w (w + 1) (Leaf 0) (leaf_formed W 0) (omega arith) (omega arith) in
      let right = extended_formed W w (w + 1) (Leaf 1) (leaf_formed W 1) (omega arith) (omega arith) in
      let sum = two_formed W operator (w + 1) (Extended w (w + 1) (Leaf 0)) (Extended w (w + 1) (Leaf 1)) left right in
      let_formed W 2 (w + 1) w _ (signed_saturation (w + 1) w (Leaf 2))
      (subst (λ (v : ℕ). IsFormedAt W v (Two operator (w + 1) (Extended w (w + 1) (Leaf 0)) (Extended w (w + 1) (Leaf 1)))) same sum)
      (signed_saturation_formed (with_leaf W 2 (w + 1)) (w + 1) w (omega arith) (omega arith) (omega arith) (Leaf 2) (leaf_formed (with_leaf W 2 (w + 1)) 2))

  unsigned_saturated_formed : (operator : Operator) → operator_width operator (w + 2) ≡ w + 2 → w ≤ 16 → IsFormedAt W w (unsigned_saturated operator w)
  unsigned_saturated_formed operator same few =
      let left = zero_extended_formed W w (w + 2) (Leaf 0) (leaf_formed W 0) (omega arith) (omega arith) in
      let right = zero_extended_formed W w (w + 2) (Leaf 1) (leaf_formed W 1) (omega arith) (omega arith) in
      let sum = two_formed W operator (w + 2) (zero_extended w (w + 2) (Leaf 0)) (zero_extended w (w + 2) (Leaf 1)) left right in
      let_formed W 2 (w + 2) w _ (unsigned_saturation (w + 2) w (Leaf 2))
      (subst (λ (v : ℕ). IsFormedAt W v (Two operator (w + 2) (zero_extended w (w + 2) (Leaf 0)) (zero_extended w (w + 2) (Leaf 1)))) same sum)
      (unsigned_saturation_formed (with_leaf W 2 (w + 2)) (w + 2) w (omega arith) (omega arith) (omega arith) (Leaf 2) (leaf_formed (with_leaf W 2 (w + 2)) 2))

  -- a lane shifted by its count, where that is not 0
  shifted_formed : (shift : Shift) (k : ℕ) → 0 < k → k < w → IsFormedAt W w (Shifted shift w (Leaf 1) k)
  shifted_formed shift k positive few = record { formed = (refl, positive, few, tt); width = refl }

  -- the lane itself for a count of 0, and for others what is given
  where_shifted : (k : ℕ) (x : Expr) → (0 < k → IsFormedAt W w x) → IsFormedAt W w (if k == 0 then Leaf 1 else x)
  where_shifted k x h = elim (cases_order k 0) [
    | inl e ↦ rw (eq-eqb k 0 e) (leaf_formed W 1)
    | inr (inl l) ↦ absurd (omega arith)
    | inr (inr g) ↦ rw (ne_eqb k 0 (λ e. omega arith)) (h g)
  ]

  -- a shift by less than the width, and zero for others
  or_zero : (shift : Shift) (k : ℕ) → 0 < k → IsFormedAt W w (if nat_lt k w then Shifted shift w (Leaf 1) k else Number w 0)
  or_zero shift k positive = elim (cases_lt k w) [
    | inl l ↦ rw (lt-ltb k w l) (shifted_formed shift k positive l)
    | inr g ↦ rw (le-ltb k w g) (number_formed W w 0 (omega arith) most (pow_pos w))
  ]

  shifted_left_formed : (k : ℕ) → IsFormedAt W w (shifted_left w k)
  shifted_left_formed k = where_shifted k _ (or_zero Left k)

  shifted_right_formed : (k : ℕ) → IsFormedAt W w (shifted_right w k)
  shifted_right_formed k = where_shifted k _ (or_zero Right k)

  shifted_by_sign_formed : (k : ℕ) → IsFormedAt W w (shifted_by_sign w k)
  shifted_by_sign_formed k = where_shifted k _ (λ positive. shifted_formed Signed (min k (w - 1)) (omega arith) (omega arith))

  chosen_formed : (c : Expr) → IsFormedAt W 1 c → (i j : ℕ) → IsFormedAt W w (Choice c (Leaf i) (Leaf j))
  chosen_formed c h i j = choice_formed W w c (Leaf i) (Leaf j) h (leaf_formed W i) (leaf_formed W j)

  average_formed : w ≤ 16 → IsFormedAt W w (average w)
  average_formed few =
      let left = zero_extended_formed W w (w + 1) (Leaf 0) (leaf_formed W 0) (omega arith) (omega arith) in
      let right = zero_extended_formed W w (w + 1) (Leaf 1) (leaf_formed W 1) (omega arith) (omega arith) in
      let two : 2 ^ 1 ≤ 2 ^ (w + 1) = power_grows 1 (w + 1) (omega arith) in
      let one = number_formed W (w + 1) 1 (omega arith) (omega arith) (omega arith) in
      let sum = two_formed W Plus (w + 1) (zero_extended w (w + 1) (Leaf 0)) (zero_extended w (w + 1) (Leaf 1)) left right in
      cut_formed W (w + 1) 1 w _
      (two_formed W Plus (w + 1) (Two Plus (w + 1) (zero_extended w (w + 1) (Leaf 0)) (zero_extended w (w + 1) (Leaf 1))) (Number (w + 1) 1) sum one)
      (omega arith) (omega arith)

  magnitude_formed : IsFormedAt W w (magnitude w)
  magnitude_formed =
      let nothing = number_formed W w 0 (omega arith) most (pow_pos w) in
      choice_formed W w _ _ _ (below_formed W w (Leaf 1) (Number w 0) (leaf_formed W 1) nothing)
      (two_formed W Minus w (Number w 0) (Leaf 1) nothing (leaf_formed W 1)) (leaf_formed W 1)

  equal_formed : (operator : Operator) → operator_width operator w ≡ 1 → (i j : ℕ) → IsFormedAt W w (Extended 1 w (Two operator w (Leaf i) (Leaf j)))
  equal_formed operator one i j =
      extended_formed W 1 w (Two operator w (Leaf i) (Leaf j))
      (subst (λ (v : ℕ). IsFormedAt W v (Two operator w (Leaf i) (Leaf j))) one (two_formed W operator w (Leaf i) (Leaf j) (leaf_formed W i) (leaf_formed W j)))
      (omega arith) most

-- the high half of a product of words
high_product_formed : (x y : Expr) → IsFormedAt (λ j. 16) 32 x → IsFormedAt (λ j. 16) 32 y → IsFormedAt (λ j. 16) 16 (Cut (Two Times 32 x y) 16 16)
high_product_formed x y h j = cut_formed (λ j. 16) 32 16 16 (Two Times 32 x y) (two_formed (λ j. 16) Times 32 x y h j) (omega arith) (omega arith)

low_half_formed : (i : ℕ) → IsFormedAt (λ j. 64) 64 (low_half (Leaf i))
low_half_formed i =
    let L : ℕ → ℕ = λ j. 64 in
    let_formed (λ j. 64) 2 32 64 (Cut (Leaf i) 0 32) (zero_extended 32 64 (Leaf 2))
    (cut_formed (λ j. 64) 64 0 32 (Leaf i) (leaf_formed (λ j. 64) i) (omega arith) (omega arith))
    (zero_extended_formed (with_leaf (λ j. 64) 2 32) 32 64 (Leaf 2) (leaf_formed (with_leaf (λ j. 64) 2 32) 2) (omega arith) (omega arith))

-- lanes have 8 to 64 bits
least : (l : LaneWidth) → 8 ≤ bits l
least Byte = omega arith
least Word = omega arith
least Doubleword = omega arith
least Quadword = omega arith

greatest : (l : LaneWidth) → bits l ≤ 64
greatest Byte = omega arith
greatest Word = omega arith
greatest Doubleword = omega arith
greatest Quadword = omega arith

-- the rows by lane
lanes_formed : (op : LaneOp) (k : ℕ) → IsLaneRow op → IsFormedAt (λ j. lane_op_bits op) (lane_op_bits op) (lane_expr op k)
lanes_formed (lanes.Padd l) k h = two_lanes (bits l) (least l) (greatest l) Plus
lanes_formed (lanes.Psub l) k h = two_lanes (bits l) (least l) (greatest l) Minus
lanes_formed (lanes.Padds l) k h = signed_saturated_formed (bits l) (least l) (greatest l) Plus refl h
lanes_formed (lanes.Psubs l) k h = signed_saturated_formed (bits l) (least l) (greatest l) Minus refl h
lanes_formed (lanes.Paddus l) k h = unsigned_saturated_formed (bits l) (least l) (greatest l) Plus refl h
lanes_formed (lanes.Psubus l) k h = unsigned_saturated_formed (bits l) (least l) (greatest l) Minus refl h
lanes_formed lanes.Pand k h = two_lanes 64 (omega arith) (omega arith) And
lanes_formed lanes.Pandn k h = record { formed = (refl, refl, (refl, tt), tt); width = refl }
lanes_formed lanes.Por k h = two_lanes 64 (omega arith) (omega arith) Or
lanes_formed lanes.Pxor k h = two_lanes 64 (omega arith) (omega arith) Xor
lanes_formed (lanes.Pcmpeq l) k h = equal_formed (bits l) (least l) (greatest l) Equal refl 0 1
lanes_formed (lanes.Pcmpgt l) k h = equal_formed (bits l) (least l) (greatest l) SignedBelow refl 1 0
lanes_formed (lanes.Pmull l) k h = two_lanes (bits l) (least l) (greatest l) Times
lanes_formed lanes.Pmulhw k h =
    high_product_formed _ _ (extended_formed (λ j. 16) 16 32 (Leaf 0) (leaf_formed (λ j. 16) 0) (omega arith) (omega arith))
    (extended_formed (λ j. 16) 16 32 (Leaf 1) (leaf_formed (λ j. 16) 1) (omega arith) (omega arith))
lanes_formed lanes.Pmulhuw k h =
    high_product_formed _ _ (zero_extended_formed (λ j. 16) 16 32 (Leaf 0) (leaf_formed (λ j. 16) 0) (omega arith) (omega arith))
    (zero_extended_formed (λ j. 16) 16 32 (Leaf 1) (leaf_formed (λ j. 16) 1) (omega arith) (omega arith))
lanes_formed lanes.Pmuludq k h = two_formed (λ j. 64) Times 64 (low_half (Leaf 0)) (low_half (Leaf 1)) (low_half_formed 0) (low_half_formed 1)
lanes_formed (lanes.Psll l) k h = shifted_left_formed (bits l) (least l) (greatest l) k
lanes_formed (lanes.Psrl l) k h = shifted_right_formed (bits l) (least l) (greatest l) k
lanes_formed (lanes.Psra l) k h = shifted_by_sign_formed (bits l) (least l) (greatest l) k
lanes_formed (lanes.Pmins l) k h = chosen_formed (bits l) (least l) (greatest l) _ (two_lanes (bits l) (least l) (greatest l) SignedBelow) 0 1
lanes_formed (lanes.Pmaxs l) k h = chosen_formed (bits l) (least l) (greatest l) _ (two_lanes (bits l) (least l) (greatest l) SignedBelow) 1 0
lanes_formed (lanes.Pminu l) k h = chosen_formed (bits l) (least l) (greatest l) _ (two_lanes (bits l) (least l) (greatest l) Below) 0 1
lanes_formed (lanes.Pmaxu l) k h = chosen_formed (bits l) (least l) (greatest l) _ (two_lanes (bits l) (least l) (greatest l) Below) 1 0
lanes_formed (lanes.Pavg l) k h = average_formed (bits l) (least l) (greatest l) h
lanes_formed (lanes.Pabs l) k h = magnitude_formed (bits l) (least l) (greatest l)

-- lanes are widened to more bits
wider : (l m : LaneWidth) → Widens l m → bits l < bits m
wider Byte Word h = omega arith
wider Byte Doubleword h = omega arith
wider Word Doubleword h = omega arith
wider Doubleword Quadword h = omega arith
wider _ _ h = absurd h

-- the rows that move lanes
moves_formed : (op : MoveOp) → HasMoveWidths op → IsFormedAt (λ j. move_source_bits op) (move_op_bits op) (move_expr op)
moves_formed (moves.Packss l) h =
    signed_saturation_formed (λ j. bits l) (bits l) (bits l / 2) (omega (arith, h.0)) (omega (arith, h.0)) (greatest l) (Leaf 0) (leaf_formed (λ j. bits l) 0)
moves_formed moves.Packuswb h =
    unsigned_saturation_formed (λ j. 16) 16 8 (omega arith) (omega arith) (omega arith) (Leaf 0) (leaf_formed (λ j. 16) 0)
moves_formed (moves.Pmovzx l m) h =
    zero_extended_formed (λ j. bits l) (bits l) (bits m) (Leaf 0) (leaf_formed (λ j. bits l) 0) (wider l m h) (greatest m)
moves_formed (moves.Pmovsx l m) h =
    extended_formed (λ j. bits l) (bits l) (bits m) (Leaf 0) (leaf_formed (λ j. bits l) 0) (wider l m h) (greatest m)
moves_formed _ h = record { formed = tt; width = refl }

-- bytes
abbrev B : ℕ → ℕ
B j = 8

product_formed : (i j : ℕ) → IsFormedAt (λ n. 16) 32 (signed_product i j)
product_formed i j =
    two_formed (λ n. 16) Times 32 (Extended 16 32 (Leaf i)) (Extended 16 32 (Leaf j))
    (extended_formed (λ n. 16) 16 32 (Leaf i) (leaf_formed (λ n. 16) i) (omega arith) (omega arith))
    (extended_formed (λ n. 16) 16 32 (Leaf j) (leaf_formed (λ n. 16) j) (omega arith) (omega arith))

byte_distance_formed : (k : ℕ) → IsFormedAt B 64 (byte_distance k)
byte_distance_formed k =
    let either = choice_formed B 8 (Two Below 8 (Leaf k) (Leaf (8 + k))) (Two Minus 8 (Leaf (8 + k)) (Leaf k)) (Two Minus 8 (Leaf k) (Leaf (8 + k)))
    (two_formed B Below 8 (Leaf k) (Leaf (8 + k)) (leaf_formed B k) (leaf_formed B (8 + k)))
    (two_formed B Minus 8 (Leaf (8 + k)) (Leaf k) (leaf_formed B (8 + k)) (leaf_formed B k))
    (two_formed B Minus 8 (Leaf k) (Leaf (8 + k)) (leaf_formed B k) (leaf_formed B (8 + k))) in
    let_formed B 16 8 64 _ (zero_extended 8 64 (Leaf 16)) either
    (zero_extended_formed (with_leaf B 16 8) 8 64 (Leaf 16) (leaf_formed (with_leaf B 16 8) 16) (omega arith) (omega arith))

distances_formed : (k : ℕ) → IsFormedAt B 64 (distances k)
distances_formed zero = byte_distance_formed 0
distances_formed (suc k) = two_formed B Plus 64 (distances k) (byte_distance (suc k)) (distances_formed k) (byte_distance_formed (suc k))

distance_sum_formed : IsFormedAt B 64 distance_sum
unfolding distance_sum
distance_sum_formed = distances_formed 7

-- a leaf of this width, where it is known to have it
leaf_of : (L : ℕ → ℕ) (i n : ℕ) → L i ≡ n → IsFormedAt L n (Leaf i)
leaf_of L i n e = record { formed = tt; width = e }

still_bytes : (L : ℕ → ℕ) → ((j : ℕ) → L j ≡ 8) → (i j : ℕ) → with_leaf L i 8 j ≡ 8
still_bytes L h i j = elim (cases_Bool (j == i)) [ inl t ↦ rw t refl | inr f ↦ rw f (h j) ]

picked_formed : (L : ℕ → ℕ) → ((j : ℕ) → L j ≡ 8) → (left n s : ℕ) → n + left ≤ 16 → IsFormedAt L 8 (picked left n s)
picked_formed L h zero n s few = leaf_of L s 8 (h s)
picked_formed L h (suc left) n s few =
    let low = cut_formed L 8 0 4 (Leaf 0) (leaf_of L 0 8 (h 0)) (omega arith) (omega arith) in
    let below : n < 16 = omega arith in
    let number = number_formed L 4 n (omega arith) (omega arith) below in
    let_formed L (16 + n) 8 8 _ (picked left (n + 1) (16 + n))
    (choice_formed L 8 (Two Equal 4 (Cut (Leaf 0) 0 4) (Number 4 n)) (Leaf (1 + n)) (Leaf s)
    (two_formed L Equal 4 (Cut (Leaf 0) 0 4) (Number 4 n) low number) (leaf_of L (1 + n) 8 (h (1 + n))) (leaf_of L s 8 (h s)))
    (picked_formed (with_leaf L (16 + n) 8) (still_bytes L h (16 + n)) left (n + 1) (16 + n) (omega arith))

shuffled_formed : IsFormedAt B 8 shuffled
unfolding shuffled
shuffled_formed =
    choice_formed B 8 (Cut (Leaf 0) 7 1) (Number 8 0) (picked 15 1 1)
    (cut_formed B 8 7 1 (Leaf 0) (leaf_formed B 0) (omega arith) (omega arith)) (number_formed B 8 0 (omega arith) (omega arith) (omega arith))
    (picked_formed B (λ j. refl) 15 1 1 (omega arith))

-- what is formed where the highest bits of all bytes are named
tops_named_formed : (left n : ℕ) (L : ℕ → ℕ) (x : Expr) (r : ℕ) → n + left ≤ 32 → ((j : ℕ) → j < 32 → L j ≡ 8)
    → ((j : ℕ) → j < n → L (32 + j) ≡ 1)
    → ((M : ℕ → ℕ) → ((j : ℕ) → j < n + left → M (32 + j) ≡ 1) → IsFormedAt M r x) → IsFormedAt L r (with_tops left n x)
tops_named_formed zero n L x r few bytes tops rest = rest L (λ j h. tops j (omega arith))
tops_named_formed (suc left) n L x r few bytes tops rest =
    let M : ℕ → ℕ = with_leaf L (32 + n) 1 in
    let top = cut_formed L 8 7 1 (Leaf n) (leaf_of L n 8 (bytes n (omega arith))) (omega arith) (omega arith) in
    let next : (j : ℕ) → j < n + 1 → M (32 + j) ≡ 1 = λ j h. elim (cases_lt j n) [
      | inl l ↦ with_leaf_other L (32 + n) 1 (32 + j) (λ e. omega arith) ∙ tops j l
      | inr m ↦
          let same : j ≡ n = omega arith in
          subst (λ (k : ℕ). M (32 + k) ≡ 1) (sym same) (with_leaf_same L (32 + n) 1)
    ] in
    let_formed L (32 + n) 1 r (Cut (Leaf n) 7 1) (with_tops left (n + 1) x) top
    (tops_named_formed left (n + 1) (with_leaf L (32 + n) 1) x r (omega arith)
    (λ j h. with_leaf_other L (32 + n) 1 j (λ e. omega arith) ∙ bytes j h) next
    (λ N h. rest N (λ j k. h j (omega arith))))

tops_joined_formed : (M : ℕ → ℕ) (k : ℕ) → k < 32 → ((j : ℕ) → j < k + 1 → M (32 + j) ≡ 1) → IsFormedAt M (k + 1) (tops_joined k)
tops_joined_formed M zero few named = leaf_of M 32 1 (named 0 (omega arith))
tops_joined_formed M (suc k) few named =
    let lower : IsFormedAt M (k + 1) (tops_joined k) = tops_joined_formed M k (omega arith) (λ j h. named j (omega arith)) in
    let whole : 1 + (k + 1) ≡ suc k + 1 = omega arith in
    let all = joined_formed M 1 (k + 1) (Leaf (32 + (k + 1))) (tops_joined k) (leaf_of M (32 + (k + 1)) 1 (named (k + 1) (omega arith))) lower (omega arith) in
    subst (λ (n : ℕ). IsFormedAt M n (Joined (k + 1) (Leaf (32 + (k + 1))) (tops_joined k))) whole all

mask_256_formed : IsFormedAt B 32 (byte_mask 256)
unfolding byte_mask
mask_256_formed =
    tops_named_formed 32 0 B (tops_joined 31) 32 (omega arith) (λ j h. refl) (λ j h. absurd (omega arith))
    (λ M h. tops_joined_formed M 31 (omega arith) (λ j k. h j (omega arith)))

mask_128_formed : IsFormedAt B 32 (byte_mask 128)
unfolding byte_mask
mask_128_formed =
    tops_named_formed 16 0 B (Let 64 (tops_joined 15) (zero_extended 16 32 (Leaf 64))) 32 (omega arith) (λ j h. refl) (λ j h. absurd (omega arith))
    (λ M h. let_formed M 64 16 32 (tops_joined 15) (zero_extended 16 32 (Leaf 64)) (tops_joined_formed M 15 (omega arith) (λ j k. h j (omega arith)))
    (zero_extended_formed (with_leaf M 64 16) 16 32 (Leaf 64) (leaf_formed (with_leaf M 64 16) 64) (omega arith) (omega arith)))

masks_formed : (w : ℕ) → IsVectorWidth w → IsFormedAt B 32 (byte_mask w)
masks_formed w h = elim h [
  | inl e ↦ subst (λ (n : ℕ). IsFormedAt B 32 (byte_mask n)) (sym e) mask_128_formed
  | inr e ↦ subst (λ (n : ℕ). IsFormedAt B 32 (byte_mask n)) (sym e) mask_256_formed
]

-- all rows of vectors
pub vectors_formed : (op : VectorOp) (w k : ℕ) → IsVectorRow op w → IsFormedAt (λ j. leaf_bits op) (result_bits op) (vector_expr op w k)
vectors_formed (ops.Lanewise op) w k h = lanes_formed op k h.1
vectors_formed (ops.Moving op) w k h = moves_formed op h.1.0
vectors_formed ops.Pmaddwd w k h = two_formed (λ j. 16) Plus 32 (signed_product 0 2) (signed_product 1 3) (product_formed 0 2) (product_formed 1 3)
vectors_formed ops.Psadbw w k h = distance_sum_formed
vectors_formed ops.Pshufb w k h = shuffled_formed
vectors_formed ops.Pmovmskb w k h = masks_formed w h.0
vectors_formed ops.Vzeroupper w k h = absurd h.1
