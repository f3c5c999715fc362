-- Laws of the vector rows, lane by lane.
use Rattle.std.proofs.Common.{◌≡◌, ◌≢◌, ℕ, zero, suc, ◌+◌, ◌-◌, ◌*◌, ◌/◌, ◌%◌, ◌^◌, ◌<◌, ◌≤◌, ◌==◌, Bool, true, false, refl, sym, ◌∙◌, ap, inl, inr, arith, div-one, zero-add}
use Rattle.std.specs.Prelude.{int_lt, max, min, nat_lt, if◌then◌else◌}
use Rattle.std.proofs.lemmas.Bool.{cases_lt, le-ltb, lt-ltb, ne_eqb}
use Rattle.std.proofs.lemmas.Nat.{div_below, mod_below, mul-lt, shr_split}
use Rattle.std.proofs.Math.Nat.{mod-eq_of_lt}
use Rattle.insn_ops.specs.declared.vector_op.LaneWidth.{LaneWidth}
use Rattle.insn_ops.specs.declared.vector_op.LaneWidth.TheVariants.{Byte, Word, Doubleword, Quadword}
use Rattle.insn_ops.specs.declared.vector_op.LaneOp.TheVariants as scalar_ops
use Rattle.insn_ops.specs.declared.vector_op.MoveOp.TheVariants as move_ops
use Rattle.insn_semantics.specs.Exprs.{Expr, Leaf, Left, Number, Right, Shifted, Signed, value}
use Rattle.insn_semantics.specs.Rows.{scalar_leaves}
use Rattle.insn_semantics.specs.Words.{bit, choice, sign_extension, signed_shift, top}
use Rattle.insn_semantics.specs.SignedNumbers.{signed_number}
use Rattle.insn_semantics.proofs.Comparisons.{signed_below-is}
use Rattle.insn_semantics.proofs.WordLaws.{once_around}
use Rattle.lane_semantics.specs.MoveRows.{in_turn, lanes_in_half, move_source, pair}
use Rattle.lane_semantics.specs.LaneValues.{lane_of}
use Rattle.lane_semantics.specs.Sources.{tops}
use Rattle.lane_semantics.specs.VectorRows.{byte_mask}
use Rattle.lane_semantics.specs.Widths.{bits}
use Rattle.lane_semantics.proofs.Chains.{byte_mask_128, byte_mask_256}
use Rattle.lane_semantics.specs.declared.source.Source.TheVariants.{First, Second}

-- words that are not negative compare as numbers
not_negative : (h a b : ℕ) → a < h → b < h → nat_lt ((a + h) % (h + h)) ((b + h) % (h + h)) ≡ nat_lt a b
not_negative h a b la lb =
    let left : (a + h) % (h + h) ≡ a + h = mod-eq_of_lt (omega arith) in
    let right : (b + h) % (h + h) ≡ b + h = mod-eq_of_lt (omega arith) in
    rw (left, right) (elim (cases_lt a b) [
      | inl l ↦ lt-ltb (a + h) (b + h) (omega arith) ∙ sym (lt-ltb a b l)
      | inr g ↦ le-ltb (a + h) (b + h) (omega arith) ∙ sym (le-ltb a b g)
    ])

-- a negative word is below zero
negative : (h a : ℕ) → h ≤ a → a < h + h → nat_lt ((a + h) % (h + h)) ((0 + h) % (h + h)) ≡ true
negative h a g l =
    let left : (a + h) % (h + h) ≡ a - h = once_around (h + h) (a - h) (a + h) (omega arith) (omega arith) in
    let zero_first : 0 + h ≡ h = zero-add h in
    let right : (0 + h) % (h + h) ≡ h = rw zero_first (mod-eq_of_lt (omega arith)) in
    rw (left, right) (lt-ltb (a - h) h (omega arith))

-- unsigned saturation of a number below twice the greatest: the number, or the greatest
clamped : (p s : ℕ) → 0 < p → s < p + p
    → choice (bit (nat_lt ((s + (p + p)) % (p + p + (p + p))) ((0 + (p + p)) % (p + p + (p + p))))) 0
    (choice (bit (nat_lt ((p - 1 + (p + p)) % (p + p + (p + p))) ((s + (p + p)) % (p + p + (p + p))))) (p - 1) (s / 1 % p)) ≡ min s (p - 1)
clamped p s some low =
    let zero_first : nat_lt ((s + (p + p)) % (p + p + (p + p))) ((0 + (p + p)) % (p + p + (p + p))) ≡ false =
    not_negative (p + p) s 0 low (omega arith) ∙ le-ltb s 0 (omega arith) in
    let greatest : nat_lt ((p - 1 + (p + p)) % (p + p + (p + p))) ((s + (p + p)) % (p + p + (p + p))) ≡ nat_lt (p - 1) s =
    not_negative (p + p) (p - 1) s (omega arith) low in
    rw (zero_first, greatest) (elim (cases_lt (p - 1) s) [
      | inl l ↦ rw (lt-ltb (p - 1) s l) (omega arith)
      | inr g ↦
          let word : s % p ≡ s = mod-eq_of_lt (omega arith) in
          rw (le-ltb (p - 1) s g, div-one, word) (omega arith)
    ])

-- and of a negative word: zero
floored : (p s x : ℕ) → p + p ≤ s → s < p + p + (p + p) → choice (bit (nat_lt ((s + (p + p)) % (p + p + (p + p))) ((0 + (p + p)) % (p + p + (p + p))))) 0 x ≡ 0
floored p s x low high = rw (negative (p + p) s low high) refl

pub paddus_is : (l : LaneWidth) (k a b : ℕ) → bits l ≤ 16 → a < 2 ^ bits l → b < 2 ^ bits l → lane_of (scalar_ops.Paddus l) k a b ≡ min (a + b) (2 ^ bits l - 1)
paddus_is Byte k a b row la lb =
    let sum : (0 * 2 ^ 8 + a + (0 * 2 ^ 8 + b)) % 2 ^ 10 ≡ a + b = omega arith in
    rw sum (clamped 256 (a + b) (omega arith) (omega arith))
paddus_is Word k a b row la lb =
    let sum : (0 * 2 ^ 16 + a + (0 * 2 ^ 16 + b)) % 2 ^ 18 ≡ a + b = omega arith in
    rw sum (clamped 65536 (a + b) (omega arith) (omega arith))
paddus_is Doubleword k a b row la lb = absurd (omega arith)
paddus_is Quadword k a b row la lb = absurd (omega arith)

pub psubus_is : (l : LaneWidth) (k a b : ℕ) → bits l ≤ 16 → a < 2 ^ bits l → b < 2 ^ bits l → lane_of (scalar_ops.Psubus l) k a b ≡ a - b
psubus_is Byte k a b row la lb = elim (cases_lt a b) [
  | inl l ↦
      let some : 2 ^ 9 ≤ (0 * 2 ^ 8 + a + (2 ^ 10 - (0 * 2 ^ 8 + b))) % 2 ^ 10 = omega arith in
      let none : a - b ≡ 0 = omega arith in
      rw none (floored 256 _ _ some (mod_below _ 1024 (omega arith)))
  | inr g ↦
      let difference : (0 * 2 ^ 8 + a + (2 ^ 10 - (0 * 2 ^ 8 + b))) % 2 ^ 10 ≡ a - b = omega arith in
      let small : min (a - b) 255 ≡ a - b = omega arith in
      rw difference (clamped 256 (a - b) (omega arith) (omega arith) ∙ small)
]
psubus_is Word k a b row la lb = elim (cases_lt a b) [
  | inl l ↦
      let some : 2 ^ 17 ≤ (0 * 2 ^ 16 + a + (2 ^ 18 - (0 * 2 ^ 16 + b))) % 2 ^ 18 = omega arith in
      let none : a - b ≡ 0 = omega arith in
      rw none (floored 65536 _ _ some (mod_below _ 262144 (omega arith)))
  | inr g ↦
      let difference : (0 * 2 ^ 16 + a + (2 ^ 18 - (0 * 2 ^ 16 + b))) % 2 ^ 18 ≡ a - b = omega arith in
      let small : min (a - b) 65535 ≡ a - b = omega arith in
      rw difference (clamped 65536 (a - b) (omega arith) (omega arith) ∙ small)
]
psubus_is Doubleword k a b row la lb = absurd (omega arith)
psubus_is Quadword k a b row la lb = absurd (omega arith)

-- copies of a bit
spread_is : (l : LaneWidth) (t : Bool) → sign_extension 1 (bits l) (bit t) ≡ (if t then 2 ^ bits l - 1 else 0)
spread_is Byte true = refl
spread_is Byte false = refl
spread_is Word true = refl
spread_is Word false = refl
spread_is Doubleword true = refl
spread_is Doubleword false = refl
spread_is Quadword true = refl
spread_is Quadword false = refl

pub pcmpeq_is : (l : LaneWidth) (k a b : ℕ) → lane_of (scalar_ops.Pcmpeq l) k a b ≡ (if a == b then 2 ^ bits l - 1 else 0)
pcmpeq_is l k a b = spread_is l (a == b)

pub pminu_is : (l : LaneWidth) (k a b : ℕ) → lane_of (scalar_ops.Pminu l) k a b ≡ min a b
pminu_is l k a b = elim (cases_lt a b) [
  | inl h ↦ rw (lt-ltb a b h) (omega arith)
  | inr h ↦ rw (le-ltb a b h) (omega arith)
]

pub pmaxu_is : (l : LaneWidth) (k a b : ℕ) → lane_of (scalar_ops.Pmaxu l) k a b ≡ max a b
pmaxu_is l k a b = elim (cases_lt a b) [
  | inl h ↦ rw (lt-ltb a b h) (omega arith)
  | inr h ↦ rw (le-ltb a b h) (omega arith)
]

choice_of : (t : Bool) (a b : ℕ) → choice (bit t) a b ≡ (if t then a else b)
choice_of true a b = refl
choice_of false a b = refl

some_bits : (l : LaneWidth) → 0 < bits l
some_bits Byte = omega arith
some_bits Word = omega arith
some_bits Doubleword = omega arith
some_bits Quadword = omega arith

pub pmins_is : (l : LaneWidth) (k a b : ℕ) → a < 2 ^ bits l → b < 2 ^ bits l → lane_of (scalar_ops.Pmins l) k a b ≡ (if int_lt (signed_number (bits l) a) (signed_number (bits l) b) then a else b)
pmins_is l k a b la lb = rw (signed_below-is (bits l) a b (some_bits l) la lb) (choice_of _ a b)

pub pmaxs_is : (l : LaneWidth) (k a b : ℕ) → a < 2 ^ bits l → b < 2 ^ bits l → lane_of (scalar_ops.Pmaxs l) k a b ≡ (if int_lt (signed_number (bits l) a) (signed_number (bits l) b) then b else a)
pmaxs_is l k a b la lb = rw (signed_below-is (bits l) a b (some_bits l) la lb) (choice_of _ b a)

-- long shifts
shift_of : (w k : ℕ) (x y z : Expr) → 0 < w → w ≤ k → (if k == 0 then x else (if nat_lt k w then y else z)) ≡ z
shift_of w k x y z some long =
    let not_zero : k ≢ 0 = λ e. omega arith in
    rw (ne_eqb k 0 not_zero, le-ltb k w long) refl

pub psll_long : (l : LaneWidth) (k a b : ℕ) → bits l ≤ k → lane_of (scalar_ops.Psll l) k a b ≡ 0
psll_long l k a b long = ap (value (scalar_leaves a b)) (shift_of (bits l) k (Leaf 1) (Shifted Left (bits l) (Leaf 1) k) (Number (bits l) 0) (some_bits l) long)

pub psrl_long : (l : LaneWidth) (k a b : ℕ) → bits l ≤ k → lane_of (scalar_ops.Psrl l) k a b ≡ 0
psrl_long l k a b long = ap (value (scalar_leaves a b)) (shift_of (bits l) k (Leaf 1) (Shifted Right (bits l) (Leaf 1) k) (Number (bits l) 0) (some_bits l) long)

only_sign : (l : LaneWidth) (b : ℕ) → b < 2 ^ bits l → signed_shift (bits l) b (bits l - 1) ≡ sign_extension 1 (bits l) (top (bits l) b)
only_sign Byte b word = let one : b / 2 ^ 7 % 2 ≡ b / 2 ^ 7 = omega arith in rw one refl
only_sign Word b word = let one : b / 2 ^ 15 % 2 ≡ b / 2 ^ 15 = omega arith in rw one refl
only_sign Doubleword b word = let one : b / 2 ^ 31 % 2 ≡ b / 2 ^ 31 = omega arith in rw one refl
only_sign Quadword b word = let one : b / 2 ^ 63 % 2 ≡ b / 2 ^ 63 = omega arith in rw one refl

by_sign_of : (w k : ℕ) (x : Expr) (y : ℕ → Expr) → 0 < w → w ≤ k → (if k == 0 then x else y (min k (w - 1))) ≡ y (w - 1)
by_sign_of w k x y some long =
    let not_zero : k ≢ 0 = λ e. omega arith in
    let least : min k (w - 1) ≡ w - 1 = omega arith in
    rw (ne_eqb k 0 not_zero, least) refl

pub psra_long : (l : LaneWidth) (k a b : ℕ) → bits l ≤ k → b < 2 ^ bits l → lane_of (scalar_ops.Psra l) k a b ≡ sign_extension 1 (bits l) (top (bits l) b)
psra_long l k a b long word =
    ap (value (scalar_leaves a b)) (by_sign_of (bits l) k (Leaf 1) (λ n. Shifted Signed (bits l) (Leaf 1) n) (some_bits l) long) ∙ only_sign l b word

-- both halves of a product
pub product_halves : (k a b : ℕ) → a < 2 ^ 16 → b < 2 ^ 16 → lane_of scalar_ops.Pmulhuw k a b * 2 ^ 16 + lane_of (scalar_ops.Pmull Word) k a b ≡ a * b
product_halves k a b la lb =
    let left : 0 * 2 ^ 16 + a ≡ a = omega arith in
    let right : 0 * 2 ^ 16 + b ≡ b = omega arith in
    let fits : a * b < 2 ^ 16 * 2 ^ 16 = mul-lt a b (2 ^ 16) (2 ^ 16) la lb in
    let whole : a * b % 2 ^ 32 ≡ a * b = mod-eq_of_lt (omega arith) in
    let high : a * b / 2 ^ 16 % 2 ^ 16 ≡ a * b / 2 ^ 16 = mod-eq_of_lt (div_below (a * b) (2 ^ 16) (2 ^ 16) (omega arith) fits) in
    rw (left, right, whole, high) (shr_split (a * b) 16)

pub pavg_is : (l : LaneWidth) (k a b : ℕ) → bits l ≤ 16 → a < 2 ^ bits l → b < 2 ^ bits l → lane_of (scalar_ops.Pavg l) k a b ≡ (a + b + 1) / 2
pavg_is Byte k a b row la lb = omega arith
pavg_is Word k a b row la lb = omega arith
pavg_is Doubleword k a b row la lb = absurd (omega arith)
pavg_is Quadword k a b row la lb = absurd (omega arith)

-- the control 0xe4
pair_in_order : (r : ℕ) → r < 4 → pair 0xe4 r ≡ r
pair_in_order zero h = refl
pair_in_order (suc zero) h = refl
pair_in_order (suc (suc zero)) h = refl
pair_in_order (suc (suc (suc zero))) h = refl
pair_in_order (suc (suc (suc (suc r)))) h = absurd (omega arith)

pub pshufd_in_order : (i : ℕ) → move_source move_ops.Pshufd 0xe4 i ≡ Second 32 i
pshufd_in_order i =
    let same : pair 0xe4 (i % 4) ≡ i % 4 = pair_in_order (i % 4) (mod_below i 4 (omega arith)) in
    ap (Second 32) (rw same (omega arith))

-- lanes in turn
turn_first : (w i x y : ℕ) → i % 2 ≡ 0 → x ≡ y → in_turn w i x ≡ First w y
turn_first w i x y even e = rw (even, e) refl

turn_second : (w i x y : ℕ) → i % 2 ≡ 1 → x ≡ y → in_turn w i x ≡ Second w y
turn_second w i x y odd e = rw (odd, e) refl

abbrev low_number : ℕ → ℕ → ℕ → ℕ
low_number n from i = n * (i / n) + (from + i % n / 2)

pub low_first : (l : LaneWidth) (k h j : ℕ) → j < lanes_in_half (bits l) / 2 → move_source (move_ops.Punpckl l) k (lanes_in_half (bits l) * h + 2 * j) ≡ First (bits l) (lanes_in_half (bits l) * h + j)
low_first Byte k h j low = turn_first 8 (16 * h + 2 * j) (low_number 16 0 (16 * h + 2 * j)) (16 * h + j) (omega arith) (omega arith)
low_first Word k h j low = turn_first 16 (8 * h + 2 * j) (low_number 8 0 (8 * h + 2 * j)) (8 * h + j) (omega arith) (omega arith)
low_first Doubleword k h j low = turn_first 32 (4 * h + 2 * j) (low_number 4 0 (4 * h + 2 * j)) (4 * h + j) (omega arith) (omega arith)
low_first Quadword k h j low = turn_first 64 (2 * h + 2 * j) (low_number 2 0 (2 * h + 2 * j)) (2 * h + j) (omega arith) (omega arith)

pub low_second : (l : LaneWidth) (k h j : ℕ) → j < lanes_in_half (bits l) / 2 → move_source (move_ops.Punpckl l) k (lanes_in_half (bits l) * h + (2 * j + 1)) ≡ Second (bits l) (lanes_in_half (bits l) * h + j)
low_second Byte k h j low = turn_second 8 (16 * h + (2 * j + 1)) (low_number 16 0 (16 * h + (2 * j + 1))) (16 * h + j) (omega arith) (omega arith)
low_second Word k h j low = turn_second 16 (8 * h + (2 * j + 1)) (low_number 8 0 (8 * h + (2 * j + 1))) (8 * h + j) (omega arith) (omega arith)
low_second Doubleword k h j low = turn_second 32 (4 * h + (2 * j + 1)) (low_number 4 0 (4 * h + (2 * j + 1))) (4 * h + j) (omega arith) (omega arith)
low_second Quadword k h j low = turn_second 64 (2 * h + (2 * j + 1)) (low_number 2 0 (2 * h + (2 * j + 1))) (2 * h + j) (omega arith) (omega arith)

pub high_first : (l : LaneWidth) (k h j : ℕ) → j < lanes_in_half (bits l) / 2 → move_source (move_ops.Punpckh l) k (lanes_in_half (bits l) * h + 2 * j) ≡ First (bits l) (lanes_in_half (bits l) * h + (lanes_in_half (bits l) / 2 + j))
high_first Byte k h j low = turn_first 8 (16 * h + 2 * j) (low_number 16 8 (16 * h + 2 * j)) (16 * h + (8 + j)) (omega arith) (omega arith)
high_first Word k h j low = turn_first 16 (8 * h + 2 * j) (low_number 8 4 (8 * h + 2 * j)) (8 * h + (4 + j)) (omega arith) (omega arith)
high_first Doubleword k h j low = turn_first 32 (4 * h + 2 * j) (low_number 4 2 (4 * h + 2 * j)) (4 * h + (2 + j)) (omega arith) (omega arith)
high_first Quadword k h j low = turn_first 64 (2 * h + 2 * j) (low_number 2 1 (2 * h + 2 * j)) (2 * h + (1 + j)) (omega arith) (omega arith)

pub high_second : (l : LaneWidth) (k h j : ℕ) → j < lanes_in_half (bits l) / 2 → move_source (move_ops.Punpckh l) k (lanes_in_half (bits l) * h + (2 * j + 1)) ≡ Second (bits l) (lanes_in_half (bits l) * h + (lanes_in_half (bits l) / 2 + j))
high_second Byte k h j low = turn_second 8 (16 * h + (2 * j + 1)) (low_number 16 8 (16 * h + (2 * j + 1))) (16 * h + (8 + j)) (omega arith) (omega arith)
high_second Word k h j low = turn_second 16 (8 * h + (2 * j + 1)) (low_number 8 4 (8 * h + (2 * j + 1))) (8 * h + (4 + j)) (omega arith) (omega arith)
high_second Doubleword k h j low = turn_second 32 (4 * h + (2 * j + 1)) (low_number 4 2 (4 * h + (2 * j + 1))) (4 * h + (2 + j)) (omega arith) (omega arith)
high_second Quadword k h j low = turn_second 64 (2 * h + (2 * j + 1)) (low_number 2 1 (2 * h + (2 * j + 1))) (2 * h + (1 + j)) (omega arith) (omega arith)

pub mask_256 : (L : ℕ → ℕ) → value L (byte_mask 256) ≡ tops L 32
mask_256 L = byte_mask_256 L L (λ j h. refl)

pub mask_128 : (L : ℕ → ℕ) → value L (byte_mask 128) ≡ tops L 16
mask_128 L = byte_mask_128 L L (λ j h. refl)
