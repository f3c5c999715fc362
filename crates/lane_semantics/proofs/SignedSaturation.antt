-- Signed saturation gives the nearest signed number.
use Rattle.std.proofs.Common.{◌≡◌, ℕ, ◌+◌, ◌-◌, ◌*◌, ◌/◌, ◌%◌, ◌^◌, ◌<◌, ◌≤◌, true, false, refl, sym, ◌∙◌, inl, inr, arith, div-one}
use Rattle.std.specs.Prelude.{ℤ, pos, ◌+ℤ◌, ◌-ℤ◌, int_lt, nat_lt, if◌then◌else◌}
use Rattle.std.proofs.lemmas.Bool.{cases_lt, le-ltb, lt-ltb}
use Rattle.std.proofs.lemmas.Int.{ints}
use Rattle.std.proofs.lemmas.Nat.{mod_below}
use Rattle.std.proofs.Math.Nat.{mod-eq_of_lt}
use Rattle.insn_ops.specs.declared.vector_op.LaneWidth.{LaneWidth}
use Rattle.insn_ops.specs.declared.vector_op.LaneWidth.TheVariants.{Byte, Word, Doubleword, Quadword}
use Rattle.insn_ops.specs.declared.vector_op.LaneOp.TheVariants as scalar_ops
use Rattle.insn_semantics.specs.SignedNumbers.{signed_number}
use Rattle.insn_semantics.specs.Words.{bit, choice}
use Rattle.insn_semantics.proofs.SignedSums.{Half, High, Low, half_of, signed}
use Rattle.insn_semantics.proofs.WordLaws.{once_around}
use Rattle.lane_semantics.specs.LaneValues.{lane_of, nearest_signed}
use Rattle.lane_semantics.specs.Widths.{bits}

-- a word of twice the half p with its highest bit turned
turned_low : (p s : ℕ) → s < p → (s + p) % (p + p) ≡ s + p
turned_low p s l = mod-eq_of_lt (omega arith)

turned_high : (p s : ℕ) → p ≤ s → s < p + p → (s + p) % (p + p) ≡ s - p
turned_high p s g l = once_around (p + p) (s - p) (s + p) (omega arith) (omega arith)

-- the nearest to z of the signed numbers from -h on, below h
abbrev nearest : ℕ → ℤ → ℤ
nearest h z = if int_lt z (pos 0 -ℤ pos h) then pos 0 -ℤ pos h else (if int_lt z (pos h) then z else pos h -ℤ pos 1)

-- the word that signed saturation gives of s
abbrev saturated : ℕ → ℕ → ℕ → ℕ
saturated h p s =
    choice (bit (nat_lt ((h - 1 + p) % (p + p)) ((s + p) % (p + p)))) (h - 1)
    (choice (bit (nat_lt ((s + p) % (p + p)) ((p + p - h + p) % (p + p)))) h (s / 1 % p))

greatest_turned : (h p : ℕ) → 0 < h → p ≡ h + h → (h - 1 + p) % (p + p) ≡ h - 1 + p
greatest_turned h p some e = turned_low p (h - 1) (omega arith)

least_turned : (h p : ℕ) → 0 < h → p ≡ h + h → (p + p - h + p) % (p + p) ≡ h
least_turned h p some e = turned_high p (p + p - h) (omega arith) (omega arith) ∙ omega arith

-- s is the word of a signed number z of twice as many words
pub saturated_is : (h p s : ℕ) (z : ℤ) → 0 < h → p ≡ h + h → s < p + p → z ≡ signed p s → signed h (saturated h p s) ≡ nearest h z
saturated_is h p s z some e word is = elim (cases_lt s p) [
  | inl low ↦
      let z_is : z ≡ pos s = is ∙ rw (lt-ltb s p low) refl in
      let not_below : nat_lt (s + p) h ≡ false = le-ltb (s + p) h (omega arith) in
      elim (cases_lt s h) [
        | inl inside ↦
            let not_above : nat_lt (h - 1 + p) (s + p) ≡ false = le-ltb (h - 1 + p) (s + p) (omega arith) in
            let kept : s / 1 % p ≡ s = rw div-one (mod-eq_of_lt low) in
            rw (greatest_turned h p some e, least_turned h p some e, turned_low p s low, not_above, not_below, kept, lt-ltb s h inside, z_is) (grind (arith, ints))
        | inr above ↦
            let is_above : nat_lt (h - 1 + p) (s + p) ≡ true = lt-ltb (h - 1 + p) (s + p) (omega arith) in
            rw (greatest_turned h p some e, turned_low p s low, is_above, lt-ltb (h - 1) h (omega arith), z_is) (grind (arith, ints))
      ]
  | inr high ↦
      let z_is : z ≡ pos s -ℤ pos (p + p) = is ∙ rw (le-ltb s p high) refl in
      let not_above : nat_lt (h - 1 + p) (s - p) ≡ false = le-ltb (h - 1 + p) (s - p) (omega arith) in
      elim (cases_lt (s - p) h) [
        | inl below ↦
            let is_below : nat_lt (s - p) h ≡ true = lt-ltb (s - p) h below in
            rw (greatest_turned h p some e, least_turned h p some e, turned_high p s high word, not_above, is_below, le-ltb h h (omega arith), z_is) (grind (arith, ints))
        | inr inside ↦
            let not_below : nat_lt (s - p) h ≡ false = le-ltb (s - p) h inside in
            let kept : s / 1 % p ≡ s - p = rw div-one (once_around p (s - p) s (omega arith) (omega arith)) in
            rw (greatest_turned h p some e, least_turned h p some e, turned_high p s high word, not_above, not_below, kept, le-ltb (s - p) h inside, z_is) (grind (arith, ints))
      ]
]

-- x below p = h + h with its signed number s, extended by the sign to u below p + p
data Wide (h p x u : ℕ) (s : ℤ) : Type 0 where
  NotNegative : x < h → u ≡ x → s ≡ pos x → Wide h p x u s
  Negative : h ≤ x → u ≡ x + p → s +ℤ pos p ≡ pos x → Wide h p x u s

-- a number below p + p is its own remainder
once : (p m n : ℕ) → m ≡ n → n < p + p → m % (p + p) ≡ n
once p m n e l = rw e (mod-eq_of_lt l)

-- a signed number from its word, where that is in the lower or in the upper half
signed_low : (p s n : ℕ) (z : ℤ) → s ≡ n → n < p → z ≡ pos n → signed p s ≡ z
signed_low p s n z e low is = rw (e, lt-ltb n p low) (sym is)

signed_high : (p s n : ℕ) (z : ℤ) → s ≡ n → p ≤ n → z ≡ pos n -ℤ pos (p + p) → signed p s ≡ z
signed_high p s n z e high is = rw (e, le-ltb n p high) (sym is)

-- a sum of words that were extended by their sign, to twice as many words, is the signed sum
sum_of : (h p x y u v : ℕ) (sx sy : ℤ) → p ≡ h + h → x < p → y < p → Wide h p x u sx → Wide h p y v sy → signed p ((u + v) % (p + p)) ≡ sx +ℤ sy
sum_of h p x y u v sx sy e lx ly (NotNegative a b c) (NotNegative d f g) =
    signed_low p ((u + v) % (p + p)) (x + y) (sx +ℤ sy) (rw (b, f) (mod-eq_of_lt (omega arith))) (omega arith) (omega (arith, ints))
sum_of h p x y u v sx sy e lx ly (NotNegative a b c) (Negative d f g) = elim (cases_lt (x + y) p) [
  | inl l ↦ signed_high p ((u + v) % (p + p)) (x + y + p) (sx +ℤ sy) (rw (b, f) (once p (x + (y + p)) (x + y + p) (omega arith) (omega arith))) (omega arith) (omega (arith, ints))
  | inr m ↦ signed_low p ((u + v) % (p + p)) (x + y - p) (sx +ℤ sy) (rw (b, f) (once_around (p + p) (x + y - p) (x + (y + p)) (omega arith) (omega arith))) (omega arith) (omega (arith, ints))
]
sum_of h p x y u v sx sy e lx ly (Negative a b c) (NotNegative d f g) = elim (cases_lt (x + y) p) [
  | inl l ↦ signed_high p ((u + v) % (p + p)) (x + y + p) (sx +ℤ sy) (rw (b, f) (once p (x + p + y) (x + y + p) (omega arith) (omega arith))) (omega arith) (omega (arith, ints))
  | inr m ↦ signed_low p ((u + v) % (p + p)) (x + y - p) (sx +ℤ sy) (rw (b, f) (once_around (p + p) (x + y - p) (x + p + y) (omega arith) (omega arith))) (omega arith) (omega (arith, ints))
]
sum_of h p x y u v sx sy e lx ly (Negative a b c) (Negative d f g) =
    signed_high p ((u + v) % (p + p)) (x + y) (sx +ℤ sy) (rw (b, f) (once_around (p + p) (x + y) (x + p + (y + p)) (omega arith) (omega arith))) (omega arith) (omega (arith, ints))

-- and a difference
difference_of : (h p x y u v : ℕ) (sx sy : ℤ) → p ≡ h + h → x < p → y < p → Wide h p x u sx → Wide h p y v sy → signed p ((u + (p + p - v)) % (p + p)) ≡ sx -ℤ sy
difference_of h p x y u v sx sy e lx ly (NotNegative a b c) (NotNegative d f g) = elim (cases_lt x y) [
  | inl l ↦ signed_high p ((u + (p + p - v)) % (p + p)) (x + (p + p - y)) (sx -ℤ sy) (rw (b, f) (mod-eq_of_lt (omega arith))) (omega arith) (omega (arith, ints))
  | inr m ↦ signed_low p ((u + (p + p - v)) % (p + p)) (x - y) (sx -ℤ sy) (rw (b, f) (once_around (p + p) (x - y) (x + (p + p - y)) (omega arith) (omega arith))) (omega arith) (omega (arith, ints))
]
difference_of h p x y u v sx sy e lx ly (NotNegative a b c) (Negative d f g) =
    signed_low p ((u + (p + p - v)) % (p + p)) (x + p - y) (sx -ℤ sy) (rw (b, f) (once p (x + (p + p - (y + p))) (x + p - y) (omega arith) (omega arith))) (omega arith) (omega (arith, ints))
difference_of h p x y u v sx sy e lx ly (Negative a b c) (NotNegative d f g) =
    signed_high p ((u + (p + p - v)) % (p + p)) (x + p - y) (sx -ℤ sy) (rw (b, f) (once_around (p + p) (x + p - y) (x + p + (p + p - y)) (omega arith) (omega arith))) (omega arith) (omega (arith, ints))
difference_of h p x y u v sx sy e lx ly (Negative a b c) (Negative d f g) = elim (cases_lt x y) [
  | inl l ↦ signed_high p ((u + (p + p - v)) % (p + p)) (x + (p + p - y)) (sx -ℤ sy) (rw (b, f) (once p (x + p + (p + p - (y + p))) (x + (p + p - y)) (omega arith) (omega arith))) (omega arith) (omega (arith, ints))
  | inr m ↦ signed_low p ((u + (p + p - v)) % (p + p)) (x - y) (sx -ℤ sy) (rw (b, f) (once_around (p + p) (x - y) (x + p + (p + p - (y + p))) (omega arith) (omega arith))) (omega arith) (omega (arith, ints))
]

wide : (h p x t : ℕ) (sx : ℤ) → p ≡ h + h → Half h x t sx → Wide h p x (t * p + x) sx
wide h p x t sx e (Low a b c) = NotNegative a (rw b (omega arith)) c
wide h p x t sx e (High a b c) = Negative a (rw b (omega arith)) (omega (arith, ints))

padds_at : (h p a b : ℕ) → 0 < h → p ≡ h + h → a < p → b < p
    → signed h (saturated h p ((a / h % 2 * p + a + (b / h % 2 * p + b)) % (p + p))) ≡ nearest h (signed h a +ℤ signed h b)
padds_at h p a b some e la lb =
    saturated_is h p _ (signed h a +ℤ signed h b) some e (mod_below _ (p + p) (omega arith))
    (sym (sum_of h p a b _ _ _ _ e la lb (wide h p a _ _ e (half_of h a (omega arith))) (wide h p b _ _ e (half_of h b (omega arith)))))

psubs_at : (h p a b : ℕ) → 0 < h → p ≡ h + h → a < p → b < p
    → signed h (saturated h p ((a / h % 2 * p + a + (p + p - (b / h % 2 * p + b))) % (p + p))) ≡ nearest h (signed h a -ℤ signed h b)
psubs_at h p a b some e la lb =
    saturated_is h p _ (signed h a -ℤ signed h b) some e (mod_below _ (p + p) (omega arith))
    (sym (difference_of h p a b _ _ _ _ e la lb (wide h p a _ _ e (half_of h a (omega arith))) (wide h p b _ _ e (half_of h b (omega arith)))))

pub padds_is : (l : LaneWidth) (k a b : ℕ) → bits l ≤ 16 → a < 2 ^ bits l → b < 2 ^ bits l
    → signed_number (bits l) (lane_of (scalar_ops.Padds l) k a b) ≡ nearest_signed (bits l) (signed_number (bits l) a +ℤ signed_number (bits l) b)
padds_is Byte k a b row la lb = padds_at 128 256 a b (omega arith) refl la lb
padds_is Word k a b row la lb = padds_at 32768 65536 a b (omega arith) refl la lb
padds_is Doubleword k a b row la lb = absurd (omega arith)
padds_is Quadword k a b row la lb = absurd (omega arith)

pub psubs_is : (l : LaneWidth) (k a b : ℕ) → bits l ≤ 16 → a < 2 ^ bits l → b < 2 ^ bits l
    → signed_number (bits l) (lane_of (scalar_ops.Psubs l) k a b) ≡ nearest_signed (bits l) (signed_number (bits l) a -ℤ signed_number (bits l) b)
psubs_is Byte k a b row la lb = psubs_at 128 256 a b (omega arith) refl la lb
psubs_is Word k a b row la lb = psubs_at 32768 65536 a b (omega arith) refl la lb
psubs_is Doubleword k a b row la lb = absurd (omega arith)
psubs_is Quadword k a b row la lb = absurd (omega arith)
