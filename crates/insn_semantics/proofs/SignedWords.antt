-- What sign extensions and shifts to the right do to signed numbers.
use Rattle.std.proofs.Common.{◌≡◌, ℕ, ◌+◌, ◌-◌, ◌*◌, ◌/◌, ◌%◌, ◌^◌, ◌<◌, ◌≤◌, refl, sym, ◌∙◌, ap, inl, inr, arith}
use Rattle.std.specs.Prelude.{ℤ, pos, negsuc, ◌-ℤ◌, int_lt}
use Rattle.std.specs.Int.{int_shr}
use Rattle.std.proofs.lemmas.Bool.{cases_lt, lt-ltb, le-ltb}
use Rattle.std.proofs.lemmas.Int.{ints}
use Rattle.std.proofs.lemmas.Nat.{pow-add, pow_pos, shr_below, mod_below, le-div}
use Rattle.std.proofs.Math.Nat.{div-add-mod, div-div-eq-div-mul, div-eq_of_lt, div-eq_of_lt-le}
use Rattle.insn_semantics.specs.SignedNumbers.{signed_number}
use Rattle.insn_semantics.specs.Words.{bit, sign_extension, signed_shift, top}
use Rattle.insn_semantics.proofs.Comparisons.{halves}
use Rattle.insn_semantics.proofs.WordLaws.{power_grows, sign_extension_below}

top_of_low : (m a : ℕ) → a < 2 ^ (m - 1) → top m a ≡ 0
top_of_low m a low = rw (div-eq_of_lt low) refl

top_of_high : (m a : ℕ) → 0 < m → 2 ^ (m - 1) ≤ a → a < 2 ^ m → top m a ≡ 1
top_of_high m a some high word =
    let half : 2 ^ (m - 1) + 2 ^ (m - 1) ≡ 2 ^ m = halves m some in
    let one : a / 2 ^ (m - 1) ≡ 1 = div-eq_of_lt-le (2 ^ (m - 1)) (omega arith) (omega arith) in
    rw one refl

-- a word extended by its sign is the same signed number
pub signed_number-sign_extension : (m n a : ℕ) → 0 < m → m ≤ n → a < 2 ^ m → signed_number n (sign_extension m n a) ≡ signed_number m a
signed_number-sign_extension m n a some order word =
    let small : 2 ^ (m - 1) + 2 ^ (m - 1) ≡ 2 ^ m = halves m some in
    let large : 2 ^ (n - 1) + 2 ^ (n - 1) ≡ 2 ^ n = halves n (omega arith) in
    let grows : 2 ^ m ≤ 2 ^ n = power_grows m n order in
    elim (cases_lt a (2 ^ (m - 1))) [
      | inl low ↦
          let below : a < 2 ^ (n - 1) = omega arith in
          let same : 0 * (2 ^ n - 2 ^ m) + a ≡ a = omega arith in
          rw (top_of_low m a low, same, lt-ltb a (2 ^ (m - 1)) low, lt-ltb a (2 ^ (n - 1)) below) refl
      | inr high ↦
          let above : 2 ^ (n - 1) ≤ 1 * (2 ^ n - 2 ^ m) + a = omega arith in
          rw (top_of_high m a some high word, le-ltb a (2 ^ (m - 1)) high, le-ltb (1 * (2 ^ n - 2 ^ m) + a) (2 ^ (n - 1)) above) (omega (arith, ints))
    ]

-- what q * p has above a, divided by p
above_parts : (d e r p : ℕ) → r < p → ((d + 1 + e) * p - 1 - (p * d + r)) / p ≡ e
above_parts d e r p low = div-eq_of_lt-le p (omega arith) (omega arith)

above_divided : (a p q : ℕ) → 0 < p → a < q * p → a / p < q → (q * p - 1 - a) / p ≡ q - 1 - a / p
above_divided a p q some h below =
    let parts : p * (a / p) + a % p ≡ a = div-add-mod a p in
    let whole : a / p + 1 + (q - 1 - a / p) ≡ q = omega arith in
    rw (parts, whole) at (above_parts (a / p) (q - 1 - a / p) (a % p) p (mod_below a p some))

-- a signed number below 0, by how far it is below -1
below_zero : (a p : ℕ) → a < p → (pos a -ℤ pos p) ≡ negsuc (p - 1 - a)
below_zero a p h = omega (arith, ints)

shift_of_high : (a p k : ℕ) → a < p → int_shr (pos a -ℤ pos p) k ≡ negsuc ((p - 1 - a) / 2 ^ k)
shift_of_high a p k h = rw (below_zero a p h) refl

-- a shift to the right by the sign divides the signed number by 2^k, rounded down
pub signed_number-signed_shift : (w a k : ℕ) → k < w → a < 2 ^ w → signed_number w (signed_shift w a k) ≡ int_shr (signed_number w a) k
signed_number-signed_shift w a k some word =
    let whole : w - k + k ≡ w = omega arith in
    let half : w - k - 1 + k ≡ w - 1 = omega arith in
    let product : 2 ^ w ≡ 2 ^ (w - k) * 2 ^ k = rw whole at (pow-add 2 (w - k) k) in
    let half_product : 2 ^ (w - 1) ≡ 2 ^ (w - k - 1) * 2 ^ k = rw half at (pow-add 2 (w - k - 1) k) in
    let below : a / 2 ^ k < 2 ^ (w - k) = shr_below a (w - k) k (rw whole word) in
    let narrow : signed_number w (signed_shift w a k) ≡ signed_number (w - k) (a / 2 ^ k) =
    signed_number-sign_extension (w - k) w (a / 2 ^ k) (omega arith) (omega arith) below in
    narrow ∙ elim (cases_lt a (2 ^ (w - 1))) [
      | inl low ↦
          let low_part : a / 2 ^ k < 2 ^ (w - k - 1) = shr_below a (w - k - 1) k (rw half low) in
          rw (lt-ltb a (2 ^ (w - 1)) low, lt-ltb (a / 2 ^ k) (2 ^ (w - k - 1)) low_part) refl
      | inr high ↦
          let high_part : 2 ^ (w - k - 1) ≤ a / 2 ^ k = le-div (2 ^ (w - k - 1)) a (2 ^ k) (pow_pos k) (omega arith) in
          let divided : (2 ^ w - 1 - a) / 2 ^ k ≡ 2 ^ (w - k) - 1 - a / 2 ^ k =
          rw product (above_divided a (2 ^ k) (2 ^ (w - k)) (pow_pos k) (omega arith) below) in
          rw (le-ltb a (2 ^ (w - 1)) high, le-ltb (a / 2 ^ k) (2 ^ (w - k - 1)) high_part)
          (below_zero (a / 2 ^ k) (2 ^ (w - k)) below ∙ ap negsuc (sym divided) ∙ sym (shift_of_high a (2 ^ w) k word))
    ]

-- the highest bit says whether the signed number is negative
pub top-is : (w a : ℕ) → 0 < w → a < 2 ^ w → top w a ≡ bit (int_lt (signed_number w a) (pos 0))
top-is w a some word = elim (cases_lt a (2 ^ (w - 1))) [
  | inl low ↦ rw (top_of_low w a low, lt-ltb a (2 ^ (w - 1)) low, le-ltb a 0 (omega arith)) refl
  | inr high ↦ rw (top_of_high w a some high word, le-ltb a (2 ^ (w - 1)) high, below_zero a (2 ^ w) word) refl
]

-- so a sign extension keeps it, and so does a shift by the sign
pub top-sign_extension : (m n a : ℕ) → 0 < m → m ≤ n → a < 2 ^ m → top n (sign_extension m n a) ≡ top m a
top-sign_extension m n a some order word =
    top-is n (sign_extension m n a) (omega arith) (sign_extension_below m n a order word)
    ∙ ap (λ (z : ℤ). bit (int_lt z (pos 0))) (signed_number-sign_extension m n a some order word)
    ∙ sym (top-is m a some word)

pub top-signed_shift : (w a k : ℕ) → k < w → a < 2 ^ w → top w (signed_shift w a k) ≡ top w a
top-signed_shift w a k some word =
    let whole : w - k + k ≡ w = omega arith in
    let high : k + (w - k - 1) ≡ w - 1 = omega arith in
    let below : a / 2 ^ k < 2 ^ (w - k) = shr_below a (w - k) k (rw whole word) in
    let parts : a / 2 ^ k / 2 ^ (w - k - 1) ≡ a / 2 ^ (w - 1) = rw (div-div-eq-div-mul a (2 ^ k) (2 ^ (w - k - 1)), ← pow-add 2 k (w - k - 1), high) refl in
    top-sign_extension (w - k) w (a / 2 ^ k) (omega arith) (omega arith) below ∙ ap (λ (n : ℕ). n % 2) parts

pub ruleset signed_words = (signed_number-sign_extension, signed_number-signed_shift, top-is, top-sign_extension, top-signed_shift)
