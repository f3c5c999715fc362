-- First laws of words, at every width.
use Rattle.std.proofs.Common.{◌≡◌, ℕ, zero, suc, ◌+◌, ◌-◌, ◌*◌, ◌/◌, ◌%◌, ◌^◌, ◌<◌, ◌≤◌, refl, sym, ◌∙◌, ap, subst, inl, inr, arith, div-one}
use Rattle.std.proofs.lemmas.Bool.{cases_order, cases_lt, lt-ltb, le-ltb, eq-eqb, ne_eqb}
use Rattle.std.proofs.lemmas.Nat.{and_le_l, or_lt, xor_lt, pow_pos, mod_below, shr_below, shr_high, shr_le, shl-shr, field_of, mod_low, pow-add}
use Rattle.std.proofs.Math.Nat.{mod-add-mod, add-mod_right, mul-add-mod_self_left, mod-eq_of_lt, div-eq_of_lt, div-eq_of_lt-le}
use Rattle.std.proofs.Math.Pow.{pow_mono}
use Rattle.insn_ops.specs.declared.op.Op.{Op}
use Rattle.insn_ops.specs.declared.op.Op.TheVariants as ops
use Rattle.insn_semantics.specs.Rows.{Computes, computed}
use Rattle.insn_semantics.specs.Words.{plus, minus, complement, cut, concatenation, top, sign_extension, left_shift, right_shift, equal, below}

-- a number below the modulus, with the modulus added
pub once_around : (p a n : ℕ) → a < p → n ≡ a + p → n % p ≡ a
once_around p a n h e = rw (e, add-mod_right a p) (mod-eq_of_lt h)

pub minus-plus : (w a b : ℕ) → a < 2 ^ w → b < 2 ^ w → minus w (plus w a b) b ≡ a
minus-plus w a b left right =
    mod-add-mod (a + b) (2 ^ w) (2 ^ w - b) ∙ once_around (2 ^ w) a (a + b + (2 ^ w - b)) left (omega arith)

pub plus-minus : (w a b : ℕ) → a < 2 ^ w → b < 2 ^ w → plus w (minus w a b) b ≡ a
plus-minus w a b left right =
    mod-add-mod (a + (2 ^ w - b)) (2 ^ w) b ∙ once_around (2 ^ w) a (a + (2 ^ w - b) + b) left (omega arith)

pub minus_self : (w a : ℕ) → a < 2 ^ w → minus w a a ≡ 0
minus_self w a word = once_around (2 ^ w) 0 (a + (2 ^ w - a)) (pow_pos w) (omega arith)

pub complement-complement : (w a : ℕ) → a < 2 ^ w → complement w (complement w a) ≡ a
complement-complement w a word = omega arith

pub cut_high-concatenation : (m n high low : ℕ) → high < 2 ^ m → low < 2 ^ n → cut (concatenation n high low) n m ≡ high
cut_high-concatenation m n high low h l = rw (shr_high high n low l) (mod-eq_of_lt h)

pub cut_low-concatenation : (n high low : ℕ) → low < 2 ^ n → cut (concatenation n high low) 0 n ≡ low
cut_low-concatenation n high low l = rw div-one (mod_low high n low l)

-- 2^n less 2^m is a multiple of 2^m
low_of_copies : (t p d a : ℕ) → a < p → (t * (p * suc d - p) + a) % p ≡ a
low_of_copies t p d a h =
    let rest : p * suc d - p ≡ p * d = omega arith in
    let turned : t * (p * d) ≡ p * (t * d) = omega arith in
    rw (rest, turned, mul-add-mod_self_left p (t * d) a) (mod-eq_of_lt h)

pub mod-sign_extension : (m n a : ℕ) → m ≤ n → a < 2 ^ m → sign_extension m n a % 2 ^ m ≡ a
mod-sign_extension m n a order word =
    let one : 0 < 2 ^ (n - m) = pow_pos (n - m) in
    let d : ℕ = 2 ^ (n - m) - 1 in
    let up : suc d ≡ 2 ^ (n - m) = omega arith in
    let whole : m + (n - m) ≡ n = omega arith in
    let parts : 2 ^ n ≡ 2 ^ m * suc d = rw (up, ← pow-add 2 m (n - m), whole) refl in
    rw parts (low_of_copies (top m a) (2 ^ m) d a word)

extended_by : (t p q a : ℕ) → t < 2 → q ≤ p → a < q → t * (p - q) + a < p
extended_by zero p q a h order word = omega arith
extended_by (suc zero) p q a h order word = omega arith
extended_by (suc (suc t)) p q a h order word = absurd (omega arith)

pub power_grows : (m n : ℕ) → m ≤ n → 2 ^ m ≤ 2 ^ n
power_grows m n h = pow_mono h

pub sign_extension_below : (m n a : ℕ) → m ≤ n → a < 2 ^ m → sign_extension m n a < 2 ^ n
sign_extension_below m n a order word =
    extended_by (top m a) (2 ^ n) (2 ^ m) a (mod_below (a / 2 ^ (m - 1)) 2 (omega arith)) (power_grows m n order) word

-- a shift to the left and back to the right drops the high bits
pub right_shift-left_shift : (w k a : ℕ) → k ≤ w → right_shift (left_shift w a k) k ≡ a % 2 ^ (w - k)
right_shift-left_shift w k a h =
    let whole : w - k + k ≡ w = omega arith in
    rw whole at (field_of (a * 2 ^ k) (w - k) k) ∙ ap (λ (n : ℕ). n % 2 ^ (w - k)) (shl-shr a k)

pub one_order : (a b : ℕ) → below a b + equal a b + below b a ≡ 1
one_order a b = elim (cases_order a b) [
  | inl e ↦ rw (e, le-ltb b b (omega arith), eq-eqb b b refl) refl
  | inr (inl l) ↦ rw (lt-ltb a b l, le-ltb b a (omega arith), ne_eqb a b (omega arith)) refl
  | inr (inr g) ↦ rw (lt-ltb b a g, le-ltb a b (omega arith), ne_eqb a b (omega arith)) refl
]

-- a sum is below its left operand where the true sum has one bit more
pub below-plus : (w a b : ℕ) → a < 2 ^ w → b < 2 ^ w → below (plus w a b) a ≡ (a + b) / 2 ^ w
below-plus w a b left right = elim (cases_lt (a + b) (2 ^ w)) [
  | inl l ↦ rw (mod-eq_of_lt l, div-eq_of_lt l, le-ltb (a + b) a (omega arith)) refl
  | inr g ↦
      let low : (a + b) % 2 ^ w ≡ a + b - 2 ^ w = once_around (2 ^ w) (a + b - 2 ^ w) (a + b) (omega arith) (omega arith) in
      let one : (a + b) / 2 ^ w ≡ 1 = div-eq_of_lt-le (2 ^ w) (omega arith) (omega arith) in
      rw (low, one, lt-ltb (a + b - 2 ^ w) a (omega arith)) refl
]

pub computed_below : (op : Op) (w a b : ℕ) → Computes op w a b → computed op w a b < 2 ^ w
computed_below ops.Mov w a b h = h.3
computed_below ops.Movabs w a b h = h.3
computed_below ops.Add w a b h = mod_below (a + b) (2 ^ w) (pow_pos w)
computed_below ops.Sub w a b h = mod_below (a + (2 ^ w - b)) (2 ^ w) (pow_pos w)
computed_below ops.Cmp w a b h = mod_below (a + (2 ^ w - b)) (2 ^ w) (pow_pos w)
computed_below ops.Test w a b h = omega (arith, and_le_l a b, h.2)
computed_below ops.And w a b h = omega (arith, and_le_l a b, h.2)
computed_below ops.Or w a b h = or_lt w a b h.2 h.3
computed_below ops.Xor w a b h = xor_lt w a b h.2 h.3
computed_below ops.Inc w a b h = mod_below (a + 1) (2 ^ w) (pow_pos w)
computed_below ops.Dec w a b h = mod_below (a + (2 ^ w - 1)) (2 ^ w) (pow_pos w)
computed_below ops.Neg w a b h = mod_below (0 + (2 ^ w - a)) (2 ^ w) (pow_pos w)
computed_below ops.Not w a b h = omega (arith, pow_pos w)
computed_below ops.Shl w a b h = mod_below (a * 2 ^ b) (2 ^ w) (pow_pos w)
computed_below ops.Shr w a b h = omega (arith, shr_le a b, h.1)
computed_below ops.Sar w a b h =
    let whole : w - b + b ≡ w = omega arith in
    let high : a / 2 ^ b < 2 ^ (w - b) = shr_below a (w - b) b (rw whole h.1) in
    sign_extension_below (w - b) w (a / 2 ^ b) (omega arith) high
computed_below ops.Imul w a b h = mod_below (a * b) (2 ^ w) (pow_pos w)
computed_below ops.Lea w a b h = mod_below (b / 2 ^ 0) (2 ^ w) (pow_pos w)
computed_below (ops.Movzx m) w a b h = omega (arith, power_grows m w (omega arith), h.3)
computed_below (ops.Movsx m) w a b h = sign_extension_below m w b (omega arith) h.3
computed_below ops.Cltq w a b h = subst (λ (n : ℕ). sign_extension 32 64 b < 2 ^ n) (sym h.0) (sign_extension_below 32 64 b (omega arith) h.1)
computed_below _ w a b h = absurd h

pub ruleset laws = (minus-plus, plus-minus, minus_self, complement-complement, cut_high-concatenation, cut_low-concatenation, mod-sign_extension, sign_extension_below, right_shift-left_shift, one_order, below-plus, computed_below)
