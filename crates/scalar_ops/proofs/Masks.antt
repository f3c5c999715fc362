-- A mask of w bits in 64 bits gives the remainder modulo 2^w, whatever was lost above 64 bits before.
use Rattle.std.proofs.Common.{◌≡◌, ℕ, zero, suc, ◌+◌, ◌-◌, ◌*◌, ◌/◌, ◌%◌, ◌^◌, ◌<◌, ◌≤◌, refl, sym, ◌∙◌, subst, arith}
use Rattle.std.proofs.lemmas.Nat.{and_mask, pow_pos, pow-add, shr_below}
use Rattle.std.proofs.lemmas.Nat.Bits.{ones_shr}
use Rattle.std.proofs.Math.Nat.{add-mul-mod_self_left}
use Rattle.std.proofs.Math.Pow.{mod-mod-pow}
use Rattle.std.specs.Int.Bits.{mask_lt}

-- what 64 bits keep has the same low bits
pub low_of_64 : (n w : ℕ) → w < 65 → n % 2 ^ 64 % 2 ^ w ≡ n % 2 ^ w
low_of_64 n w h =
    let e : 64 - w + w ≡ 64 = omega arith in
    rw e at (mod-mod-pow n (64 - w) w)

pub mask_is : (w : ℕ) → w < 65 → (2 ^ 64 - 1) / 2 ^ (64 - w) ≡ 2 ^ w - 1
mask_is w h =
    let e : 64 - (64 - w) ≡ w = omega arith in
    rw e at (ones_shr 64 (64 - w) (omega arith))

-- a difference in 64 bits is one in w bits, and a multiple of 2^w
difference_of_parts : (a b c d : ℕ) → b < c → (a + (c * suc d - b)) % c ≡ (a + (c - b)) % c
difference_of_parts a b c d h =
    let e : a + (c * suc d - b) ≡ a + (c - b) + c * d = omega arith in
    rw e (add-mul-mod_self_left (a + (c - b)) c d)

pub difference_low : (a b w : ℕ) → w < 65 → b < 2 ^ w → (a + (2 ^ 64 - b)) % 2 ^ 64 % 2 ^ w ≡ (a + (2 ^ w - b)) % 2 ^ w
difference_low a b w narrow word =
    let one : 0 < 2 ^ (64 - w) = pow_pos (64 - w) in
    let d : ℕ = 2 ^ (64 - w) - 1 in
    let up : suc d ≡ 2 ^ (64 - w) = omega arith in
    let whole : w + (64 - w) ≡ 64 = omega arith in
    let parts : 2 ^ 64 ≡ 2 ^ w * suc d = rw (up, ← pow-add 2 w (64 - w), whole) refl in
    low_of_64 (a + (2 ^ 64 - b)) w narrow ∙ subst (λ (c : ℕ). (a + (c - b)) % 2 ^ w ≡ (a + (2 ^ w - b)) % 2 ^ w) (sym parts) (difference_of_parts a b (2 ^ w) d word)

pub shifted_below : (a w k : ℕ) → a < 2 ^ w → k < w → a / 2 ^ k < 2 ^ (w - k)
shifted_below a w k h below =
    let e : w - k + k ≡ w = omega arith in
    shr_below a (w - k) k (rw e h)

-- a number below q, with t times the ones between q and p in front of it
pub copies_below : (t p q a : ℕ) → t < 2 → q ≤ p → a < q → t * (p - 1 - (q - 1)) + a < p
copies_below zero p q a h order word = omega arith
copies_below (suc zero) p q a h order word = omega arith
copies_below (suc (suc t)) p q a h order word = absurd (omega arith)

pub ruleset masks = (and_mask, mask_lt, low_of_64, mask_is)
