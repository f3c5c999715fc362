-- Words of up to eight bytes, by their bytes.
use Rattle.std.proofs.Common.{◌≡◌, ℕ, zero, suc, ◌+◌, ◌*◌, ◌%◌, ◌^◌, ◌<◌, ◌≤◌, refl, ◌∙◌, ap, arith, add-one, lit<}
use Rattle.std.proofs.lemmas.Nat.{shl_whole, pow-add}
use Rattle.std.proofs.Math.Nat.{pow-suc, pow-le-pow_right}

-- the next power of 256
pub next_power : (k : ℕ) → 256 ^ (k + 1) ≡ 256 ^ k * 256
next_power k = rw add-one (pow-suc 256 k)

-- a byte is eight bits
pub byte_power : (k : ℕ) → 2 ^ (8 * k) ≡ 256 ^ k
byte_power zero = refl
byte_power (suc k) =
    let e : 8 * suc k ≡ 8 * k + 8 = omega arith in
    rw (e, pow-add 2 (8 * k) 8, byte_power k, pow-suc 256 k) refl

-- a byte shifted by whole bytes
pub shifted_byte : (b k : ℕ) → b < 256 → k < 8 → (b * 2 ^ (8 * k)) % 2 ^ 64 ≡ b * 256 ^ k
shifted_byte b k h low = shl_whole b 8 (8 * k) 64 h (omega arith) ∙ ap (λ (x : ℕ). b * x) (byte_power k)

-- a power of 256 up to the eighth fits 64 bits
pub power_fits : (k : ℕ) → k < 8 → 256 ^ k * 256 ≤ 2 ^ 64
power_fits k h = omega (arith, pow-suc 256 k, pow-le-pow_right {n = 256} (lit< tt) {i = suc k} {j = 8} (omega arith))

-- one byte more than a word of k bytes, as its highest
pub byte_in_front : (w b p : ℕ) → w < p → b < 256 → w + b * p < p * 256
byte_in_front w b p h low = grind arith

pub ruleset bytewise = (byte_power, shifted_byte, power_fits, next_power, byte_in_front)
