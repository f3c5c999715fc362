-- Steps of arithmetic on words.
use Rattle.std.proofs.Common.{◌≡◌, ℕ, zero, suc, ◌+◌, ◌-◌, ◌*◌, ◌/◌, ◌%◌, ◌^◌, ◌<◌, arith}
use Rattle.std.proofs.lemmas.Nat.{shl_whole}
use Rattle.std.proofs.Math.Nat.{mod-eq_of_lt, pow-suc}
use Rattle.insn_semantics.specs.Words.{concatenation, cut, minus}

-- a word taken from zero
pub minus_from_zero : (w b : ℕ) → 0 < b → b < 2 ^ w → minus w 0 b ≡ 2 ^ w - b
minus_from_zero w b some word =
    let e : 0 + (2 ^ w - b) ≡ 2 ^ w - b = omega arith in
    let below : 2 ^ w - b < 2 ^ w = omega arith in
    rw e (mod-eq_of_lt below)

pub zero_in_front : (n x : ℕ) → concatenation n 0 x ≡ x
zero_in_front n x = omega arith

-- the highest bit of a byte, at place k of a mask
pub top_at : (b k : ℕ) → b < 256 → k < 32 → b / 2 ^ 7 * 2 ^ k % 2 ^ 64 ≡ cut b 7 1 * 2 ^ k
top_at b k byte low =
    let small : b / 2 ^ 7 < 2 ^ 1 = omega arith in
    let same : b / 2 ^ 7 % 2 ^ 1 ≡ b / 2 ^ 7 = mod-eq_of_lt small in
    rw same (shl_whole (b / 2 ^ 7) 1 k 64 small (omega arith))

-- a mask of k bits with one more in front
pub mask_more : (t m k : ℕ) → t < 2 → m < 2 ^ k → t * 2 ^ k + m < 2 ^ (k + 1)
mask_more zero m k bit low =
    let e : k + 1 ≡ suc k = omega arith in
    rw (e, pow-suc 2 k) (omega arith)
mask_more (suc zero) m k bit low =
    let e : k + 1 ≡ suc k = omega arith in
    rw (e, pow-suc 2 k) (omega arith)
mask_more (suc (suc t)) m k bit low = absurd (omega arith)
