-- Numbers of bytes below powers of two, and the widths of lanes.
use Rattle.std.proofs.Common.{◌≡◌, ℕ, suc, ◌+◌, ◌*◌, ◌/◌, ◌^◌, ◌<◌, ◌≤◌, true, List, drop, get_or, length, refl, inl, inr, sym, subst, arith}
use Rattle.std.proofs.Math.Pow.{pow_mono}
use Rattle.std.proofs.Math.Seq.{drop-cons}
use Rattle.std.proofs.lemmas.Bool.{or_cases}
use Rattle.std.proofs.lemmas.Bool.Decides.{Decides-eqb}
use Rattle.std.proofs.lemmas.Nat.{pow-add}
use Rattle.lane_views.specs.Lanes.{is_lane_width, number}

-- one byte more in front of n bytes
pub number_more : (b v n : ℕ) → b < 256 → v < 2 ^ (8 * n) → v * 256 + b < 2 ^ (8 * suc n)
number_more b v n h k =
    let e : 8 * suc n ≡ 8 * n + 8 = omega arith in
    rw (e, pow-add 2 (8 * n) 8) (omega arith)

-- n bytes, up to eight, fit 64 bits
pub number_fits : (v n : ℕ) → v < 2 ^ (8 * n) → n ≤ 8 → v < 2 ^ 64
number_fits v n h k =
    let low : 8 * n ≤ 64 = omega arith in
    let grows : 2 ^ (8 * n) ≤ 2 ^ 64 = pow_mono {j = 64} low in
    omega arith

pub number_in_front : (bs : List ℕ) (k : ℕ) → k < length bs → number (drop k bs) ≡ get_or bs k 0 + 256 * number (drop (suc k) bs)
number_in_front bs k h = rw (drop-cons bs k 0 h) refl

-- what holds at each width of a lane
pub each_lane_width : (P : ℕ → Type 0) (w : ℕ) → is_lane_width w ≡ true → P 8 → P 16 → P 32 → P 64 → P w
each_lane_width P w h byte word double quad = elim (or_cases _ _ h) [
  | inl e ↦ subst P (sym ((Decides-eqb w 8).0 e)) byte
  | inr more ↦ elim (or_cases _ _ more) [
    | inl e ↦ subst P (sym ((Decides-eqb w 16).0 e)) word
    | inr rest ↦ elim (or_cases _ _ rest) [
      | inl e ↦ subst P (sym ((Decides-eqb w 32).0 e)) double
      | inr e ↦ subst P (sym ((Decides-eqb w 64).0 e)) quad
    ]
  ]
]

-- a lane of w bits has w / 8 bytes, of eight bits each
pub lane_bits : (w : ℕ) → is_lane_width w ≡ true → 8 * (w / 8) ≡ w
lane_bits w h = each_lane_width (λ (n : ℕ). 8 * (n / 8) ≡ n) w h refl refl refl refl

-- at most eight of them
pub lane_narrow : (w : ℕ) → is_lane_width w ≡ true → w / 8 ≤ 8
lane_narrow w h = each_lane_width (λ (n : ℕ). n / 8 ≤ 8) w h (omega arith) (omega arith) (omega arith) (omega arith)
