-- Lanes that are set are read back.
use Rattle.std.proofs.Common.{◌≡◌, ℕ, zero, suc, ◌+◌, ◌*◌, ◌/◌, ◌%◌, ◌^◌, ◌<◌, List, ◌++◌, take, drop, length, map, refl, sym, ◌∙◌, ap, arith, div-one}
use Rattle.std.specs.List.{range_with_len}
use Rattle.std.proofs.Math.Nat.{mod-one, mod-eq_of_lt}
use Rattle.std.proofs.Math.Seq.{drop-append_seam, take-append_seam}
use Rattle.std.proofs.lemmas.List.{length-take}
use Rattle.std.proofs.lemmas.List.FromFn.{length-map-range_with_len}
use Rattle.std.proofs.lemmas.Nat.{mod-pow-add, shr-shr}
use Rattle.lane_views.specs.Lanes.{IsLane, byte_of, bytes_of, lane, number, with_lane}
use Rattle.lane_views.proofs.Powers.{lane_bits}

pub length-bytes_of : (n v : ℕ) → length (bytes_of n v) ≡ n
unfolding bytes_of
length-bytes_of n v = length-map-range_with_len (byte_of v) 0 n

-- n bytes of a number from byte a on
number_of_bytes : (v n a : ℕ) → number (map (byte_of v) (range_with_len a n)) ≡ v / 2 ^ (8 * a) % 2 ^ (8 * n)
number_of_bytes v zero a = sym (mod-one _)
number_of_bytes v (suc n) a =
    let width : 8 * suc n ≡ 8 * n + 8 = omega arith in
    let next : 8 * (a + 1) ≡ 8 * a + 8 = omega arith in
    let rest : number (map (byte_of v) (range_with_len (a + 1) n)) ≡ v / 2 ^ (8 * a) / 2 ^ 8 % 2 ^ (8 * n) =
    number_of_bytes v n (a + 1) ∙ rw (next, ← shr-shr v (8 * a) 8) refl in
    let split : v / 2 ^ (8 * a) % 2 ^ (8 * n + 8) ≡ v / 2 ^ (8 * a) / 2 ^ 8 % 2 ^ (8 * n) * 2 ^ 8 + v / 2 ^ (8 * a) % 2 ^ 8 = mod-pow-add (v / 2 ^ (8 * a)) (8 * n) 8 in
    rw (width, rest) (omega arith)

pub number-bytes_of : (n v : ℕ) → v < 2 ^ (8 * n) → number (bytes_of n v) ≡ v
unfolding bytes_of
number-bytes_of n v h = number_of_bytes v n 0 ∙ rw (div-one v) (mod-eq_of_lt h)

-- what stands behind k elements of a list that n elements follow
pub middle : {X : Type 0} (xs ys zs : List X) (k n : ℕ) → length xs ≡ k → length ys ≡ n → take n (drop k (xs ++ (ys ++ zs))) ≡ ys
middle xs ys zs k n front size = rw (← front, ← size, drop-append_seam xs (ys ++ zs)) (take-append_seam ys zs)

pub lane_set : (w i v : ℕ) (bs : List ℕ) → IsLane w i (length bs) → v < 2 ^ w → lane w i (with_lane w i v bs) ≡ v
lane_set w i v bs inside word =
    let front : length (take (i * (w / 8)) bs) ≡ i * (w / 8) = omega (arith, length-take (i * (w / 8)) bs, inside.1) in
    let bits : 8 * (w / 8) ≡ w = lane_bits w inside.0 in
    ap number (middle (take (i * (w / 8)) bs) (bytes_of (w / 8) v) _ (i * (w / 8)) (w / 8) front (length-bytes_of (w / 8) v))
    ∙ number-bytes_of (w / 8) v (rw bits word)
