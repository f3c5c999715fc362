-- Lanes that are set in turn.
use Rattle.std.proofs.Common.{◌≡◌, ℕ, zero, suc, ◌+◌, ◌-◌, ◌*◌, ◌/◌, List, [], ◌++◌, take, drop, length, refl, ◌∙◌, ap, arith, add-one, append_assoc, length-append}
use Rattle.std.specs.Prelude.{replicate}
use Rattle.std.proofs.Math.Seq.{drop-append-add, take-append_seam}
use Rattle.std.proofs.lemmas.List.{drop-replicate}
use Rattle.lane_views.specs.Lanes.{bytes_of, with_lane}
use Rattle.lane_views.proofs.Settings.{length-bytes_of}
use Rattle.lane_semantics.specs.Vectors.{lanes_in_turn}

pub no_lanes : (w : ℕ) (g : ℕ → ℕ) → lanes_in_turn w g 0 ≡ []
unfolding lanes_in_turn
no_lanes w g = refl

one_more : (w : ℕ) (g : ℕ → ℕ) (i : ℕ) → lanes_in_turn w g (i + 1) ≡ lanes_in_turn w g i ++ bytes_of (w / 8) (g i)
unfolding lanes_in_turn
one_more w g i = rw add-one refl

length-lanes_in_turn : (w : ℕ) (g : ℕ → ℕ) (i : ℕ) → length (lanes_in_turn w g i) ≡ i * (w / 8)
unfolding lanes_in_turn
length-lanes_in_turn w g zero = omega arith
length-lanes_in_turn w g (suc i) = rw (length-append, length-lanes_in_turn w g i, length-bytes_of) (omega arith)

-- a list, and what stands behind its first k elements with n dropped
front : {X : Type 0} (xs ys : List X) (k : ℕ) → length xs ≡ k → take k (xs ++ ys) ≡ xs
front xs ys k h = rw (← h) (take-append_seam xs ys)

behind : {X : Type 0} (xs ys : List X) (k n : ℕ) → length xs ≡ k → drop (k + n) (xs ++ ys) ≡ drop n ys
behind xs ys k n h = rw (← h) (drop-append-add xs ys n)

-- lane i set behind the lanes before it, and zeros above
pub lane_added : (w i v : ℕ) (g : ℕ → ℕ) → v ≡ g i → with_lane w i v (lanes_in_turn w g i ++ replicate (32 - i * (w / 8)) 0)
    ≡ lanes_in_turn w g (i + 1) ++ replicate (32 - (i + 1) * (w / 8)) 0
lane_added w i v g e =
    let size : length (lanes_in_turn w g i) ≡ i * (w / 8) = length-lanes_in_turn w g i in
    let left : 32 - i * (w / 8) - w / 8 ≡ 32 - (i + 1) * (w / 8) = omega arith in
    let low : take (i * (w / 8)) (lanes_in_turn w g i ++ replicate (32 - i * (w / 8)) 0) ≡ lanes_in_turn w g i = front _ _ _ size in
    let high : drop (i * (w / 8) + w / 8) (lanes_in_turn w g i ++ replicate (32 - i * (w / 8)) 0) ≡ replicate (32 - (i + 1) * (w / 8)) 0 =
    behind _ _ _ (w / 8) size ∙ drop-replicate (w / 8) (32 - i * (w / 8)) 0 ∙ ap (λ (n : ℕ). replicate n 0) left in
    rw (low, high, e, one_more w g i, append_assoc) refl

-- no lanes, and zeros
pub zeros : (w : ℕ) (g : ℕ → ℕ) → replicate 32 0 ≡ lanes_in_turn w g 0 ++ replicate (32 - 0 * (w / 8)) 0
zeros w g =
    let all : 32 ≡ 32 - 0 * (w / 8) = omega arith in
    rw (no_lanes w g) (ap (λ (n : ℕ). replicate n 0) all)

-- all lanes of w bits
pub all_lanes : (m n w i : ℕ) (g : ℕ → ℕ) (bytes : List ℕ) → m ≡ n → i ≡ w / m → w / m * (m / 8) ≡ w / 8
    → bytes ≡ lanes_in_turn m g i ++ replicate (32 - i * (m / 8)) 0 → bytes ≡ lanes_in_turn n g (w / n) ++ replicate (32 - w / 8) 0
all_lanes m n w i g bytes same last whole h =
    let left : 32 - i * (m / 8) ≡ 32 - w / 8 = ap (λ (k : ℕ). 32 - k * (m / 8)) last ∙ ap (λ (k : ℕ). 32 - k) whole in
    let lanes : lanes_in_turn m g i ≡ lanes_in_turn n g (w / n) = ap (lanes_in_turn m g) last ∙ ap (λ (k : ℕ). lanes_in_turn k g (w / k)) same in
    h ∙ (λ t. lanes t ++ replicate (left t) 0)
