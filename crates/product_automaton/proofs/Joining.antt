-- Joined bounds stay small.
use Rattle.std.proofs.Common.{◌≡◌, ℕ, suc, ◌+◌, ◌*◌, ◌^◌, ◌<◌, ◌≤◌, [], ◌∷◌, ◌-◌, All, List, drop, fold, slice_index_or, take, take_all, length, refl, lit<, arith}
use Rattle.std.proofs.lemmas.List.Elements.{All-tail}
use Rattle.std.proofs.lemmas.Nat.{mul-le}
use Rattle.std.proofs.lemmas.Grind.{pow_more}
use Rattle.std.proofs.Math.Nat.{pow-le-pow_right}
use Rattle.product_automaton.specs.ChainBounds.{composed_bound, joined_bound}

-- Some of seven bounds are joined, and the rest are to come. The join is below the product of as many numbers 32,769.
pub record IsComposedSoFar (bound : ℕ) (rest ks : List ℕ) : Type 0 where
  pub joined : ℕ
  pub few : joined + length rest ≤ 7
  pub small : All (λ k. k ≤ 32768) rest
  pub below : bound < 32769 ^ joined
  pub same : fold joined_bound bound rest ≡ composed_bound ks

pub composed_so_far-none : (ks : List ℕ) → All (λ k. k ≤ 32768) ks → length ks ≤ 7 → IsComposedSoFar 0 ks ks
composed_so_far-none ks small few = record { joined = 0; few = omega arith; small = small; below = lit< tt; same = refl }

joined_bound-below : (k l b : ℕ) → k < b → l ≤ 32768 → joined_bound k l < b * 32769
joined_bound-below k l b below small =
    let lower : k * l ≤ k * 32768 = mul-le k l k 32768 (omega arith) small in
    omega arith

power-below : (i : ℕ) → i ≤ 7 → 32769 ^ i < 2 ^ 106
power-below i few =
    let power : 32769 ^ i ≤ 32769 ^ 7 = pow-le-pow_right {n = 32769} (lit< tt) {i = i} {j = 7} few in
    let limit : 32769 ^ 7 < 2 ^ 106 = lit< tt in
    omega arith

-- one more bound joined
composed_so_far-more : (ks rest : List ℕ) (bound k : ℕ) → IsComposedSoFar bound (k ∷ rest) ks → IsComposedSoFar (joined_bound bound k) rest ks
composed_so_far-more ks rest bound k h =
    let here : joined_bound bound k < 32769 ^ h.joined * 32769 = joined_bound-below bound k (32769 ^ h.joined) h.below (h.small 0 k (omega arith)) in
    let all = h.few in
    record {
      joined = h.joined + 1;
      few = omega arith;
      small = All-tail (λ (n : ℕ). n ≤ 32768) k rest h.small;
      below = omega (arith, pow_more 32769 h.joined);
      same = h.same;
    }

-- the first of the rest joined
pub composed_so_far-after : (ks rest : List ℕ) (bound next : ℕ) → 1 ≤ length rest → IsComposedSoFar bound rest ks
    → next ≡ joined_bound bound (slice_index_or rest 0 0) → IsComposedSoFar next (take (length rest - 1) (drop 1 rest)) ks
composed_so_far-after ks [] bound next some h is = absurd (omega arith)
composed_so_far-after ks (k ∷ rest) bound next some h is =
    let all : take (suc (length rest) - 1) rest ≡ rest = take_all (suc (length rest) - 1) rest (omega arith) in
    rw (is, all) (composed_so_far-more ks rest bound k h)

-- the join of seven bounds or fewer is below the limit
pub composed_so_far-below : (ks rest : List ℕ) (bound : ℕ) → IsComposedSoFar bound rest ks → bound < 2 ^ 106
composed_so_far-below ks rest bound h =
    let all = h.few in
    let limit = power-below h.joined (omega arith) in
    omega (arith, h.below)

-- so is the next one
pub next_bound-below : (ks rest : List ℕ) (bound : ℕ) → 1 ≤ length rest → IsComposedSoFar bound rest ks
    → joined_bound bound (slice_index_or rest 0 0) < 2 ^ 106
next_bound-below ks rest bound some h =
    composed_so_far-below ks (take (length rest - 1) (drop 1 rest)) (joined_bound bound (slice_index_or rest 0 0))
    (composed_so_far-after ks rest bound (joined_bound bound (slice_index_or rest 0 0)) some h refl)
