-- An alignment matches two traces in one way.
use Rattle.std.proofs.Common.{◌≡◌, ℕ, List, [], ◌∷◌, refl, sym, subst, arith}
use Rattle.tracer.specs.Matching.{AreMatched, IsNext}

-- the next pair is one
next-once : (M : ℕ → ℕ → Type 0) (i j : ℕ) (pair other : ℕ × ℕ) → IsNext M i j pair → IsNext M i j other → pair ≡ other
next-once M i j pair other p o =
    let there = p.least_right other.0 other.1 o.left_later o.right_later o.holds in
    let back = o.least_right pair.0 pair.1 p.left_later p.right_later p.holds in
    let right : other.1 ≡ pair.1 = omega arith in
    let forth = p.least_left other.0 o.left_later (subst (λ (l : ℕ). M other.0 l) right o.holds) in
    let again = o.least_left pair.0 p.left_later (subst (λ (l : ℕ). M pair.0 l) (sym right) p.holds) in
    let left : pair.0 ≡ other.0 = omega arith in
    λ k. (left k, sym right k)

-- the pairs that follow one another are one list
pub matched-once : (M : ℕ → ℕ → Type 0) (i j : ℕ) (pairs others : List (ℕ × ℕ)) → AreMatched M i j pairs → AreMatched M i j others → pairs ≡ others
matched-once M i j [] [] p o = refl
matched-once M i j [] (other ∷ others) p o = absurd (p other.0 other.1 o.0.left_later o.0.right_later o.0.holds)
matched-once M i j (pair ∷ pairs) [] p o = absurd (o pair.0 pair.1 p.0.left_later p.0.right_later p.0.holds)
matched-once M i j (pair ∷ pairs) (other ∷ others) p o =
    let same = next-once M i j pair other p.0 o.0 in
    let rest = matched-once M pair.0 pair.1 pairs others p.1 (subst (λ (q : ℕ × ℕ). AreMatched M q.0 q.1 others) (sym same) o.1) in
    λ k. same k ∷ rest k
