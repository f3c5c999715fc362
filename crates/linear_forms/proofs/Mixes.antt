-- Weighted sums of words: one item taken out, weights that are sums, and rows that were cleared.
use Rattle.std.proofs.Common.{◌≡◌, ℕ, zero, suc, ◌+◌, ◌*◌, ◌<◌, ◌≤◌, List, [], ◌∷◌, length, get_or, refl, ◌∙◌, arith}
use Rattle.std.specs.List.{AllByRecursion, AllZip, remove}
use Rattle.node_forms.specs.Sums.{SameWord}
use Rattle.node_forms.proofs.Residues.{same_add, same_number, same_times}
use Rattle.linear_forms.specs.MatrixRows.{IsCleared, mix, word}
use Rattle.linear_forms.proofs.Powers.{same_narrow}

-- weights without number i
abbrev pub without : ℕ → (ℕ → ℕ) → ℕ → ℕ
without zero weights k = weights (suc k)
without (suc i) weights zero = weights zero
without (suc i) weights (suc k) = without i (λ k. weights (suc k)) k

module _ {X : Type 0} (f : X → ℕ) where
  pub mix-remove : (xs : List X) (i : ℕ) (d : X) (weights : ℕ → ℕ) → i < length xs
      → mix f xs weights ≡ weights i * f (get_or xs i d) + mix f (remove xs i) (without i weights)
  mix-remove [] i d weights inside = absurd (omega arith)
  mix-remove (x ∷ xs) zero d weights inside = refl
  mix-remove (x ∷ xs) (suc i) d weights inside =
      omega (arith, mix-remove xs i d (λ k. weights (suc k)) (omega arith))

  module _ (w : ℕ) where
    -- items that are 0 modulo 2^w have a sum that is
    pub mix_zero : (xs : List X) (weights : ℕ → ℕ) → AllByRecursion (λ x. SameWord w (f x) 0) xs → SameWord w (mix f xs weights) 0
    mix_zero [] weights h = refl
    mix_zero (x ∷ xs) weights h =
        same_add w (weights zero * f x) (weights zero * 0) (mix f xs (λ k. weights (suc k))) 0
        (same_times w (weights zero) (weights zero) (f x) 0 refl h.0) (mix_zero xs (λ k. weights (suc k)) h.1)
        ∙ same_number w (weights zero * 0 + 0) 0 (omega arith)

    -- weights that are sums have sums of mixes
    pub mix_sum : (xs : List X) (a b c : ℕ → ℕ) (g : ℕ) → ((k : ℕ) → SameWord w (c k) (a k + g * b k))
        → SameWord w (mix f xs c) (mix f xs a + g * mix f xs b)
    mix_sum [] a b c g h = same_number w 0 (0 + g * 0) (omega arith)
    mix_sum (x ∷ xs) a b c g h =
        let A : ℕ = mix f xs (λ k. a (suc k)) in
        let B : ℕ = mix f xs (λ k. b (suc k)) in
        same_add w (c zero * f x) ((a zero + g * b zero) * f x) (mix f xs (λ k. c (suc k))) (A + g * B)
        (same_times w (c zero) (a zero + g * b zero) (f x) (f x) (h zero) refl)
        (mix_sum xs (λ k. a (suc k)) (λ k. b (suc k)) (λ k. c (suc k)) g (λ k. h (suc k)))
        ∙ same_number w ((a zero + g * b zero) * f x + (A + g * B)) (a zero * f x + A + g * (b zero * f x + B)) (omega arith)

module _ (w : ℕ) (narrow : w ≤ 64) (pivot : List ℕ) (place : ℕ) where
  -- the mix of cleared rows is that of the rows and some multiple of the pivot's row, the same one at each place
  pub cleared_mix : (before after : List (List ℕ)) (weights : ℕ → ℕ) → AllZip (IsCleared pivot place) before after
      → (g : ℕ) × ((j : ℕ) → SameWord w (mix (word j) after weights) (mix (word j) before weights + g * word j pivot))
  cleared_mix [] [] weights h = (0, λ j. same_number w 0 (0 + 0 * word j pivot) (omega arith))
  cleared_mix [] (y ∷ ys) weights h = absurd h
  cleared_mix (x ∷ xs) [] weights h = absurd h
  cleared_mix (x ∷ xs) (y ∷ ys) weights h =
      let rest = cleared_mix xs ys (λ k. weights (suc k)) h.1 in
      let all : ℕ = weights zero * h.0.times + rest.0 in (
        all,
        λ j.
            let M : ℕ = mix (word j) xs (λ k. weights (suc k)) in
            let t : ℕ = h.0.times in
            let g : ℕ = rest.0 in
            same_add w (weights zero * word j y) (weights zero * (word j x + t * word j pivot)) (mix (word j) ys (λ k. weights (suc k))) (M + g * word j pivot)
            (same_times w (weights zero) (weights zero) (word j y) (word j x + t * word j pivot) refl
            (same_narrow 64 w (word j y) (word j x + t * word j pivot) narrow (h.0.sum j)))
            (rest.1 j)
            ∙ same_number w (weights zero * (word j x + t * word j pivot) + (M + g * word j pivot))
            (weights zero * word j x + M + (weights zero * t + g) * word j pivot) (omega arith),
      )

  -- cleared rows have 0 at the place
  pub cleared_zero : (before after : List (List ℕ)) → AllZip (IsCleared pivot place) before after
      → AllByRecursion (λ row. SameWord w (word place row) 0) after
  cleared_zero [] [] h = tt
  cleared_zero [] (y ∷ ys) h = absurd h
  cleared_zero (x ∷ xs) [] h = absurd h
  cleared_zero (x ∷ xs) (y ∷ ys) h = (same_narrow 64 w (word place y) 0 narrow h.0.cleared, cleared_zero xs ys h.1)
