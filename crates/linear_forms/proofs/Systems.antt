-- Systems of forms as rows of words.
use Rattle.std.proofs.Common.{◌≡◌, ℕ, zero, suc, ◌+◌, ◌-◌, ◌*◌, ◌%◌, ◌^◌, ◌<◌, ◌≤◌, List, [], ◌∷◌, length, get_or, refl, sym, ◌∙◌, ap, arith, if◌then◌else◌}
use Rattle.std.specs.Prelude.{slice_index}
use Rattle.std.specs.List.{AllByRecursion, AllZip, zip}
use Rattle.std.proofs.Math.Nat.{add-mul-mod_self_left}
use Rattle.std.proofs.lemmas.Bool.{eq-eqb, ne_eqb}
use Rattle.node_forms.specs.declared.form.Form.{Form}
use Rattle.node_forms.specs.Sums.{SameWord}
use Rattle.node_forms.proofs.Residues.{same_add, same_number, same_times}
use Rattle.linear_forms.specs.Combinations.{IsCombination, weighted}
use Rattle.linear_forms.specs.Places.{HasAtoms, IsAmong, IsRowOf, IsUnit, word_at}
use Rattle.linear_forms.specs.MatrixRows.{AddsUp, Makes, mix, word}
use Rattle.linear_forms.specs.declared.places.Place.{Place}
use Rattle.linear_forms.specs.declared.places.Place.TheVariants.{Constant}
use Rattle.linear_forms.proofs.WeightedSums.{Agrees, agrees_at, combination_of}
use Rattle.linear_forms.proofs.Powers.{same_narrow}

module _ {X : Type 0} (f : X → ℕ) where
  -- without weights there is no sum
  mix_none : (xs : List X) (weights : ℕ → ℕ) → ((k : ℕ) → k < length xs → weights k ≡ 0) → mix f xs weights ≡ 0
  mix_none [] weights h = refl
  mix_none (x ∷ xs) weights h =
      let here : weights zero ≡ 0 = h zero (omega arith) in
      rw (here, mix_none xs (λ k. weights (suc k)) (λ k b. h (suc k) (omega arith))) (omega arith)

  -- with one weight it is that multiple of its item
  mix_unit : (xs : List X) (i : ℕ) (d : X) (weights : ℕ → ℕ) → i < length xs → ((k : ℕ) → k < length xs → (k ≡ i → ⊥) → weights k ≡ 0)
      → mix f xs weights ≡ weights i * f (get_or xs i d)
  mix_unit [] i d weights inside h = absurd (omega arith)
  mix_unit (x ∷ xs) zero d weights inside h =
      rw (mix_none xs (λ k. weights (suc k)) (λ k b. h (suc k) (omega arith) (λ e. absurd (omega arith)))) (omega arith)
  mix_unit (x ∷ xs) (suc i) d weights inside h =
      let none : weights zero ≡ 0 = h zero (omega arith) (λ e. absurd (omega arith)) in
      rw (none, mix_unit xs i d (λ k. weights (suc k)) (omega arith) (λ k b other. h (suc k) (omega arith) (λ e. other (omega arith)))) (omega arith)

  -- the same weights have the same mix
  mix_same : (w : ℕ) (xs : List X) (a b : ℕ → ℕ) → ((k : ℕ) → SameWord w (a k) (b k)) → SameWord w (mix f xs a) (mix f xs b)
  mix_same w [] a b h = refl
  mix_same w (x ∷ xs) a b h =
      same_add w (a zero * f x) (b zero * f x) (mix f xs (λ k. a (suc k))) (mix f xs (λ k. b (suc k)))
      (same_times w (a zero) (b zero) (f x) (f x) (h zero) refl) (mix_same w xs (λ k. a (suc k)) (λ k. b (suc k)) (λ k. h (suc k)))

-- the weights of a list, item by item
weighted-zip : (f : Form → ℕ) (weights : List ℕ) (parts : List Form) → weighted f (zip weights parts) ≡ mix f parts (slice_index weights)
weighted-zip f [] parts = sym (mix_none f parts (slice_index []) (λ k b. refl))
weighted-zip f (q ∷ qs) [] = refl
weighted-zip f (q ∷ qs) (p ∷ ps) = ap (λ n. q * f p + n) (weighted-zip f qs ps)

all_zipped : (P : Form → Type 0) (weights : List ℕ) (parts : List Form) → AllByRecursion P parts → AllByRecursion (λ p. P p.1) (zip weights parts)
all_zipped P [] parts h = tt
all_zipped P (q ∷ qs) [] h = tt
all_zipped P (q ∷ qs) (p ∷ ps) h = (h.0, all_zipped P qs ps h.1)

-- what holds of each item by number holds of all
pub all_from : {X : Type 0} (P : X → Type 0) (xs : List X) (d : X) → ((j : ℕ) → j < length xs → P (get_or xs j d)) → AllByRecursion P xs
all_from P [] d h = tt
all_from P (x ∷ xs) d h = (h zero (omega arith), all_from P xs d (λ j b. h (suc j) (omega arith)))

-- less one time a number and the number are nothing
less_one : (w x : ℕ) → w ≤ 64 → SameWord w (x + (2 ^ 64 - 1) * x) 0
less_one w x narrow =
    same_narrow 64 w (x + (2 ^ 64 - 1) * x) 0 narrow
    (ap (λ n. n % 2 ^ 64) (all x) ∙ add-mul-mod_self_left 0 (2 ^ 64) x)
  where
    all : (x : ℕ) → x + (2 ^ 64 - 1) * x ≡ 0 + 2 ^ 64 * x
    all x = omega arith

module _ (w n : ℕ) (rows : List (List ℕ)) where
  unit_other : (own : ℕ) (row : List ℕ) → IsUnit n (length rows) own row → (k : ℕ) → k < length rows → (k ≡ own → ⊥) → word (n + k) row ≡ 0
  unit_other own row h k inside other = h k inside ∙ ap (λ t. if t then 2 ^ 64 - 1 else 0) (ne_eqb k own other)

  -- a row that has less one of itself behind adds up to nothing
  pub row_adds_up : w ≤ 64 → (i : ℕ) → i < length rows → IsUnit n (length rows) i (get_or rows i []) → AddsUp w n rows [] (get_or rows i [])
  row_adds_up narrow i inside unit j b =
      let row : List ℕ = get_or rows i [] in
      let own : word (n + i) row ≡ 2 ^ 64 - 1 = unit i inside ∙ ap (λ t. if t then 2 ^ 64 - 1 else 0) (eq-eqb i i refl) in
      let all : mix (word j) rows (λ k. word (n + k) row) ≡ (2 ^ 64 - 1) * word j row =
      mix_unit (word j) rows i [] (λ k. word (n + k) row) inside (unit_other i row unit) ∙ ap (λ q. q * word j row) own in
      same_number w (word j row + mix (word j) rows (λ k. word (n + k) row)) (word j row + (2 ^ 64 - 1) * word j row) (ap (λ m. word j row + m) all)
      ∙ less_one w (word j row) narrow

  -- a base that has nothing behind adds up to itself
  pub base_adds_up : (base : List ℕ) → IsUnit n (length rows) (length rows) base → AddsUp w n rows base base
  base_adds_up base unit j b =
      let none : mix (word j) rows (λ k. word (n + k) base) ≡ 0 =
      mix_none (word j) rows (λ k. word (n + k) base) (λ k inside. unit_other (length rows) base unit k inside (λ e. absurd (omega arith))) in
      same_number w (word j base + mix (word j) rows (λ k. word (n + k) base)) (word j base) (omega (arith, none))

module _ (w : ℕ) (places : List Place) (target : Form) (parts : List Form) (rows : List (List ℕ)) (base : List ℕ)
    (of_parts : AllZip (IsRowOf places) parts rows) (of_target : IsRowOf places target base) where
  mix_rows : (j : ℕ) → j < length places → (parts : List Form) (rows : List (List ℕ)) (weights : ℕ → ℕ) → AllZip (IsRowOf places) parts rows
      → mix (word j) rows weights ≡ mix (word_at (get_or places j Constant)) parts weights
  mix_rows j b [] [] weights h = refl
  mix_rows j b [] (r ∷ rs) weights h = absurd h
  mix_rows j b (p ∷ ps) [] weights h = absurd h
  mix_rows j b (p ∷ ps) (r ∷ rs) weights h =
      λ i. weights zero * h.0 j b i + mix_rows j b ps rs (λ k. weights (suc k)) h.1 i

  -- weights of the parts that make the target are ones of the rows
  pub makes_of : (weights : List ℕ) → IsCombination w target (zip weights parts) → Makes w (length places) rows base (slice_index weights)
  makes_of weights h j b =
      let place : Place = get_or places j Constant in
      same_number w (mix (word j) rows (slice_index weights)) (weighted (word_at place) (zip weights parts))
      (mix_rows j b parts rows (slice_index weights) of_parts ∙ sym (weighted-zip (word_at place) weights parts))
      ∙ agrees_at w target (zip weights parts) h place
      ∙ same_number w (word_at place target) (word j base) (sym (of_target j b))

  -- weights of the rows that make the base are ones of the parts
  pub combination_by : (weights : List ℕ) (left : ℕ → ℕ) → ((k : ℕ) → SameWord w (slice_index weights k) (left k))
      → Makes w (length places) rows base left
      → IsAmong places Constant → HasAtoms places target → AllByRecursion (HasAtoms places) parts
      → IsCombination w target (zip weights parts)
  combination_by weights left same makes one own others =
      combination_of w target (zip weights parts) places one own (all_zipped (HasAtoms places) weights parts others)
      (all_from (Agrees w target (zip weights parts)) places Constant (λ j b.
      let place : Place = get_or places j Constant in
      same_number w (weighted (word_at place) (zip weights parts)) (mix (word_at place) parts (slice_index weights)) (weighted-zip (word_at place) weights parts)
      ∙ mix_same (word_at place) w parts (slice_index weights) left same
      ∙ same_number w (mix (word_at place) parts left) (mix (word j) rows left) (sym (mix_rows j b parts rows left of_parts))
      ∙ makes j b
      ∙ same_number w (word j base) (word_at place target) (of_target j b)))
