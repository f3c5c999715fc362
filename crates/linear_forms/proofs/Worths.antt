-- Weighted sums of forms have the weighted sums of their values.
use Rattle.std.proofs.Common.{◌≡◌, ℕ, zero, suc, ◌+◌, ◌*◌, ◌<◌, ◌≤◌, ◌==◌, false, List, [], ◌∷◌, refl, sym, ◌∙◌, ap, arith, inl, inr, if◌then◌else◌}
use Rattle.std.specs.List.{AllByRecursion}
use Rattle.std.proofs.lemmas.Bool.{cases_Bool, eq-eqb, eqb-false, eqb-true, ne_eqb}
use Rattle.node_forms.specs.declared.form.Form.{Form}
use Rattle.node_forms.specs.Forms.{sum_to}
use Rattle.node_forms.specs.Sums.{AreFalling, SameWord, listed_coefficient, weighted_sum}
use Rattle.node_forms.proofs.Residues.{same_add, same_number, same_times}
use Rattle.node_values.specs.declared.node.NodeId.{NodeId}
use Rattle.linear_forms.specs.Combinations.{IsCombination, coefficient, constant, value_of, weighted}

sum_to-same : (g h : ℕ → ℕ) (n : ℕ) → ((a : ℕ) → a < n → g a ≡ h a) → sum_to g n ≡ sum_to h n
sum_to-same g h zero e = refl
sum_to-same g h (suc n) e = λ i. sum_to-same g h n (λ a b. e a (omega arith)) i + e n (omega arith) i

-- a sum with one number more
sum_to-more : (g h : ℕ → ℕ) (i d n : ℕ) → ((a : ℕ) → (a ≡ i → ⊥) → g a ≡ h a) → g i ≡ d + h i → i < n → sum_to g n ≡ d + sum_to h n
sum_to-more g h i d zero others here inside = absurd (omega arith)
sum_to-more g h i d (suc n) others here inside = elim (cases_Bool (i == n)) [
  | inl same ↦
      let e : i ≡ n = eqb-true i n same in
      let rest : sum_to g n ≡ sum_to h n = sum_to-same g h n (λ a b. others a (λ k. absurd (omega arith))) in
      let top : g n ≡ d + h n = ap g (sym e) ∙ here ∙ ap (λ k. d + h k) e in
      omega (arith, rest, top)
  | inr other ↦
      let apart : i ≡ n → ⊥ = eqb-false i n other in
      let below : i < n = omega arith in
      let rest : sum_to g n ≡ d + sum_to h n = sum_to-more g h i d n others here below in
      let top : g n ≡ h n = others n (λ k. absurd (omega arith)) in
      omega (arith, rest, top)
]

sum_to-word : (w : ℕ) (g h : ℕ → ℕ) (n : ℕ) → ((a : ℕ) → SameWord w (g a) (h a)) → SameWord w (sum_to g n) (sum_to h n)
sum_to-word w g h zero e = refl
sum_to-word w g h (suc n) e = same_add w (sum_to g n) (sum_to h n) (g n) (h n) (sum_to-word w g h n e) (e n)

module _ (f : ℕ → ℕ) where
  listed_under : (x end : ℕ) (ps : List (NodeId × ℕ)) → AreFalling end ps → end ≤ x → listed_coefficient ps x ≡ 0
  listed_under x end [] falling h = refl
  listed_under x end (p ∷ ps) falling h =
      let other : (x == p.0.0) ≡ false = ne_eqb x p.0.0 (λ e. absurd (omega (arith, falling.0, e))) in
      rw other (listed_under x p.0.0 ps falling.1 (omega (arith, falling.0)))

  -- a form's sum goes over all atoms below n
  sum_of_listed : (end n : ℕ) (ps : List (NodeId × ℕ)) → AreFalling end ps → end ≤ n
      → weighted_sum f ps ≡ sum_to (λ a. listed_coefficient ps a * f a) n
  sum_of_listed end n [] falling h = sym (nothing n)
    where
      nothing : (n : ℕ) → sum_to (λ a. 0 * f a) n ≡ 0
      nothing zero = refl
      nothing (suc n) = omega (arith, nothing n)
  sum_of_listed end n (p ∷ ps) falling h =
      let none : listed_coefficient ps p.0.0 ≡ 0 = listed_under p.0.0 p.0.0 ps falling.1 (omega arith) in
      let top : listed_coefficient (p ∷ ps) p.0.0 ≡ p.1 = ap (λ t. if t then p.1 else listed_coefficient ps p.0.0) (eq-eqb p.0.0 p.0.0 refl) in
      let here : listed_coefficient (p ∷ ps) p.0.0 * f p.0.0 ≡ p.1 * f p.0.0 + listed_coefficient ps p.0.0 * f p.0.0 =
      rw (top, none) (omega arith) in
      ap (λ s. p.1 * f p.0.0 + s) (sum_of_listed p.0.0 n ps falling.1 (omega (arith, falling.0)))
      ∙ sym (sum_to-more (λ a. listed_coefficient (p ∷ ps) a * f a) (λ a. listed_coefficient ps a * f a) p.0.0 (p.1 * f p.0.0) n
      (λ a other. ap (λ t. (if t then p.1 else listed_coefficient ps a) * f a) (ne_eqb a p.0.0 other)) here (omega (arith, falling.0)))

  module _ (n : ℕ) where
    -- the part of a form's value that comes from its atoms
    abbrev of_atoms : Form → ℕ
    of_atoms form = sum_to (λ a. coefficient a form * f a) n

    sum_to-weighted : (q : ℕ) (c d : ℕ → ℕ) (n : ℕ) → sum_to (λ a. (q * c a + d a) * f a) n ≡ q * sum_to (λ a. c a * f a) n + sum_to (λ a. d a * f a) n
    sum_to-weighted q c d zero = omega arith
    sum_to-weighted q c d (suc n) = omega (arith, sum_to-weighted q c d n)

    exchanged : (parts : List (ℕ × Form)) → weighted of_atoms parts ≡ sum_to (λ a. weighted (coefficient a) parts * f a) n
    exchanged [] = sym (nothing n)
      where
        nothing : (n : ℕ) → sum_to (λ a. 0 * f a) n ≡ 0
        nothing zero = refl
        nothing (suc n) = omega (arith, nothing n)
    exchanged (p ∷ ps) =
        ap (λ s. p.0 * of_atoms p.1 + s) (exchanged ps)
        ∙ sym (sum_to-weighted p.0 (λ a. coefficient a p.1) (λ a. weighted (coefficient a) ps) n)

    by_places : (parts : List (ℕ × Form)) → AllByRecursion (λ p. AreFalling n p.1.atoms) parts
        → weighted (value_of f) parts ≡ weighted of_atoms parts + weighted constant parts
    by_places [] h = refl
    by_places (p ∷ ps) h =
        let one : weighted_sum f p.1.atoms ≡ of_atoms p.1 = sum_of_listed n n p.1.atoms h.0 (omega arith) in
        let rest : weighted (value_of f) ps ≡ weighted of_atoms ps + weighted constant ps = by_places ps h.1 in
        rw (one, rest) (omega arith)

    -- a weighted sum of forms has the weighted sum of their values
    pub combined_value : (w : ℕ) (target : Form) (parts : List (ℕ × Form)) → AreFalling n target.atoms → AllByRecursion (λ p. AreFalling n p.1.atoms) parts
        → IsCombination w target parts → SameWord w (weighted (value_of f) parts) (value_of f target)
    combined_value w target parts own others h =
        let sums : SameWord w (weighted of_atoms parts) (of_atoms target) =
        same_number w (weighted of_atoms parts) (sum_to (λ a. weighted (coefficient a) parts * f a) n) (exchanged parts)
        ∙ sum_to-word w (λ a. weighted (coefficient a) parts * f a) (λ a. coefficient a target * f a) n
        (λ a. same_times w (weighted (coefficient a) parts) (coefficient a target) (f a) (f a) (h.coefficients a) refl) in
        same_number w (weighted (value_of f) parts) (weighted of_atoms parts + weighted constant parts) (by_places parts others)
        ∙ same_add w (weighted of_atoms parts) (of_atoms target) (weighted constant parts) (constant target) sums h.constants
        ∙ same_number w (of_atoms target + constant target) (value_of f target)
        (ap (λ s. s + constant target) (sym (sum_of_listed n n target.atoms own (omega arith))))
