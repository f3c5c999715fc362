-- The terms of a form: which atoms they have, and what they sum to.
use Rattle.std.proofs.Common.{◌≡◌, ℕ, zero, suc, ◌+◌, ◌-◌, ◌*◌, ◌%◌, ◌^◌, ◌<◌, ◌≤◌, ◌==◌, List, [], ◌∷◌, length, refl, sym, ◌∙◌, ap, subst, arith, inl, inr, if◌then◌else◌}
use Rattle.std.specs.List.{AllByRecursion}
use Rattle.std.proofs.lemmas.Bool.{cases_Bool, cases_lt, eqb-false, eqb-true, eq-eqb, ne_eqb}
use Rattle.std.proofs.lemmas.Nat.{mod_below, pow_pos}
use Rattle.std.proofs.Math.Nat.{mod-eq_of_lt}
use Rattle.insn_semantics.specs.Words as words
use Rattle.insn_semantics.proofs.WordLaws.{once_around}
use Rattle.node_values.specs.declared.node.Node.{Node}
use Rattle.node_values.specs.declared.node.NodeId.{NodeId}
use Rattle.node_values.specs.Nodes.{node_width}
use Rattle.node_values.specs.Sheets.{IsSheet, node_at, width_at}
use Rattle.node_values.proofs.SheetLaws.{width_at-is, width_ranged}
use Rattle.node_forms.specs.declared.linear.Linear.{Linear}
use Rattle.node_forms.specs.declared.linear.Linear.TheVariants.{Atom, Number, Times, Plus, Minus}
use Rattle.node_forms.specs.Linearity.{linearity}
use Rattle.node_forms.specs.Forms.{form_at, form_by, sum_to}
use Rattle.node_forms.specs.Sums.{AreFalling, listed_coefficient, weighted_sum}
use Rattle.node_forms.proofs.FormLaws.{form_at-is}
use Rattle.node_forms.proofs.LinearLaws.{AllParts, IsLower, linearity_parts, parts_weaker}
use Rattle.address_nodes.specs.Multiples.{AreTerms, IsAddress, Term}
use Rattle.address_nodes.specs.Differences.{difference_form, difference_terms, terms_below}

module _ (c : ℕ → ℕ) where
  -- where a coefficient is 0 there is no term
  pub terms_zero : (n : ℕ) → c n ≡ 0 → terms_below c (suc n) ≡ terms_below c n
  unfolding terms_below
  terms_zero n h = ap (λ t. if t then terms_below c n else (record { 0 = n }, c n) ∷ terms_below c n) (eq-eqb (c n) 0 h)

  pub terms_some : (n : ℕ) → (c n ≡ 0 → ⊥) → terms_below c (suc n) ≡ (record { 0 = n }, c n) ∷ terms_below c n
  unfolding terms_below
  terms_some n h = ap (λ t. if t then terms_below c n else (record { 0 = n }, c n) ∷ terms_below c n) (ne_eqb (c n) 0 h)

  pub terms_none : terms_below c 0 ≡ []
  unfolding terms_below
  terms_none = refl

  -- a term more, or none
  pub by_terms : (P : List Term → Type 0) (n : ℕ) → (c n ≡ 0 → P (terms_below c n))
      → ((c n ≡ 0 → ⊥) → P ((record { 0 = n }, c n) ∷ terms_below c n)) → P (terms_below c (suc n))
  by_terms P n h k = elim (cases_Bool (c n == 0)) [
    | inl t ↦ let e : c n ≡ 0 = eqb-true (c n) 0 t in subst P (sym (terms_zero n e)) (h e)
    | inr f ↦ let e : c n ≡ 0 → ⊥ = eqb-false (c n) 0 f in subst P (sym (terms_some n e)) (k e)
  ]

  -- what holds of each atom with a coefficient holds of all terms
  pub terms_all : (P : Term → Type 0) (n : ℕ) → ((x : ℕ) → x < n → (c x ≡ 0 → ⊥) → P (record { 0 = x }, c x)) → AllByRecursion P (terms_below c n)
  terms_all P zero h = subst (AllByRecursion P) (sym terms_none) tt
  terms_all P (suc n) h =
      by_terms (AllByRecursion P) n (λ e. terms_all P n (λ x b. h x (omega arith)))
      (λ some. (h n (omega arith) some, terms_all P n (λ x b. h x (omega arith))))

  -- the sum of the terms is that of all coefficients
  pub terms_sum : (f : ℕ → ℕ) (n : ℕ) → weighted_sum f (terms_below c n) ≡ sum_to (λ x. c x * f x) n
  terms_sum f zero = ap (weighted_sum f) terms_none
  terms_sum f (suc n) =
      by_terms (λ ps. weighted_sum f ps ≡ sum_to (λ x. c x * f x) (suc n)) n
      (λ e. let rest = terms_sum f n in rw e (zeros (weighted_sum f (terms_below c n)) (sum_to (λ x. c x * f x) n) (f n) rest))
      (λ some. let rest = terms_sum f n in omega (arith, rest))
    where
      zeros : (a b v : ℕ) → a ≡ b → a ≡ b + 0 * v
      zeros a b v h = omega arith

  -- a list of terms by falling numbers with these coefficients is the list of the terms
  pub listed_terms : (n : ℕ) (ps : List Term) → AreFalling n ps → AllByRecursion (λ p. 0 < p.1) ps
      → ((x : ℕ) → x < n → listed_coefficient ps x ≡ c x) → ps ≡ terms_below c n
  listed_terms zero [] falling some h = sym terms_none
  listed_terms zero (p ∷ ps) falling some h = absurd (omega (arith, falling.0))
  listed_terms (suc n) [] falling some h =
      by_terms (λ qs. [] ≡ qs) n (λ e. listed_terms n [] tt tt (λ x b. h x (omega arith)))
      (λ k. absurd (k (sym (h n (omega arith)))))
  listed_terms (suc n) (p ∷ ps) falling some h = elim (cases_lt p.0.0 n) [
    | inl lower ↦
        let none : c n ≡ 0 = sym (h n (omega arith)) ∙ past n n (p ∷ ps) (lower, falling.1) (omega arith) in
        listed_terms n (p ∷ ps) (lower, falling.1) some (λ x b. h x (omega arith)) ∙ sym (terms_zero n none)
    | inr upper ↦
        let here : p.0.0 ≡ n = omega (arith, falling.0) in
        let there : n ≡ p.0.0 = sym here in
        let value : p.1 ≡ c n = sym (ap (λ t. if t then p.1 else listed_coefficient ps n) (eq-eqb n p.0.0 there)) ∙ h n (omega arith) in
        let rest : ps ≡ terms_below c n =
        listed_terms n ps (subst (λ m. AreFalling m ps) here falling.1) some.1
        (λ x b. sym (ap (λ t. if t then p.1 else listed_coefficient ps x) (ne_eqb x p.0.0 (λ e. absurd (omega (arith, e, b, here))))) ∙ h x (omega arith)) in
        (λ i. (record { 0 = here i }, value i) ∷ rest i)
        ∙ sym (terms_some n (λ e. absurd (omega (arith, some.0, value, e))))
  ]
    where
      past : (x end : ℕ) (qs : List Term) → AreFalling end qs → end ≤ x → listed_coefficient qs x ≡ 0
      past x end [] falling h = refl
      past x end (q ∷ qs) falling h =
          ap (λ t. if t then q.1 else listed_coefficient qs x) (ne_eqb x q.0.0 (λ e. absurd (omega (arith, falling.0, e, h))))
          ∙ past x q.0.0 qs falling.1 (omega (arith, falling.0, h))

-- no difference of nothing
pub no_difference : (w : ℕ) → words.minus w 0 0 ≡ 0
no_difference w = around (2 ^ w) (pow_pos w)
  where
    around : (m : ℕ) → 0 < m → (0 + (m - 0)) % m ≡ 0
    around m h = let e : 0 + (m - 0) ≡ 0 + m = omega arith in ap (λ n. n % m) e ∙ once_around m 0 (0 + m) h refl

-- an atom with a coefficient in the form of a node has as many bits
module _ (ns : List Node) (sheet : IsSheet ns) (w : ℕ) where
  abbrev coefficient : ℕ → ℕ → ℕ
  coefficient i x = (form_at ns w i).coefficient x

  abbrev Wide : ℕ → Type 0
  Wide i = (x : ℕ) → ((form_at ns w i).coefficient x ≡ 0 → ⊥) → (x < length ns) × (w ≤ width_at ns x)

  wide_by : (i : ℕ) → i < length ns → w ≤ width_at ns i → (linear : Linear) → AllParts (λ a. Wide a.0) linear
      → (x : ℕ) → ((form_by w (form_at ns w) i linear).coefficient x ≡ 0 → ⊥) → (x < length ns) × (w ≤ width_at ns x)
  wide_by i b wide Atom h x some = elim (cases_Bool (x == i)) [
    | inl t ↦ let e : x ≡ i = eqb-true x i t in subst (λ j. (j < length ns) × (w ≤ width_at ns j)) (sym e) (b, wide)
    | inr f ↦ absurd (some (ap (λ t. if t then 1 else 0) f))
  ]
  wide_by i b wide (Number v) h x some = absurd (some refl)
  wide_by i b wide (Times a v) h x some = h x (λ e. some (ap (words.times w v) e ∙ no_times v))
    where
      no_times : (v : ℕ) → words.times w v 0 ≡ 0
      no_times v = let none : v * 0 ≡ 0 = omega arith in ap (λ n. n % 2 ^ w) none ∙ low
        where
          low : 0 % 2 ^ w ≡ 0
          low = mod-eq_of_lt (pow_pos w)
  wide_by i b wide (Plus a c) h x some = elim (cases_Bool ((form_at ns w a.0).coefficient x == 0)) [
    | inl t ↦ h.1 x (λ e. some ((λ j. words.plus w (eqb-true _ 0 t j) (e j)) ∙ low))
    | inr f ↦ h.0 x (eqb-false _ 0 f)
  ]
    where
      low : words.plus w 0 0 ≡ 0
      low = mod-eq_of_lt (pow_pos w)
  wide_by i b wide (Minus a c) h x some = elim (cases_Bool ((form_at ns w a.0).coefficient x == 0)) [
    | inl t ↦ h.1 x (λ e. some ((λ j. words.minus w (eqb-true _ 0 t j) (e j)) ∙ no_difference w))
    | inr f ↦ h.0 x (eqb-false _ 0 f)
  ]

  wide_below : (m i : ℕ) → i < m → i < length ns → w ≤ width_at ns i → Wide i
  wide_below zero i a b wide x some = absurd (omega arith)
  wide_below (suc m) i a b wide x some =
      let is = form_at-is ns sheet w i b in
      let wide_node : w ≤ node_width (width_at ns) (node_at ns i) = subst (λ n. w ≤ n) (width_at-is ns sheet i b) wide in
      wide_by i b wide (linearity ns (width_at ns) w (node_at ns i))
      (parts_weaker (IsLower (width_at ns) w i (node_width (width_at ns) (node_at ns i))) (λ p. Wide p.0)
      (λ p k. wide_below m p.0 (omega (arith, k.0)) (omega (arith, k.0)) (k.1 wide_node))
      (linearity ns (width_at ns) w (node_at ns i)) (linearity_parts ns (width_at ns) w i (node_at ns i) (sheet i b)))
      x (λ e. some (ap (λ form. form.coefficient x) is ∙ e))

  pub atoms_wide : (i : ℕ) → i < length ns → w ≤ width_at ns i → Wide i
  atoms_wide i b wide = wide_below (suc i) i (omega arith) b wide

-- the terms of a difference are terms over addresses
pub difference_are_terms : (ns : List Node) (a b : NodeId) → IsSheet ns → IsAddress ns a → IsAddress ns b → AreTerms ns (difference_terms ns a b)
difference_are_terms ns a b sheet first second =
    terms_all (difference_form ns a b).coefficient (λ p. IsAddress ns p.0 × (p.1 < 2 ^ 64)) (length ns)
    (λ x inside some. (
      wide_one x (elim (cases_Bool ((form_at ns 64 a.0).coefficient x == 0)) [
        | inl t ↦ atoms_wide ns sheet 64 b.0 second.0 (full b second) x (λ e. some ((λ j. words.minus 64 (eqb-true _ 0 t j) (e j)) ∙ no_difference 64))
        | inr f ↦ atoms_wide ns sheet 64 a.0 first.0 (full a first) x (eqb-false _ 0 f)
      ]),
      mod_below _ (2 ^ 64) (pow_pos 64),
    ))
  where
    full : (d : NodeId) → IsAddress ns d → 64 ≤ width_at ns d.0
    full d h = omega (arith, h.1)

    wide_one : (x : ℕ) → (x < length ns) × (64 ≤ width_at ns x) → IsAddress ns (record { 0 = x })
    wide_one x h = let ranged = width_ranged ns sheet x h.0 in (h.0, omega (arith, h.1, ranged.1))
