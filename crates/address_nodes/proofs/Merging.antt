-- The terms of a difference of forms, gathered from the terms of both, the highest first.
use Rattle.std.proofs.Common.{◌≡◌, ℕ, zero, suc, ◌+◌, ◌<◌, ◌≤◌, ◌==◌, List, [], ◌∷◌, ◌++◌, true, false, length, refl, sym, ◌∙◌, ap, subst, arith, inl, inr, if◌then◌else◌, append_assoc}
use Rattle.std.specs.Prelude.{max}
use Rattle.std.proofs.lemmas.Bool.{cases_Bool, cases_lt, eq-eqb, ne_eqb}
use Rattle.std.proofs.lemmas.List.{append-nil}
use Rattle.insn_semantics.specs.Words.{minus}
use Rattle.address_nodes.specs.Multiples.{Term}
use Rattle.address_nodes.specs.Differences.{terms_below}
use Rattle.address_nodes.specs.Heads.{head_number, head_weight, without_head}
use Rattle.address_nodes.proofs.Terms.{by_terms, no_difference, terms_none, terms_some, terms_zero}

-- without its first term, where it has this atom, a list is no longer
without_length : (k : ℕ) (ps : List Term) → length (without_head k ps) ≤ length ps
without_length k [] = omega arith
without_length k (p ∷ ps) = elim (cases_Bool (p.0.0 == k)) [ inl t ↦ rw t (omega arith) | inr f ↦ rw f (omega arith) ]

without_first : (k : ℕ) (ps : List Term) → head_number ps ≡ k + 1 → length (without_head k ps) < length ps
without_first k [] h = absurd (omega arith)
without_first k (p ∷ ps) h = let same : p.0.0 ≡ k = omega arith in rw (eq-eqb p.0.0 k same) (omega arith)

pub fewer : (ps qs : List Term) (k : ℕ) → max (head_number ps) (head_number qs) ≡ k + 1
    → length (without_head k ps) + length (without_head k qs) < length ps + length qs
fewer ps qs k h = elim (cases_lt (head_number ps) (k + 1)) [
  | inl lower ↦
      let second : head_number qs ≡ k + 1 = omega arith in
      omega (arith, without_length k ps, without_first k qs second)
  | inr upper ↦
      let first : head_number ps ≡ k + 1 = omega arith in
      omega (arith, without_first k ps first, without_length k qs)
]

module _ (c : ℕ → ℕ) where
  pub head_below : (m : ℕ) → head_number (terms_below c m) ≤ m
  head_below zero = rw (terms_none c) (omega arith)
  head_below (suc m) = by_terms c (λ ps. head_number ps ≤ suc m) m (λ e. omega (arith, head_below m)) (λ some. omega arith)

  -- what the first term says of the coefficient at an atom that is no lower
  pub record IsSplit (m k : ℕ) (ps : List Term) : Type 0 where
    pub weight : head_weight k ps ≡ c k
    pub rest : without_head k ps ≡ terms_below c k
    pub above : (x : ℕ) → k < x → x < m → c x ≡ 0

  not_first : (k : ℕ) (ps : List Term) → head_number ps ≤ k → (head_weight k ps ≡ 0) × (without_head k ps ≡ ps)
  not_first k [] h = (refl, refl)
  not_first k (p ∷ ps) h =
      let other : (p.0.0 == k) ≡ false = ne_eqb p.0.0 k (λ e. absurd (omega (arith, e, h))) in
      (ap (λ t. if t then p.1 else 0) other, ap (λ t. if t then ps else p ∷ ps) other)

  pub split_terms : (m k : ℕ) → k < m → head_number (terms_below c m) ≤ k + 1 → IsSplit m k (terms_below c m)
  split_terms zero k b = absurd (omega arith)
  split_terms (suc m) k b = by_terms c (λ ps. head_number ps ≤ k + 1 → IsSplit (suc m) k ps) m
      (λ none h. elim (cases_lt k m) [
        | inl lower ↦
            let s : IsSplit m k (terms_below c m) = split_terms m k lower h in
            record { weight = s.weight; rest = s.rest; above = λ x l u. below_next m none s.above x l u }
        | inr upper ↦
            let same : k ≡ m = omega arith in
            let n = not_first k (terms_below c m) (omega (arith, head_below m, same)) in
            record { weight = n.0 ∙ sym (ap c same ∙ none); rest = n.1 ∙ ap (terms_below c) (sym same); above = λ x l u. absurd (omega arith) }
      ])
      (λ some h.
      let same : m ≡ k = omega arith in
      let yes : (m == k) ≡ true = eq-eqb m k same in
      record {
        weight = ap (λ t. if t then c m else 0) yes ∙ ap c same;
        rest = ap (λ t. if t then terms_below c m else (record { 0 = m }, c m) ∷ terms_below c m) yes ∙ ap (terms_below c) same;
        above = λ x l u. absurd (omega arith);
      })
    where
      below_next : (m : ℕ) → c m ≡ 0 → ((x : ℕ) → k < x → x < m → c x ≡ 0) → (x : ℕ) → k < x → x < suc m → c x ≡ 0
      below_next m none h x l u = elim (cases_lt x m) [ inl lower ↦ h x l lower | inr upper ↦ let same : x ≡ m = omega arith in ap c same ∙ none ]

  -- where all coefficients from k on are 0 there is no term above
  pub terms_skip : (k m : ℕ) → k ≤ m → ((x : ℕ) → k ≤ x → x < m → c x ≡ 0) → terms_below c m ≡ terms_below c k
  terms_skip k zero b h = let none : 0 ≡ k = omega arith in ap (terms_below c) none
  terms_skip k (suc m) b h = elim (cases_lt m k) [
    | inl end ↦ let same : suc m ≡ k = omega arith in ap (terms_below c) same
    | inr more ↦ terms_zero c m (h m more (omega arith)) ∙ terms_skip k m more (λ x l u. h x l (omega arith))
  ]

  pub none_below : (m : ℕ) → head_number (terms_below c m) ≡ 0 → (x : ℕ) → x < m → c x ≡ 0
  none_below zero = λ h x b. absurd (omega arith)
  none_below (suc m) = by_terms c (λ ps. head_number ps ≡ 0 → (x : ℕ) → x < suc m → c x ≡ 0) m
      (λ none h x b. elim (cases_lt x m) [ inl lower ↦ none_below m h x lower | inr upper ↦ let same : x ≡ m = omega arith in ap c same ∙ none ])
      (λ some h x b. absurd (omega (arith, h)))

module _ (f g : ℕ → ℕ) where
  abbrev pub D : ℕ → ℕ
  D x = minus 64 (f x) (g x)

  -- of two lists of terms, those that are left are the terms below m, and those above are done
  pub record IsMerged (n : ℕ) (first second terms : List Term) : Type 0 where
    pub m : ℕ
    pub first_is : first ≡ terms_below f m
    pub second_is : second ≡ terms_below g m
    pub done : terms ++ terms_below (λ x. minus 64 (f x) (g x)) m ≡ terms_below (λ x. minus 64 (f x) (g x)) n

  pub merged_start : (n : ℕ) (first second : List Term) → first ≡ terms_below f n → second ≡ terms_below g n → IsMerged n first second []
  merged_start n first second h k = record { m = n; first_is = h; second_is = k; done = refl }

  no_terms : (x : ℕ) → f x ≡ 0 → g x ≡ 0 → minus 64 (f x) (g x) ≡ 0
  no_terms x h k = (λ i. minus 64 (h i) (k i)) ∙ no_difference 64

  pub merged_end : (n : ℕ) (first second terms : List Term) → max (head_number first) (head_number second) ≡ 0 → IsMerged n first second terms
      → terms ≡ terms_below (λ x. minus 64 (f x) (g x)) n
  merged_end n first second terms h is =
      let a : head_number (terms_below f is.m) ≡ 0 = subst (λ ps. head_number ps ≡ 0) is.first_is (omega arith) in
      let b : head_number (terms_below g is.m) ≡ 0 = subst (λ ps. head_number ps ≡ 0) is.second_is (omega arith) in
      let none : terms_below (λ x. minus 64 (f x) (g x)) is.m ≡ [] =
      terms_skip (λ x. minus 64 (f x) (g x)) 0 is.m (omega arith) (λ x l u. no_terms x (none_below f is.m a x u) (none_below g is.m b x u))
      ∙ terms_none (λ x. minus 64 (f x) (g x)) in
      sym (append-nil terms) ∙ ap (λ ps. terms ++ ps) (sym none) ∙ is.done

  module _ (n : ℕ) (first second terms : List Term) (k : ℕ) (end : max (head_number first) (head_number second) ≡ k + 1) (is : IsMerged n first second terms) where
    below_end : k < is.m
    below_end =
        let a : head_number first ≤ is.m = subst (λ ps. head_number ps ≤ is.m) (sym is.first_is) (head_below f is.m) in
        let b : head_number second ≤ is.m = subst (λ ps. head_number ps ≤ is.m) (sym is.second_is) (head_below g is.m) in
        omega arith

    first_split : IsSplit f is.m k first
    first_split =
        subst (IsSplit f is.m k) (sym is.first_is)
        (split_terms f is.m k below_end (subst (λ ps. head_number ps ≤ k + 1) is.first_is (omega arith)))

    second_split : IsSplit g is.m k second
    second_split =
        subst (IsSplit g is.m k) (sym is.second_is)
        (split_terms g is.m k below_end (subst (λ ps. head_number ps ≤ k + 1) is.second_is (omega arith)))

    to_atom : terms_below (λ x. minus 64 (f x) (g x)) is.m ≡ terms_below (λ x. minus 64 (f x) (g x)) (suc k)
    to_atom =
        terms_skip (λ x. minus 64 (f x) (g x)) (suc k) is.m (omega (arith, below_end))
        (λ x l u. no_terms x (first_split.above x (omega arith) u) (second_split.above x (omega arith) u))

    weight : minus 64 (head_weight k first) (head_weight k second) ≡ minus 64 (f k) (g k)
    weight = λ i. minus 64 (first_split.weight i) (second_split.weight i)

    pub merged_some : (minus 64 (head_weight k first) (head_weight k second) ≡ 0 → ⊥)
        → IsMerged n (without_head k first) (without_head k second) (terms ++ (record { 0 = k }, minus 64 (head_weight k first) (head_weight k second)) ∷ [])
    merged_some some = record {
      m = k;
      first_is = first_split.rest;
      second_is = second_split.rest;
      done = append_assoc terms ((record { 0 = k }, minus 64 (head_weight k first) (head_weight k second)) ∷ []) (terms_below (λ x. minus 64 (f x) (g x)) k)
          ∙ ap (λ ps. terms ++ ps)
          ((λ i. (record { 0 = k }, weight i) ∷ terms_below (λ x. minus 64 (f x) (g x)) k)
          ∙ sym (to_atom ∙ terms_some (λ x. minus 64 (f x) (g x)) k (λ e. some (weight ∙ e))))
          ∙ is.done;
    }

    pub merged_none : minus 64 (head_weight k first) (head_weight k second) ≡ 0 → IsMerged n (without_head k first) (without_head k second) terms
    merged_none none = record {
      m = k;
      first_is = first_split.rest;
      second_is = second_split.rest;
      done = ap (λ ps. terms ++ ps) (sym (to_atom ∙ terms_zero (λ x. minus 64 (f x) (g x)) k (sym weight ∙ none))) ∙ is.done;
    }
