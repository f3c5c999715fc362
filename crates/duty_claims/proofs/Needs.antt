-- What nodes need.
use Rattle.std.proofs.Common.{◌≡◌, ℕ, zero, suc, ◌<◌, ◌==◌, ◌||◌, Bool, true, false, List, [], ◌∷◌, length, refl, sym, ◌∙◌, ap, subst, arith, inl, inr}
use Rattle.std.specs.List.{AllByRecursion, list_any}
use Rattle.std.proofs.lemmas.Bool.{cases_Bool, eq-eqb, eqb-true}
use Rattle.node_values.specs.declared.node.Node.{Node}
use Rattle.node_values.specs.Nodes.{arguments}
use Rattle.node_values.specs.Sheets.{IsSheet, node_at}
use Rattle.node_values.proofs.Lower.{IsLocal, from_lower-is}
use Rattle.node_values.proofs.SheetLaws.{at_arguments}
use Rattle.duty_claims.specs.Needs.{Needs, is_needed_by}

-- two tests that agree at each of a list
any_same : (f g : ℕ → Bool) (xs : List ℕ) → AllByRecursion (λ j. f j ≡ g j) xs → list_any f xs ≡ list_any g xs
any_same f g [] h = refl
any_same f g (x ∷ xs) h = rw (h.0, any_same f g xs h.1) refl

-- a test that one of a list passes
any_one : (f : ℕ → Bool) (xs : List ℕ) → list_any f xs ≡ true → (P : ℕ → Type 0) → AllByRecursion P xs
    → (x : ℕ) × (f x ≡ true) × P x
any_one f [] h P all = absurd (cc)
any_one f (x ∷ xs) h P all = elim (cases_Bool (f x)) [
  | inl t ↦ (x, t, all.0)
  | inr n ↦ any_one f xs (rw n at h) P all.1
]

-- tests of which one implies the other
any_more : (f g : ℕ → Bool) (xs : List ℕ) → AllByRecursion (λ x. f x ≡ true → g x ≡ true) xs → list_any f xs ≡ true → list_any g xs ≡ true
any_more f g [] all h = h
any_more f g (x ∷ xs) all h = elim (cases_Bool (f x)) [
  | inl t ↦ rw (all.0 t) refl
  | inr n ↦ later (g x) (list_any g xs) (any_more f g xs all.1 (rw n at h))
]
  where
    later : (a b : Bool) → b ≡ true → (a || b) ≡ true
    later true b h = refl
    later false b h = h

module _ (ns : List Node) (sheet : IsSheet ns) where
  -- a node needs what it is and what its arguments need
  pub needed-is : (k i : ℕ) → i < length ns
      → is_needed_by ns k i ≡ ((i == k) || list_any (is_needed_by ns k) (arguments (node_at ns i)))
  unfolding is_needed_by
  needed-is k i b =
      from_lower-is false (λ needed j. (j == k) || list_any needed (arguments (node_at ns j))) (length ns) local i b
    where
      local : IsLocal (λ needed j. (j == k) || list_any needed (arguments (node_at ns j))) (length ns)
      local f g j j' same =
          ap (λ (c : Bool). (j == k) || c)
          (any_same f g (arguments (node_at ns j)) (at_arguments ns sheet (λ m. f m ≡ g m) j j' same))

  pub needs_itself : (i : ℕ) → i < length ns → Needs ns i i
  needs_itself i b = needed-is i i b ∙ rw (eq-eqb i i refl) refl

  -- what a needed node needs is needed
  needs_through : (bound r i k : ℕ) → r < bound → r < length ns → Needs ns r i → Needs ns i k → Needs ns r k
  needs_through zero r i k a b p q = absurd (omega arith)
  needs_through (suc bound) r i k a b p q =
      let how : ((r == i) || list_any (is_needed_by ns i) (arguments (node_at ns r))) ≡ true = sym (needed-is i r b) ∙ p in
      elim (cases_Bool (r == i)) [
        | inl t ↦ subst (λ (j : ℕ). Needs ns j k) (sym (eqb-true r i t)) q
        | inr n ↦
            let later : list_any (is_needed_by ns k) (arguments (node_at ns r)) ≡ true =
            any_more (is_needed_by ns i) (is_needed_by ns k) (arguments (node_at ns r))
            (at_arguments ns sheet (λ j. is_needed_by ns i j ≡ true → is_needed_by ns k j ≡ true) r b
            (λ j j' s. needs_through bound j i k (omega arith) (omega arith) s q))
            (rw n at how) in
            needed-is k r b ∙ either (r == k) (list_any (is_needed_by ns k) (arguments (node_at ns r))) later
      ]
    where
      either : (a b : Bool) → b ≡ true → (a || b) ≡ true
      either true b h = refl
      either false b h = h

  pub needs_go_on : (r i k : ℕ) → r < length ns → Needs ns r i → Needs ns i k → Needs ns r k
  needs_go_on r i k b p q = needs_through (suc r) r i k (omega arith) b p q

  -- what holds of a node and of the arguments of all that it needs holds of all that it needs
  pub needed_have : (P : ℕ → Type 0) → ((i : ℕ) → i < length ns → P i → AllByRecursion P (arguments (node_at ns i)))
      → (bound r k : ℕ) → r < bound → r < length ns → P r → Needs ns r k → P k
  needed_have P closed zero r k a b p q = absurd (omega arith)
  needed_have P closed (suc bound) r k a b p q =
      let how : ((r == k) || list_any (is_needed_by ns k) (arguments (node_at ns r))) ≡ true = sym (needed-is k r b) ∙ q in
      elim (cases_Bool (r == k)) [
        | inl t ↦ subst P (eqb-true r k t) p
        | inr n ↦
            let one = any_one (is_needed_by ns k) (arguments (node_at ns r)) (rw n at how) (λ j. P j × (j < r))
            (both (arguments (node_at ns r)) (closed r b p) (at_arguments ns sheet (λ j. j < r) r b (λ j j'. j'))) in
            needed_have P closed bound one.0 k (omega (arith, one.2.1)) (omega (arith, one.2.1)) one.2.0 one.1
      ]
    where
      both : (xs : List ℕ) → AllByRecursion P xs → AllByRecursion (λ j. j < r) xs → AllByRecursion (λ j. P j × (j < r)) xs
      both [] p q = tt
      both (x ∷ xs) p q = ((p.0, q.0), both xs p.1 q.1)
