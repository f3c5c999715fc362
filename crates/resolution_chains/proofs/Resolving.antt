-- Marks of a clause that is resolved with another one are the marks of their resolvent.
use Rattle.std.proofs.Common.{◌≡◌, ◌≢◌, ◌⊎◌, ℕ, Bool, true, false, List, Option, Some, None, refl, sym, ◌∙◌, ap, subst, inl, inr, length, set}
use Rattle.std.specs.Prelude.{not}
use Rattle.std.specs.Option.{option_and_then}
use Rattle.std.proofs.lemmas.Bool.{cases_eq}
use Rattle.std.proofs.lemmas.List.{length-set}
use Rattle.clauses.specs.declared.clause.Lit.{Lit}
use Rattle.clauses.specs.Assignments.{IsClause}
use Rattle.clauses.specs.Resolvents.{IsResolvent, sign_in}
use Rattle.resolution_chains.specs.Marks.{IsBelow, all_marked, literal, resolved, resolved_by, sign_at, unmarked}
use Rattle.resolution_chains.proofs.Clauses.{clause_of, signs_of}
use Rattle.resolution_chains.proofs.Marking.{all_marked_goes, all_marked_has, all_marked_keeps, all_marked_length, all_marked_only, first_step, none_some, set_none, set_other, unmarked_cases, unmarked_goes}

-- the marks are the signs of a clause
abbrev pub Marks : List (Option Bool) → List Lit → Type 0
Marks m c = (x : ℕ) → sign_at m x ≡ sign_in c x

twice : (s : Bool) → not (not s) ≡ s
twice true = refl
twice false = refl

-- What resolving leaves: the variable had opposite signs, and now has none; the other marks are those of both.
pub record IsResolved (x : ℕ) (m : List (Option Bool)) (d : List Lit) (n : List (Option Bool)) : Type 0 where
  pub sign : Bool
  pub first : sign_at m x ≡ Some sign
  pub second : sign_in d x ≡ Some (not sign)
  pub gone : sign_at n x ≡ None
  pub left : (y : ℕ) (s : Bool) → y ≢ x → sign_at m y ≡ Some s → sign_at n y ≡ Some s
  pub right : (y : ℕ) (s : Bool) → y ≢ x → sign_in d y ≡ Some s → sign_at n y ≡ Some s
  pub only : (y : ℕ) (s : Bool) → sign_at n y ≡ Some s → (sign_at m y ≡ Some s) ⊎ (sign_in d y ≡ Some s)
  pub length : length n ≡ length m

-- the three steps: the mark is taken away, the clause is marked, and the other mark is taken away
three_steps : (x : ℕ) (m : List (Option Bool)) (d : List Lit) (k n p : List (Option Bool)) (s : Bool) → IsBelow (length m) d
    → unmarked m (literal x s) ≡ Some k → all_marked k d ≡ Some n → unmarked n (literal x (not s)) ≡ Some p → IsResolved x m d p
three_steps x m d k n p s b one two three =
    let u = unmarked_cases m (literal x s) k one in
    let w = unmarked_cases n (literal x (not s)) p three in
    let at_x : sign_at m x ≡ Some s = u.0 ∙ ap Some (twice s) in
    let new_x : sign_at n x ≡ Some (not s) = w.0 ∙ ap Some (twice (not s)) in
    let k_x : sign_at k x ≡ None = ap (λ (q : List (Option Bool)). sign_at q x) u.1 ∙ set_none m x in
    let size : length k ≡ length m = ap length u.1 ∙ length-set m x None in
    let below : IsBelow (length k) d = subst (λ (i : ℕ). IsBelow i d) (sym size) b in
    let k_other : (y : ℕ) → y ≢ x → sign_at k y ≡ sign_at m y =
    λ y other. ap (λ (q : List (Option Bool)). sign_at q y) u.1 ∙ set_other m x y other in
    let p_other : (y : ℕ) → y ≢ x → sign_at p y ≡ sign_at n y =
    λ y other. ap (λ (q : List (Option Bool)). sign_at q y) w.1 ∙ set_other n x y other in
    let p_x : sign_at p x ≡ None = ap (λ (q : List (Option Bool)). sign_at q x) w.1 ∙ set_none n x in
    record {
      sign = s;
      first = at_x;
      second = of_second k_x (all_marked_only k d n x (not s) below two new_x);
      gone = p_x;
      left = λ y t other h. p_other y other ∙ all_marked_keeps k d n y t two (k_other y other ∙ h);
      right = λ y t other h. p_other y other ∙ all_marked_has k d n y t below two h;
      only = λ y t h. elim (cases_eq y x) [
        | inl e ↦ absurd (none_some t (sym (subst (λ (z : ℕ). sign_at p z ≡ None) (sym e) p_x) ∙ h))
        | inr other ↦ elim (all_marked_only k d n y t below two (sym (p_other y other) ∙ h)) [
          | inl old ↦ inl (sym (k_other y other) ∙ old)
          | inr new ↦ inr new
        ]
      ];
      length = ap length w.1 ∙ length-set n x None ∙ all_marked_length k d n two ∙ size;
    }
  where
    of_second : {o q : Option Bool} → o ≡ None → (o ≡ Some (not s)) ⊎ (q ≡ Some (not s)) → q ≡ Some (not s)
    of_second none (inl h) = absurd (none_some (not s) (sym none ∙ h))
    of_second none (inr h) = h

-- what is resolved is so
pub is_resolved : (m : List (Option Bool)) (x : ℕ) (d : List Lit) (p : List (Option Bool)) → IsBelow (length m) d
    → resolved m x d ≡ Some p → IsResolved x m d p
is_resolved m x d p b h =
    let s = first_step (resolved_by m x d) (sign_at m x) p h in
    let k = first_step (λ q. option_and_then (λ r. unmarked r (literal x (not s.0))) (all_marked q d)) (unmarked m (literal x s.0)) p s.2 in
    let n = first_step (λ r. unmarked r (literal x (not s.0))) (all_marked k.0 d) p k.2 in
    three_steps x m d k.0 n.0 p s.0 b k.1 n.1 n.2

-- and then the marks are those of a resolvent
pub resolvent_of : (m : List (Option Bool)) (c : List Lit) (x : ℕ) (d : List Lit) (p : List (Option Bool)) → Marks m c
    → IsResolved x m d p → IsResolvent x c d (clause_of 0 p)
resolvent_of m c x d p same r = record {
  sign = r.sign;
  first = sym (same x) ∙ r.first;
  second = r.second;
  gone = signs_of p x ∙ r.gone;
  left = λ y s other h. signs_of p y ∙ r.left y s other (same y ∙ h);
  right = λ y s other h. signs_of p y ∙ r.right y s other h;
  only = λ y s h. elim (r.only y s (sym (signs_of p y) ∙ h)) [ inl a ↦ inl (sym (same y) ∙ a) | inr b ↦ inr b ];
}

-- signs that are the same wherever one of them is there
same_sign : (a b : Option Bool) → ((s : Bool) → a ≡ Some s → b ≡ Some s) → ((s : Bool) → b ≡ Some s → a ≡ Some s) → a ≡ b
same_sign None None f g = refl
same_sign None (Some s) f g = g s refl
same_sign (Some s) b f g = sym (f s refl)

-- two resolvents have the same signs
pub one_resolvent : (m : List (Option Bool)) (c : List Lit) (x : ℕ) (d r : List Lit) (p : List (Option Bool)) → Marks m c
    → IsResolved x m d p → IsResolvent x c d r → Marks p r
one_resolvent m c x d r p same a b y = elim (cases_eq y x) [
  | inl e ↦ subst (λ (z : ℕ). sign_at p z ≡ sign_in r z) (sym e) (a.gone ∙ sym b.gone)
  | inr other ↦ same_sign (sign_at p y) (sign_in r y)
      (λ s h. elim (a.only y s h) [ inl f ↦ b.left y s other (sym (same y) ∙ f) | inr g ↦ b.right y s other g ])
      (λ s h. elim (b.only y s h) [ inl f ↦ a.left y s other (same y ∙ f) | inr g ↦ a.right y s other g ])
]

different : (s : Bool) → Some s ≡ Some (not s) → ⊥
different true h = cc
different false h = cc

-- where there is a resolvent, the marks can be resolved
pub resolved_goes : (m : List (Option Bool)) (c : List Lit) (x : ℕ) (d r : List Lit) → Marks m c → IsClause d → IsBelow (length m) d
    → IsResolvent x c d r → (p : List (Option Bool)) × (resolved m x d ≡ Some p)
resolved_goes m c x d r same h b a =
    let s = a.sign in
    let at_x : sign_at m x ≡ Some s = same x ∙ a.first in
    let one : unmarked m (literal x s) ≡ Some (set m x None) = unmarked_goes m (literal x s) (at_x ∙ ap Some (sym (twice s))) in
    let below : IsBelow (length (set m x None)) d = subst (λ (i : ℕ). IsBelow i d) (sym (length-set m x None)) b in
    let two = all_marked_goes (set m x None) d h below apart in
    let new_x : sign_at two.0 x ≡ Some (not s) = all_marked_has (set m x None) d two.0 x (not s) below two.1 a.second in
    let three : unmarked two.0 (literal x (not s)) ≡ Some (set two.0 x None) =
    unmarked_goes two.0 (literal x (not s)) (new_x ∙ ap Some (sym (twice (not s)))) in
    (set two.0 x None, rw (at_x, one, two.1) three)
  where
    apart : (y : ℕ) (t : Bool) → sign_at (set m x None) y ≡ Some t → sign_in d y ≡ Some (not t) → ⊥
    apart y t p q = elim (cases_eq y x) [
      | inl e ↦ none_some t (sym (subst (λ (z : ℕ). sign_at (set m x None) z ≡ None) (sym e) (set_none m x)) ∙ p)
      | inr other ↦
          let left : sign_in r y ≡ Some t = a.left y t other (sym (same y) ∙ sym (set_other m x y other) ∙ p) in
          let right : sign_in r y ≡ Some (not t) = a.right y (not t) other q in
          different t (sym left ∙ right)
    ]
