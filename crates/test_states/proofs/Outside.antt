-- The least of the named addresses that lie in no region.
use Rattle.std.proofs.Common.{◌≡◌, ◌⊎◌, inl, inr, ℕ, ◌≤◌, ◌==◌, Bool, true, false, ◌||◌, List, [], ◌∷◌, Option, None, Some, min, refl, sym, ◌∙◌, ap, subst, arith}
use Rattle.std.specs.List.{list_any}
use Rattle.std.proofs.lemmas.Bool.{cases_Bool, cases_lt, eqb-true, eq-eqb, false≢true, or_cases}
use Rattle.memory_spans.specs.declared.region.Region.{Region}
use Rattle.test_states.specs.Choosing.{is_outside, least_outside, lesser}

-- the address stands in a pair
abbrev pub is_named : List (ℕ × ℕ) → ℕ → Bool
is_named pairs at = list_any (λ named. named.0 == at) pairs

module _ (regions : List Region) where
  -- where none is found, none lies outside
  pub none_outside : (found : Option ℕ) (pairs : List (ℕ × ℕ)) → least_outside regions found pairs ≡ None
      → (found ≡ None) × ((at : ℕ) → is_named pairs at ≡ true → is_outside regions at ≡ false)
  none_outside found [] e = (e, λ at named. absurd (false≢true named))
  none_outside found (p ∷ ps) e = elim (cases_Bool (is_outside regions p.0)) [
    | inl out ↦ (let h : least_outside regions (Some (lesser found p.0)) ps ≡ None = rw out at e in
        let no : Some (lesser found p.0) ≡ None = (none_outside (Some (lesser found p.0)) ps h).0 in absurd (cc))
    | inr inside ↦ (let h : least_outside regions found ps ≡ None = rw inside at e in
        let rest = none_outside found ps h in (
          rest.0,
          λ at named. elim (or_cases (p.0 == at) (is_named ps at) named) [
            | inl here ↦ subst (λ (x : ℕ). is_outside regions x ≡ false) (eqb-true p.0 at here) inside
            | inr later ↦ rest.1 at later
          ],
        ))
  ]

  -- the least one, where one was found before
  pub record IsLeast (found : Option ℕ) (pairs : List (ℕ × ℕ)) (least : ℕ) : Type 0 where
    pub origin : (found ≡ Some least) ⊎ ((is_named pairs least ≡ true) × (is_outside regions least ≡ true))
    pub before : (f : ℕ) → found ≡ Some f → least ≤ f
    pub lowest : (at : ℕ) → is_named pairs at ≡ true → is_outside regions at ≡ true → least ≤ at

  either_of : (found : Option ℕ) (at least : ℕ) → Some (lesser found at) ≡ Some least → (found ≡ Some least) ⊎ (at ≡ least)
  either_of None at least e = inr (cc)
  either_of (Some f) at least e = let m : min f at ≡ least = cc in elim (cases_lt at f) [
    | inl less ↦ inr (omega arith)
    | inr not_less ↦ inl (let s : f ≡ least = omega arith in ap Some s)
  ]

  lesser_at : (found : Option ℕ) (at : ℕ) → lesser found at ≤ at
  lesser_at None at = omega arith
  lesser_at (Some f) at = omega arith

  lesser_found : (found : Option ℕ) (at f : ℕ) → found ≡ Some f → lesser found at ≤ f
  lesser_found None at f e = cc
  lesser_found (Some g) at f e = let same : g ≡ f = cc in omega arith

  or_first : (b c : Bool) → b ≡ true → (b || c) ≡ true
  or_first true c h = refl
  or_first false c h = absurd (false≢true h)

  or_second : (b c : Bool) → c ≡ true → (b || c) ≡ true
  or_second true c h = refl
  or_second false c h = h

  named_first : (p : ℕ × ℕ) (ps : List (ℕ × ℕ)) (at : ℕ) → p.0 ≡ at → is_named (p ∷ ps) at ≡ true
  named_first p ps at same = or_first (p.0 == at) (is_named ps at) (eq-eqb p.0 at same)

  pub least_is : (found : Option ℕ) (pairs : List (ℕ × ℕ)) (least : ℕ) → least_outside regions found pairs ≡ Some least → IsLeast found pairs least
  least_is found [] least e = record {
    origin = inl e;
    before = λ f was. (let s : Some least ≡ Some f = sym e ∙ was in let t : least ≡ f = cc in omega arith);
    lowest = λ at named. absurd (false≢true named);
  }
  least_is found (p ∷ ps) least e = elim (cases_Bool (is_outside regions p.0)) [
    | inl out ↦ (let h : least_outside regions (Some (lesser found p.0)) ps ≡ Some least = rw out at e in
        let rest = least_is (Some (lesser found p.0)) ps least h in
        let here : least ≤ lesser found p.0 = rest.before (lesser found p.0) refl in
        record {
          origin = elim rest.origin [
            | inl was ↦ elim (either_of found p.0 least was) [
              | inl earlier ↦ inl earlier
              | inr this ↦ inr (named_first p ps least this, subst (λ (x : ℕ). is_outside regions x ≡ true) this out)
            ]
            | inr later ↦ inr (or_second (p.0 == least) (is_named ps least) later.0, later.1)
          ];
          before = λ f was. omega (arith, here, lesser_found found p.0 f was);
          lowest = λ at named outside. elim (or_cases (p.0 == at) (is_named ps at) named) [
            | inl this ↦ omega (arith, here, lesser_at found p.0, eqb-true p.0 at this)
            | inr later ↦ rest.lowest at later outside
          ];
        })
    | inr inside ↦ (let h : least_outside regions found ps ≡ Some least = rw inside at e in
        let rest = least_is found ps least h in
        record {
          origin = elim rest.origin [
            | inl was ↦ inl was
            | inr later ↦ inr (or_second (p.0 == least) (is_named ps least) later.0, later.1)
          ];
          before = rest.before;
          lowest = λ at named outside. elim (or_cases (p.0 == at) (is_named ps at) named) [
            | inl this ↦ absurd (false≢true (sym inside ∙ subst (λ (x : ℕ). is_outside regions x ≡ true) (sym (eqb-true p.0 at this)) outside))
            | inr later ↦ rest.lowest at later outside
          ];
        })
  ]
