-- Named equations hold, and so do combinations: what is left of a sum is the sum of the nodes' values.
use Rattle.std.proofs.Common.{◌≡◌, ◌⊎◌, ℕ, zero, suc, ◌+◌, ◌*◌, ◌%◌, ◌^◌, ◌<◌, ◌≤◌, ◌==◌, ◌||◌, Bool, true, false, List, [], ◌∷◌, ◌++◌, Option, Some, None, refl, sym, ◌∙◌, ap, subst, inl, inr, arith, if◌then◌else◌}
use Rattle.std.specs.Prelude.{ℤ, pos, negsuc, nat_lt, not, slice_get, slice_index, IsTrue}
use Rattle.std.specs.List.{AllByRecursion, list_any}
use Rattle.std.specs.Option.{option_and_then}
use Rattle.std.proofs.lemmas.Bool.{cases_Bool, eqb-true, ltb-false, or_cases}
use Rattle.std.proofs.lemmas.Nat.{mod_below, pow_pos}
use Rattle.std.proofs.Math.Nat.{mod-mod}
use Rattle.clauses.specs.declared.clause.Lit.{Lit}
use Rattle.clauses.specs.Assignments.{MeetsClause}
use Rattle.node_values.specs.declared.node.NodeId.{NodeId}
use Rattle.node_values.specs.Sheets.{value_at, width_at}
use Rattle.node_values.specs.Values.{Environment}
use Rattle.node_forms.specs.Sums.{SameWord}
use Rattle.node_forms.proofs.Residues.{same_add, same_number}
use Rattle.form_sums.specs.Sums.{AreWide, sum_constant, sum_of}
use Rattle.form_sums.proofs.Constants.{constant_of_sum}
use Rattle.resolution_chains.specs.Chains.{numbered}
use Rattle.resolution_chains.proofs.Chaining.{at_number}
use Rattle.resolution_chains.proofs.Marking.{first_step, none_some, some_same}
use Rattle.refutation_rules.specs.declared.equation.Equation.{Equation}
use Rattle.refutation_rules.specs.Holding.{GivenHolds, IsHeld, IsTrueEquation, Reads}
use Rattle.refutation_rules.specs.Known.{Known, Ground, are_equal, equation_named, equation_of_clause, is_of}
use Rattle.refutation_rules.specs.Steps.{HaveEqualArguments}
use Rattle.refutation_rules.specs.Sums.{IsRest, all_less, combined, if_wide, in_front, less}
use Rattle.refutation_rules.proofs.Differences.{sum_append, vanishes, wide_append}
use Rattle.refutation_rules.proofs.Lookups.{any_item, at_item, map_step, of_two}

-- an equation that is wide enough is the same, and wide
if_wide_is : (s : Ground) (w : ℕ) (p q : Equation) → if_wide s w p ≡ Some q → (p ≡ q) × (w ≤ width_at s.nodes p.left.0)
if_wide_is s w p q h = elim (cases_Bool (nat_lt (width_at s.nodes p.left.0) w)) [
  | inl t ↦ let none : None ≡ Some q = rw t at h in absurd (none_some q none)
  | inr f ↦ let some : Some p ≡ Some q = rw f at h in (some_same p q some, ltb-false (width_at s.nodes p.left.0) w f)
]

module _ (e : Environment) (v : ℕ → Bool) (s : Ground) (reads : Reads e v s) where
  -- the equation of a clause that is met
  clause_holds : (c : List Lit) (p : Equation) → MeetsClause v c → equation_of_clause s c ≡ Some p → IsTrueEquation e s.nodes p
  clause_holds [] p m h = absurd (none_some p h)
  clause_holds (l ∷ []) p m h = of_sign l.neg l.var m h
    where
      of_sign : (n : Bool) (x : ℕ) → ((if n then not (v x) else v x) || false) ≡ true → (if n then None else s.equality_at x) ≡ Some p
          → IsTrueEquation e s.nodes p
      of_sign true x m h = absurd (none_some p h)
      of_sign false x m h = reads.equalities x p h (elim (or_cases (v x) false m) [ inl t ↦ t | inr f ↦ absurd (let n : false ≡ true = f in cc) ])
  clause_holds (l ∷ (j ∷ ls)) p m h = absurd (none_some p h)

  module _ (k : Known) (held : IsHeld e v s k) where
    -- a named equation
    named_holds : (name : ℤ) (p : Equation) → equation_named s k name ≡ Some p → IsTrueEquation e s.nodes p
    named_holds (pos n) p h =
        let c = first_step (equation_of_clause s) (numbered k.clauses n) p h in
        clause_holds c.0 p (at_number (MeetsClause v) k.clauses n c.0 held.clauses c.1) c.2
    named_holds (negsuc n) p h =
        let g = first_step (λ (o : Option Equation). o) (slice_get k.gave n) p h in
        subst (GivenHolds e s.nodes) g.2 (at_item (GivenHolds e s.nodes) k.gave n g.0 held.gave g.1)

    -- nodes that are known to be equal have one width and one value
    abbrev pub AreSame : ℕ → ℕ → Type 0
    AreSame i j = (width_at s.nodes i ≡ width_at s.nodes j) × (value_at e s.nodes i ≡ value_at e s.nodes j)

    of_equation : (i j : ℕ) (p : Equation) → IsTrueEquation e s.nodes p
        → ((p.left.0 ≡ i) × (p.right.0 ≡ j)) ⊎ ((p.left.0 ≡ j) × (p.right.0 ≡ i)) → AreSame i j
    of_equation i j p holds (inl h) = (
      subst (λ (n : ℕ). width_at s.nodes n ≡ width_at s.nodes j) h.0 (holds.width ∙ ap (width_at s.nodes) h.1),
      subst (λ (n : ℕ). value_at e s.nodes n ≡ value_at e s.nodes j) h.0 (holds.value ∙ ap (value_at e s.nodes) h.1),
    )
    of_equation i j p holds (inr h) = (
      sym (subst (λ (n : ℕ). width_at s.nodes n ≡ width_at s.nodes i) h.0 (holds.width ∙ ap (width_at s.nodes) h.1)),
      sym (subst (λ (n : ℕ). value_at e s.nodes n ≡ value_at e s.nodes i) h.0 (holds.value ∙ ap (value_at e s.nodes) h.1)),
    )

    pub equal_same : (i j : ℕ) → IsTrue (are_equal s k i j) → AreSame i j
    equal_same i j h = elim (or_cases (i == j) (list_any (λ c. is_of i j (equation_of_clause s c)) k.clauses || list_any (is_of i j) k.gave) h) [
      | inl one ↦ let same : i ≡ j = eqb-true i j one in (ap (width_at s.nodes) same, ap (value_at e s.nodes) same)
      | inr known ↦ elim (or_cases (list_any (λ c. is_of i j (equation_of_clause s c)) k.clauses) (list_any (is_of i j) k.gave) known) [
        | inl a ↦ any_item (λ (c : List Lit). is_of i j (equation_of_clause s c)) (MeetsClause v) (AreSame i j) k.clauses held.clauses
            (λ c m t. let p = of_two i j (equation_of_clause s c) t in of_equation i j p.0 (clause_holds c p.0 m p.1) p.2) a
        | inr a ↦ any_item (is_of i j) (GivenHolds e s.nodes) (AreSame i j) k.gave held.gave
            (λ o m t. let p = of_two i j o t in of_equation i j p.0 (subst (GivenHolds e s.nodes) p.1 m) p.2) a
      ]
    ]

    -- and so by place
    pub places_same : (xs ys : List ℕ) → HaveEqualArguments s k xs ys → (place : ℕ) → AreSame (slice_index xs place) (slice_index ys place)
    places_same [] [] h place = (refl, refl)
    places_same (a ∷ xs) (b ∷ ys) h zero = equal_same a b h.0
    places_same (a ∷ xs) (b ∷ ys) h (suc place) = places_same xs ys h.1 place
    places_same [] (b ∷ ys) h place = absurd h
    places_same (a ∷ xs) [] h place = absurd h

    -- the equations of a combination at w
    abbrev IsWideEquation : ℕ → ℕ × Equation → Type 0
    IsWideEquation w t = IsTrueEquation e s.nodes t.1 × (w ≤ width_at s.nodes t.1.left.0)

    combined_hold : (w : ℕ) (parts : List (ℕ × ℤ)) (ts : List (ℕ × Equation)) → combined s k w parts ≡ Some ts
        → AllByRecursion (IsWideEquation w) ts
    combined_hold w [] ts h = subst (AllByRecursion (IsWideEquation w)) (some_same [] ts h) tt
    combined_hold w (part ∷ parts) ts h =
        let p = first_step (in_front part.0 (combined s k w parts)) (option_and_then (if_wide s w) (equation_named s k part.1)) ts h in
        let q = first_step (if_wide s w) (equation_named s k part.1) p.0 p.1 in
        let wide = if_wide_is s w q.0 p.0 q.2 in
        let rest = map_step (λ (us : List (ℕ × Equation)). (part.0, p.0) ∷ us) (combined s k w parts) ts p.2 in
        let one : IsWideEquation w (part.0, p.0) =
        subst (λ (x : Equation). IsWideEquation w (part.0, x)) wide.0 (named_holds part.1 q.0 q.1, wide.1) in
        subst (AllByRecursion (IsWideEquation w)) rest.2 (one, combined_hold w parts rest.0 rest.1)

    all_less_wide : (w : ℕ) (ts : List (ℕ × Equation)) → AllByRecursion (IsWideEquation w) ts → AreWide s.nodes w (all_less ts)
    all_less_wide w [] h = tt
    all_less_wide w (t ∷ ts) h =
        ((h.0.0.left, h.0.1), ((h.0.0.right, omega (arith, h.0.0.width, h.0.1)), all_less_wide w ts h.1))

    all_less_zero : (w : ℕ) → w ≤ 64 → (ts : List (ℕ × Equation)) → AllByRecursion (IsWideEquation w) ts
        → SameWord w (sum_of (value_at e s.nodes) (all_less ts)) 0
    all_less_zero w narrow [] h = refl
    all_less_zero w narrow (t ∷ ts) h =
        let x : ℕ = value_at e s.nodes t.1.left.0 in
        let rest : ℕ = sum_of (value_at e s.nodes) (all_less ts) in
        let equal : value_at e s.nodes t.1.right.0 ≡ x = sym h.0.0.value in
        same_number w (sum_of (value_at e s.nodes) (all_less (t ∷ ts))) ((less t.0 * x + t.0 * x) + rest)
        (gather (less t.0 * x) t.0 (value_at e s.nodes t.1.right.0) x rest equal)
        ∙ same_add w (less t.0 * x + t.0 * x) 0 rest 0 (vanishes w narrow t.0 x) (all_less_zero w narrow ts h.1)
      where
        gather : (a c y x rest : ℕ) → y ≡ x → a + (c * y + rest) ≡ (a + c * x) + rest
        gather a c y x rest h = ap (λ (z : ℕ). a + (c * z + rest)) h ∙ omega arith

    -- what is left of a sum is the sum of the values, modulo 2^w
    pub rest_is : (w : ℕ) (sum : List (ℕ × NodeId)) (parts : List (ℕ × ℤ)) (c : ℕ) → 0 < w → w ≤ 64 → AreWide s.nodes w sum
        → IsRest s k w sum parts c → SameWord w (sum_of (value_at e s.nodes) sum) c × (c < 2 ^ w)
    rest_is w sum parts c positive narrow wide rest =
        let ts : List (ℕ × Equation) = rest.equations in
        let f : ℕ → ℕ = value_at e s.nodes in
        let hold = combined_hold w parts ts rest.named in
        let whole = constant_of_sum e s.nodes w (sum ++ all_less ts) reads.sheet positive
        (wide_append s.nodes w sum (all_less ts) wide (all_less_wide w ts hold)) rest.left.0 in
        let constant : ℕ = sum_constant s.nodes w (sum ++ all_less ts) in
        let parts_are : SameWord w (sum_of f sum + 0) (sum_of f (sum ++ all_less ts)) =
        same_add w (sum_of f sum) (sum_of f sum) 0 (sum_of f (all_less ts)) refl (sym (all_less_zero w narrow ts hold))
        ∙ same_number w (sum_of f sum + sum_of f (all_less ts)) (sum_of f (sum ++ all_less ts)) (sym (sum_append f sum (all_less ts))) in (
          same_number w (sum_of f sum) (sum_of f sum + 0) (omega arith) ∙ parts_are ∙ whole
              ∙ sym (mod-mod constant (2 ^ w)) ∙ ap (λ (n : ℕ). n % 2 ^ w) (sym rest.left.1),
          subst (λ (n : ℕ). n < 2 ^ w) (sym rest.left.1) (mod_below constant (2 ^ w) (pow_pos w)),
        )
