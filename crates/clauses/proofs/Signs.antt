-- An assignment meets a clause exactly where it gives a variable the sign that the clause has it with.
use Rattle.std.proofs.Common.{◌≡◌, ◌≢◌, ℕ, zero, suc, ◌+◌, ◌<◌, ◌==◌, Bool, true, false, List, [], ◌∷◌, Some, None, refl, sym, ◌∙◌, ap, subst, arith, inl, inr, if◌then◌else◌, add-one}
use Rattle.std.specs.Prelude.{map, not}
use Rattle.std.specs.List.Sorted.{IsStrictlyIncreasing}
use Rattle.std.proofs.lemmas.Bool.{cases_Bool, eq-eqb, eqb-false, eqb-true, ne_eqb}
use Rattle.clauses.specs.declared.clause.Lit.{Lit}
use Rattle.clauses.specs.Assignments.{IsClause, MeetsClause, clause_value, literal_value}
use Rattle.clauses.specs.Resolvents.{IsResolvent, sign_in}

-- what rises still does without its first number
rest_rises : (n : ℕ) (xs : List ℕ) → IsStrictlyIncreasing (n ∷ xs) → IsStrictlyIncreasing xs
rest_rises n xs h k b = rw add-one (rw (add-one, add-one) at (h (k + 1) (omega arith)))

-- a variable below all of a clause is not in it
below_all : (n : ℕ) (ls : List Lit) → IsStrictlyIncreasing (n ∷ map (λ l. l.var) ls) → sign_in ls n ≡ None
below_all n [] h = refl
below_all n (l ∷ ls) h =
    let first : n < l.var = h 0 (omega arith) in
    let rest : IsStrictlyIncreasing (l.var ∷ map (λ l. l.var) ls) = rest_rises n (l.var ∷ map (λ l. l.var) ls) h in
    rw (ne_eqb l.var n (λ e. omega arith)) (below_all n ls (skip n l.var (map (λ l. l.var) ls) first rest))
  where
    skip : (n m : ℕ) (xs : List ℕ) → n < m → IsStrictlyIncreasing (m ∷ xs) → IsStrictlyIncreasing (n ∷ xs)
    skip n m [] lower h k b = absurd (omega arith)
    skip n m (x ∷ xs) lower h zero b = let next : m < x = h 0 (omega arith) in omega arith
    skip n m (x ∷ xs) lower h (suc k) b = rw add-one (rw add-one at (h (suc k) b))

-- a literal that is true gives its variable its sign
sign_of : (b n : Bool) → (if n then not b else b) ≡ true → not n ≡ b
sign_of true true h = h
sign_of false true h = refl
sign_of true false h = refl
sign_of false false h = sym h

sign_true : (b n : Bool) → not n ≡ b → (if n then not b else b) ≡ true
sign_true true true h = h
sign_true false true h = refl
sign_true true false h = refl
sign_true false false h = sym h

some_same : (a b : Bool) → Some a ≡ Some b → a ≡ b
some_same a b h = cc

none_some : (b : Bool) → None ≡ Some b → ⊥
none_some b h = cc

-- a clause that is met has a variable with the sign of the assignment
pub sign_of_met : (v : ℕ → Bool) (c : List Lit) → IsClause c → MeetsClause v c → (x : ℕ) × (sign_in c x ≡ Some (v x))
sign_of_met v [] h met = cc
sign_of_met v (l ∷ ls) h met = elim (cases_Bool (literal_value v l)) [
  | inl t ↦ (l.var, rw (eq-eqb l.var l.var refl) (ap Some (sign_of (v l.var) l.neg t)))
  | inr f ↦
      let rest : clause_value v ls ≡ true = rw f at met in
      let found : (x : ℕ) × (sign_in ls x ≡ Some (v x)) = sign_of_met v ls (rest_rises l.var (map (λ l. l.var) ls) h) rest in
      let other : l.var ≢ found.0 = λ e. none_some (v found.0) (sym (subst (λ (x : ℕ). sign_in ls x ≡ None) e (below_all l.var ls h)) ∙ found.1) in
      (found.0, rw (ne_eqb l.var found.0 other) found.1)
]

-- and the other way round
pub met_of_sign : (v : ℕ → Bool) (c : List Lit) (x : ℕ) → sign_in c x ≡ Some (v x) → MeetsClause v c
met_of_sign v [] x h = absurd (none_some (v x) h)
met_of_sign v (l ∷ ls) x h = elim (cases_Bool (l.var == x)) [
  | inl t ↦
      let here : Some (not l.neg) ≡ Some (v x) = rw t at h in
      let same : l.var ≡ x = eqb-true l.var x t in
      let sign : not l.neg ≡ v l.var = some_same (not l.neg) (v x) here ∙ ap v (sym same) in
      rw (sign_true (v l.var) l.neg sign) refl
  | inr f ↦
      let there : sign_in ls x ≡ Some (v x) = rw f at h in
      let rest : clause_value v ls ≡ true = met_of_sign v ls x there in
      elim (cases_Bool (literal_value v l)) [ inl t ↦ rw t refl | inr n ↦ rw n rest ]
]

opposite : (b : Bool) → b ≡ not b → ⊥
opposite true h = cc
opposite false h = cc

-- an assignment that meets two clauses meets their resolvent
pub resolvent_met : (v : ℕ → Bool) (x : ℕ) (c d e : List Lit) → IsClause c → IsClause d → IsResolvent x c d e
    → MeetsClause v c → MeetsClause v d → MeetsClause v e
resolvent_met v x c d e hc hd r mc md =
    let a = sign_of_met v c hc mc in
    let b = sign_of_met v d hd md in
    elim (cases_Bool (a.0 == x)) [
      | inr f ↦ met_of_sign v e a.0 (r.left a.0 (v a.0) (eqb-false a.0 x f) a.1)
      | inl t ↦ elim (cases_Bool (b.0 == x)) [
        | inr g ↦ met_of_sign v e b.0 (r.right b.0 (v b.0) (eqb-false b.0 x g) b.1)
        | inl u ↦
            let at_c : sign_in c x ≡ Some (v x) = subst (λ (y : ℕ). sign_in c y ≡ Some (v y)) (eqb-true a.0 x t) a.1 in
            let at_d : sign_in d x ≡ Some (v x) = subst (λ (y : ℕ). sign_in d y ≡ Some (v y)) (eqb-true b.0 x u) b.1 in
            let one : r.sign ≡ v x = some_same r.sign (v x) (sym r.first ∙ at_c) in
            let two : not r.sign ≡ v x = some_same (not r.sign) (v x) (sym r.second ∙ at_d) in
            absurd (opposite r.sign (one ∙ sym two))
      ]
    ]
