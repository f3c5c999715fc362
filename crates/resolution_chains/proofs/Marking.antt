-- What marks say after literals are marked, and after marks are taken away.
use Rattle.std.proofs.Common.{◌≡◌, ◌≢◌, ◌⊎◌, ℕ, zero, suc, ◌+◌, ◌<◌, ◌==◌, Bool, true, false, List, [], ◌∷◌, Option, Some, None, refl, sym, ◌∙◌, ap, subst, arith, inl, inr, length, set}
use Rattle.std.specs.Prelude.{not, cond, count_by, is_some}
use Rattle.std.proofs.lemmas.List.Recursion.{is_count_by}
use Rattle.std.specs.Option.{option_and_then}
use Rattle.std.proofs.lemmas.Bool.{cases_Bool, cases_eq, eq-eqb, eqb-false, eqb-true}
use Rattle.std.proofs.lemmas.List.{get_or-set_other, get_or-set_same, length-set}
use Rattle.clauses.specs.declared.clause.Lit.{Lit}
use Rattle.clauses.specs.Assignments.{IsClause}
use Rattle.clauses.specs.Resolvents.{sign_in}
use Rattle.resolution_chains.specs.Marks.{IsBelow, all_marked, all_unmarked, is_sign, marked, marked_over, sign_at, unmarked}
use Rattle.resolution_chains.proofs.Clauses.{not_in_rest, rest_is_clause}

pub some_same : {X : Type 0} (a b : X) → Some a ≡ Some b → a ≡ b
some_same a b h = cc

pub none_some : {X : Type 0} (a : X) → None ≡ Some a → ⊥
none_some a h = cc

pub sign-is : (s : Bool) (o : Option Bool) → is_sign s o ≡ true → o ≡ Some s
sign-is true None h = cc
sign-is false None h = cc
sign-is true (Some true) h = refl
sign-is true (Some false) h = cc
sign-is false (Some true) h = cc
sign-is false (Some false) h = refl

pub is-sign : (s : Bool) (o : Option Bool) → o ≡ Some s → is_sign s o ≡ true
is-sign s o h = subst (λ (p : Option Bool). is_sign s p ≡ true) (sym h) (own s)
  where
    own : (s : Bool) → is_sign s (Some s) ≡ true
    own true = refl
    own false = refl

-- a literal that was marked anew, or stood marked
over_cases : (m : List (Option Bool)) (l : Lit) (o : Option Bool) (n : List (Option Bool)) → marked_over m l o ≡ Some n
    → ((o ≡ None) × (n ≡ set m l.var (Some (not l.neg)))) ⊎ ((o ≡ Some (not l.neg)) × (n ≡ m))
over_cases m l None n h = inl (refl, sym (some_same (set m l.var (Some (not l.neg))) n h))
over_cases m l (Some s) n h = elim (cases_Bool (is_sign (not l.neg) (Some s))) [
  | inl t ↦ let same : Some m ≡ Some n = rw t at h in inr (sign-is (not l.neg) (Some s) t, sym (some_same m n same))
  | inr f ↦ let none : None ≡ Some n = rw f at h in absurd (none_some n none)
]

marked_cases : (m : List (Option Bool)) (l : Lit) (n : List (Option Bool)) → marked m l ≡ Some n
    → ((sign_at m l.var ≡ None) × (n ≡ set m l.var (Some (not l.neg)))) ⊎ ((sign_at m l.var ≡ Some (not l.neg)) × (n ≡ m))
marked_cases m l n h = over_cases m l (sign_at m l.var) n h

-- marks stay
pub marked_keeps : (m : List (Option Bool)) (l : Lit) (n : List (Option Bool)) (x : ℕ) (s : Bool) → marked m l ≡ Some n
    → sign_at m x ≡ Some s → sign_at n x ≡ Some s
marked_keeps m l n x s h at_x = elim (marked_cases m l n h) [
  | inl p ↦ elim (cases_eq x l.var) [
    | inl e ↦ absurd (none_some s (sym (subst (λ (y : ℕ). sign_at m y ≡ None) (sym e) p.0) ∙ at_x))
    | inr other ↦ ap (λ (k : List (Option Bool)). sign_at k x) p.1 ∙ get_or-set_other m l.var x (Some (not l.neg)) None other ∙ at_x
  ]
  | inr p ↦ ap (λ (k : List (Option Bool)). sign_at k x) p.1 ∙ at_x
]

-- the literal is marked
pub marked_has : (m : List (Option Bool)) (l : Lit) (n : List (Option Bool)) → l.var < length m → marked m l ≡ Some n
    → sign_at n l.var ≡ Some (not l.neg)
marked_has m l n b h = elim (marked_cases m l n h) [
  | inl p ↦ ap (λ (k : List (Option Bool)). sign_at k l.var) p.1 ∙ get_or-set_same m l.var (Some (not l.neg)) None b
  | inr p ↦ ap (λ (k : List (Option Bool)). sign_at k l.var) p.1 ∙ p.0
]

-- and nothing else
pub marked_other : (m : List (Option Bool)) (l : Lit) (n : List (Option Bool)) (x : ℕ) → marked m l ≡ Some n → x ≢ l.var
    → sign_at n x ≡ sign_at m x
marked_other m l n x h other = elim (marked_cases m l n h) [
  | inl p ↦ ap (λ (k : List (Option Bool)). sign_at k x) p.1 ∙ get_or-set_other m l.var x (Some (not l.neg)) None other
  | inr p ↦ ap (λ (k : List (Option Bool)). sign_at k x) p.1
]

pub marked_length : (m : List (Option Bool)) (l : Lit) (n : List (Option Bool)) → marked m l ≡ Some n → length n ≡ length m
marked_length m l n h = elim (marked_cases m l n h) [
  | inl p ↦ ap length p.1 ∙ length-set m l.var (Some (not l.neg))
  | inr p ↦ ap length p.1
]

-- a literal can be marked where its negation is not
over_goes : (m : List (Option Bool)) (l : Lit) (o : Option Bool) → (o ≡ Some l.neg → ⊥)
    → (n : List (Option Bool)) × (marked_over m l o ≡ Some n)
over_goes m l None free = (set m l.var (Some (not l.neg)), refl)
over_goes m l (Some s) free = elim (cases_Bool (is_sign (not l.neg) (Some s))) [
  | inl t ↦ (m, rw t refl)
  | inr f ↦ absurd (free (ap Some (opposite s l.neg f)))
]
  where
    opposite : (s n : Bool) → is_sign (not n) (Some s) ≡ false → s ≡ n
    opposite true true h = refl
    opposite true false h = cc
    opposite false true h = cc
    opposite false false h = refl

pub marked_goes : (m : List (Option Bool)) (l : Lit) → (sign_at m l.var ≡ Some l.neg → ⊥)
    → (n : List (Option Bool)) × (marked m l ≡ Some n)
marked_goes m l free = over_goes m l (sign_at m l.var) free

-- the first of two steps
pub first_step : {X Y : Type 0} (f : X → Option Y) (o : Option X) (y : Y) → option_and_then f o ≡ Some y
    → (x : X) × (o ≡ Some x) × (f x ≡ Some y)
first_step f None y h = absurd (none_some y h)
first_step f (Some x) y h = (x, refl, h)

-- All literals of a clause.

pub all_marked_length : (m : List (Option Bool)) (c : List Lit) (n : List (Option Bool)) → all_marked m c ≡ Some n → length n ≡ length m
all_marked_length m [] n h = ap length (sym (some_same m n h))
all_marked_length m (l ∷ ls) n h =
    let s = first_step (λ k. all_marked k ls) (marked m l) n h in
    all_marked_length s.0 ls n s.2 ∙ marked_length m l s.0 s.1

pub all_marked_keeps : (m : List (Option Bool)) (c : List Lit) (n : List (Option Bool)) (x : ℕ) (s : Bool) → all_marked m c ≡ Some n
    → sign_at m x ≡ Some s → sign_at n x ≡ Some s
all_marked_keeps m [] n x s h at_x = ap (λ (k : List (Option Bool)). sign_at k x) (sym (some_same m n h)) ∙ at_x
all_marked_keeps m (l ∷ ls) n x s h at_x =
    let t = first_step (λ k. all_marked k ls) (marked m l) n h in
    all_marked_keeps t.0 ls n x s t.2 (marked_keeps m l t.0 x s t.1 at_x)

-- the rest of a clause is below the marks' length
rest_below : (m : List (Option Bool)) (l : Lit) (ls : List Lit) (k : List (Option Bool)) → marked m l ≡ Some k → IsBelow (length m) (l ∷ ls) → IsBelow (length k) ls
rest_below m l ls k h b = subst (λ (i : ℕ). IsBelow i ls) (sym (marked_length m l k h)) b.1

pub all_marked_has : (m : List (Option Bool)) (c : List Lit) (n : List (Option Bool)) (x : ℕ) (s : Bool) → IsBelow (length m) c
    → all_marked m c ≡ Some n → sign_in c x ≡ Some s → sign_at n x ≡ Some s
all_marked_has m [] n x s b h at_x = absurd (none_some s at_x)
all_marked_has m (l ∷ ls) n x s b h at_x =
    let t = first_step (λ k. all_marked k ls) (marked m l) n h in
    elim (cases_Bool (l.var == x)) [
      | inl same ↦
          let here : Some (not l.neg) ≡ Some s = rw same at at_x in
          all_marked_keeps t.0 ls n x s t.2
          (subst (λ (y : ℕ). sign_at t.0 y ≡ Some s) (eqb-true l.var x same) (marked_has m l t.0 b.0 t.1 ∙ here))
      | inr other ↦
          let there : sign_in ls x ≡ Some s = rw other at at_x in
          all_marked_has t.0 ls n x s (rest_below m l ls t.0 t.1 b) t.2 there
    ]

pub all_marked_only : (m : List (Option Bool)) (c : List Lit) (n : List (Option Bool)) (x : ℕ) (s : Bool) → IsBelow (length m) c
    → all_marked m c ≡ Some n → sign_at n x ≡ Some s → (sign_at m x ≡ Some s) ⊎ (sign_in c x ≡ Some s)
all_marked_only m [] n x s b h at_x = inl (ap (λ (k : List (Option Bool)). sign_at k x) (some_same m n h) ∙ at_x)
all_marked_only m (l ∷ ls) n x s b h at_x =
    let t = first_step (λ k. all_marked k ls) (marked m l) n h in
    elim (cases_Bool (l.var == x)) [
      | inl same ↦
          let e : l.var ≡ x = eqb-true l.var x same in
          let mark : sign_at n x ≡ Some (not l.neg) =
          all_marked_keeps t.0 ls n x (not l.neg) t.2 (subst (λ (y : ℕ). sign_at t.0 y ≡ Some (not l.neg)) e (marked_has m l t.0 b.0 t.1)) in
          inr (rw same (sym mark ∙ at_x))
      | inr other ↦ elim (all_marked_only t.0 ls n x s (rest_below m l ls t.0 t.1 b) t.2 at_x) [
        | inl old ↦ inl (sym (marked_other m l t.0 x t.1 (λ e. eqb-false l.var x other (sym e))) ∙ old)
        | inr new ↦ inr (rw other new)
      ]
    ]

-- a clause can be marked where none of its literals has its negation marked
pub all_marked_goes : (m : List (Option Bool)) (c : List Lit) → IsClause c → IsBelow (length m) c
    → ((x : ℕ) (s : Bool) → sign_at m x ≡ Some s → sign_in c x ≡ Some (not s) → ⊥)
    → (n : List (Option Bool)) × (all_marked m c ≡ Some n)
all_marked_goes m [] h b free = (m, refl)
all_marked_goes m (l ∷ ls) h b free =
    let t = marked_goes m l (λ e. free l.var l.neg e (rw (eq-eqb l.var l.var refl) refl)) in
    let r = all_marked_goes t.0 ls (rest_is_clause l ls h) (rest_below m l ls t.0 t.1 b) (apart t.0 t.1) in
    (r.0, rw t.1 r.1)
  where
    apart : (k : List (Option Bool)) → marked m l ≡ Some k → (x : ℕ) (s : Bool) → sign_at k x ≡ Some s → sign_in ls x ≡ Some (not s) → ⊥
    apart k e x s at_x in_x = elim (cases_Bool (l.var == x)) [
      | inl same ↦ none_some (not s) (sym (subst (λ (y : ℕ). sign_in ls y ≡ None) (eqb-true l.var x same) (not_in_rest l ls h)) ∙ in_x)
      | inr other ↦ free x s (sym (marked_other m l k x e (λ q. eqb-false l.var x other (sym q))) ∙ at_x) (rw other in_x)
    ]

-- Marks that are taken away.

pub unmarked_cases : (m : List (Option Bool)) (l : Lit) (n : List (Option Bool)) → unmarked m l ≡ Some n
    → (sign_at m l.var ≡ Some (not l.neg)) × (n ≡ set m l.var None)
unmarked_cases m l n h = elim (cases_Bool (is_sign (not l.neg) (sign_at m l.var))) [
  | inl t ↦ let same : Some (set m l.var None) ≡ Some n = rw t at h in (sign-is (not l.neg) (sign_at m l.var) t, sym (some_same (set m l.var None) n same))
  | inr f ↦ let none : None ≡ Some n = rw f at h in absurd (none_some n none)
]

pub unmarked_goes : (m : List (Option Bool)) (l : Lit) → sign_at m l.var ≡ Some (not l.neg) → unmarked m l ≡ Some (set m l.var None)
unmarked_goes m l h = rw (is-sign (not l.neg) (sign_at m l.var) h) refl

pub set_none : (m : List (Option Bool)) (x : ℕ) → sign_at (set m x None) x ≡ None
set_none [] x = refl
set_none (o ∷ m) zero = refl
set_none (o ∷ m) (suc x) = set_none m x

pub set_other : (m : List (Option Bool)) (x y : ℕ) → y ≢ x → sign_at (set m x None) y ≡ sign_at m y
set_other m x y other = get_or-set_other m x y None None other

-- taking the literals of a clause away from marks with its signs leaves none
pub all_unmarked_goes : (m : List (Option Bool)) (c : List Lit) → IsClause c → ((x : ℕ) → sign_at m x ≡ sign_in c x)
    → (n : List (Option Bool)) × (all_unmarked m c ≡ Some n) × ((x : ℕ) → sign_at n x ≡ None)
all_unmarked_goes m [] h same = (m, refl, same)
all_unmarked_goes m (l ∷ ls) h same =
    let first : sign_at m l.var ≡ Some (not l.neg) = same l.var ∙ rw (eq-eqb l.var l.var refl) refl in
    let r = all_unmarked_goes (set m l.var None) ls (rest_is_clause l ls h) rest in
    (r.0, rw (unmarked_goes m l first) r.1, r.2)
  where
    rest : (x : ℕ) → sign_at (set m l.var None) x ≡ sign_in ls x
    rest x = elim (cases_Bool (l.var == x)) [
      | inl e ↦ subst (λ (y : ℕ). sign_at (set m l.var None) y ≡ sign_in ls y) (eqb-true l.var x e)
          (set_none m l.var ∙ sym (not_in_rest l ls h))
      | inr f ↦ set_other m l.var x (λ q. eqb-false l.var x f (sym q)) ∙ same x ∙ rw f refl
    ]

-- where that leaves none, the signs were those of the clause
pub all_unmarked_signs : (m : List (Option Bool)) (c : List Lit) (n : List (Option Bool)) → all_unmarked m c ≡ Some n
    → ((x : ℕ) → sign_at n x ≡ None) → (x : ℕ) → sign_at m x ≡ sign_in c x
all_unmarked_signs m [] n h clean x = ap (λ (k : List (Option Bool)). sign_at k x) (some_same m n h) ∙ clean x
all_unmarked_signs m (l ∷ ls) n h clean x =
    let t = first_step (λ k. all_unmarked k ls) (unmarked m l) n h in
    let u = unmarked_cases m l t.0 t.1 in
    elim (cases_Bool (l.var == x)) [
      | inl e ↦ rw e (subst (λ (y : ℕ). sign_at m y ≡ Some (not l.neg)) (eqb-true l.var x e) u.0)
      | inr f ↦
          let other : x ≢ l.var = λ q. eqb-false l.var x f (sym q) in
          rw f (sym (set_other m l.var x other) ∙ ap (λ (k : List (Option Bool)). sign_at k x) (sym u.1)
          ∙ all_unmarked_signs t.0 ls n t.2 clean x)
    ]

-- how many variables are marked
abbrev marked_count : List (Option Bool) → ℕ
marked_count [] = 0
marked_count (None ∷ m) = marked_count m
marked_count (Some s ∷ m) = 1 + marked_count m

count_step : (o : Option Bool) (m : List (Option Bool)) → marked_count (o ∷ m) ≡ cond (is_some o) (1 + marked_count m) (marked_count m)
count_step None m = refl
count_step (Some s) m = refl

counted : (m : List (Option Bool)) → marked_count m ≡ count_by is_some m
counted m = is_count_by marked_count is_some refl count_step m

none_counted : (m : List (Option Bool)) → marked_count m ≡ 0 → (x : ℕ) → sign_at m x ≡ None
none_counted [] h x = refl
none_counted (None ∷ m) h zero = refl
none_counted (None ∷ m) h (suc x) = none_counted m h x
none_counted (Some s ∷ m) h x = absurd (omega arith)

counts_none : (m : List (Option Bool)) → ((x : ℕ) → sign_at m x ≡ None) → marked_count m ≡ 0
counts_none [] h = refl
counts_none (None ∷ m) h = counts_none m (λ x. h (suc x))
counts_none (Some s ∷ m) h = absurd (none_some s (sym (h 0)))

-- no variable is marked exactly where none is counted
pub count_clean : (m : List (Option Bool)) → count_by is_some m ≡ 0 → (x : ℕ) → sign_at m x ≡ None
count_clean m h = none_counted m (counted m ∙ h)

pub clean_count : (m : List (Option Bool)) → ((x : ℕ) → sign_at m x ≡ None) → count_by is_some m ≡ 0
clean_count m h = sym (counted m) ∙ counts_none m h

-- a mark stands below the marks' length
marked_below : (m : List (Option Bool)) (x : ℕ) (s : Bool) → sign_at m x ≡ Some s → x < length m
marked_below [] x s h = absurd (none_some s h)
marked_below (o ∷ m) zero s h = omega arith
marked_below (o ∷ m) (suc x) s h = let rest : x < length m = marked_below m x s h in omega arith

-- so what can be taken away does
pub all_unmarked_below : (m : List (Option Bool)) (c : List Lit) (n : List (Option Bool)) → all_unmarked m c ≡ Some n
    → IsBelow (length m) c
all_unmarked_below m [] n h = cc
all_unmarked_below m (l ∷ ls) n h =
    let t = first_step (λ k. all_unmarked k ls) (unmarked m l) n h in
    let u = unmarked_cases m l t.0 t.1 in
    let same : length t.0 ≡ length m = ap length u.1 ∙ length-set m l.var None in
    (marked_below m l.var (not l.neg) u.0, subst (λ (i : ℕ). IsBelow i ls) same (all_unmarked_below t.0 ls n t.2))
