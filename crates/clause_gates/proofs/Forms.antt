-- What a normal form is: a clause with the value of its literals.
use Rattle.std.proofs.Common.{◌≡◌, ◌↔◌, ℕ, zero, suc, ◌+◌, ◌<◌, ◌==◌, ◌||◌, Bool, true, false, List, [], ◌∷◌, ◌++◌, Option, Some, None, refl, sym, ◌∙◌, ap, subst, arith, inl, inr, if◌then◌else◌, add-one, get_or, drop, drop-cons, length, take, ◌≤◌, append_assoc}
use Rattle.std.specs.Prelude.{nat_lt, not, map, MatchOption}
use Rattle.std.specs.List.{cons_option}
use Rattle.std.specs.List.Sorted.{IsStrictlyIncreasing}
use Rattle.std.specs.Option.{option_and_then, option_map}
use Rattle.std.proofs.lemmas.Bool.{cases_Bool, eqb-true}
use Rattle.std.proofs.lemmas.List.{drop_all, take_more}
use Rattle.std.proofs.lemmas.List.Elements.{filter_map-append}
use Rattle.clauses.specs.declared.clause.Lit.{Lit}
use Rattle.clauses.specs.Assignments.{IsClause, MeetsAll, clause_value, literal_value}
use Rattle.clause_gates.specs.NormalForms.{gathered, has_sign_of, inserted, normal_clauses, normal_form}

-- variables that rise from above n on
abbrev pub Above : ℕ → List Lit → Type 0
Above n [] = Unit {0}
Above n (l ∷ ls) = (n < l.var) × Above l.var ls

-- variables that rise
abbrev pub Rises : List Lit → Type 0
Rises [] = Unit {0}
Rises (l ∷ ls) = Above l.var ls

-- literals that rise, if there are some
abbrev pub IfRises : Option (List Lit) → Type 0
IfRises None = Unit {0}
IfRises (Some c) = Rises c

abbrev IfAbove : ℕ → Option (List Lit) → Type 0
IfAbove n None = Unit {0}
IfAbove n (Some c) = Above n c

map_above : (n : ℕ) (k : Lit) (o : Option (List Lit)) → n < k.var → IfAbove k.var o → IfAbove n (option_map (λ rest. k ∷ rest) o)
map_above n k None b h = tt
map_above n k (Some c) b h = (b, h)

map_rises : (k : Lit) (o : Option (List Lit)) → IfAbove k.var o → IfRises (option_map (λ rest. k ∷ rest) o)
map_rises k None h = tt
map_rises k (Some c) h = h

not_less : (a b : ℕ) → nat_lt a b ≡ false → (a == b) ≡ false → b < a
not_less a b l e = grind arith

less : (a b : ℕ) → nat_lt a b ≡ true → a < b
less a b l = grind arith

inserted_above : (n : ℕ) (l : Lit) (ks : List Lit) → n < l.var → Above n ks → IfAbove n (inserted l ks)
inserted_above n l [] b h = (b, tt)
inserted_above n l (k ∷ ks) b h = elim (cases_Bool (nat_lt k.var l.var)) [
  | inl t ↦ rw t (map_above n k (inserted l ks) h.0 (inserted_above k.var l ks (less k.var l.var t) h.1))
  | inr f ↦ elim (cases_Bool (k.var == l.var)) [
    | inl e ↦ elim (cases_Bool (has_sign_of k l)) [ inl s ↦ rw (f, e, s) h | inr s ↦ rw (f, e, s) tt ]
    | inr e ↦ rw (f, e) (b, (not_less k.var l.var f e, h.1))
  ]
]

pub inserted_rises : (l : Lit) (ks : List Lit) → Rises ks → IfRises (inserted l ks)
inserted_rises l [] h = tt
inserted_rises l (k ∷ ks) h = elim (cases_Bool (nat_lt k.var l.var)) [
  | inl t ↦ rw t (map_rises k (inserted l ks) (inserted_above k.var l ks (less k.var l.var t) h))
  | inr f ↦ elim (cases_Bool (k.var == l.var)) [
    | inl e ↦ elim (cases_Bool (has_sign_of k l)) [ inl s ↦ rw (f, e, s) h | inr s ↦ rw (f, e, s) tt ]
    | inr e ↦ rw (f, e) (not_less k.var l.var f e, h)
  ]
]

put_rises : (l : Lit) (o : Option (List Lit)) → IfRises o → IfRises (option_and_then (inserted l) o)
put_rises l None h = tt
put_rises l (Some c) h = inserted_rises l c h

gathered_rises : (o : Option (List Lit)) (ls : List Lit) → IfRises o → IfRises (gathered o ls)
gathered_rises o [] h = h
gathered_rises o (l ∷ ls) h = gathered_rises (option_and_then (inserted l) o) ls (put_rises l o h)

-- literals that rise are a clause
above_increasing : (n : ℕ) (ls : List Lit) → Above n ls → IsStrictlyIncreasing (n ∷ map (λ l. l.var) ls)
above_increasing n [] h k b = absurd (omega arith)
above_increasing n (l ∷ ls) h zero b = h.0
above_increasing n (l ∷ ls) h (suc k) b = rw add-one (rw add-one at (above_increasing l.var ls h.1 k (omega arith)))

pub increasing : (ls : List Lit) → Rises ls → IsClause ls
increasing [] h = λ k b. absurd (omega arith)
increasing (l ∷ ls) h = above_increasing l.var ls h

pub normal_increasing : (ls : List Lit) (c : List Lit) → normal_form ls ≡ Some c → IsClause c
unfolding normal_form
normal_increasing ls c e = increasing c (subst IfRises e (gathered_rises (Some []) ls tt))

gathered_none : (ls : List Lit) → gathered None ls ≡ None
gathered_none [] = refl
gathered_none (l ∷ ls) = gathered_none ls

module _ (v : ℕ → Bool) where
  -- the value of a clause, where there is one
  abbrev pub value_of : Option (List Lit) → Bool
  value_of None = true
  value_of (Some c) = clause_value v c

  or_true : (b : Bool) → b || true ≡ true
  or_true true = refl
  or_true false = refl

  or_swapped : (a b c : Bool) → (a || (b || c)) ≡ (b || (a || c))
  or_swapped true true c = refl
  or_swapped true false c = refl
  or_swapped false true c = refl
  or_swapped false false c = refl

  or_twice : (m n x c : Bool) → (if m then n else not n) ≡ true
      → ((if m then not x else x) || c) ≡ ((if n then not x else x) || ((if m then not x else x) || c))
  or_twice true true true c h = refl
  or_twice true true false c h = refl
  or_twice true false x c h = absurd (cc)
  or_twice false true x c h = absurd (cc)
  or_twice false false true c h = refl
  or_twice false false false c h = refl

  or_both : (m n x c : Bool) → (if m then n else not n) ≡ false
      → true ≡ ((if n then not x else x) || ((if m then not x else x) || c))
  or_both true true x c h = absurd (cc)
  or_both true false true c h = refl
  or_both true false false c h = refl
  or_both false true true c h = refl
  or_both false true false c h = refl
  or_both false false x c h = absurd (cc)

  map_value : (k : Lit) (o : Option (List Lit)) → value_of (option_map (λ rest. k ∷ rest) o) ≡ (literal_value v k || value_of o)
  map_value k None = sym (or_true (literal_value v k))
  map_value k (Some c) = refl

  pub inserted_value : (l : Lit) (ks : List Lit) → value_of (inserted l ks) ≡ (literal_value v l || clause_value v ks)
  inserted_value l [] = refl
  inserted_value l (k ∷ ks) = elim (cases_Bool (nat_lt k.var l.var)) [
    | inl t ↦ rw t (map_value k (inserted l ks) ∙ ap (λ (b : Bool). literal_value v k || b) (inserted_value l ks)
        ∙ or_swapped (literal_value v k) (literal_value v l) (clause_value v ks))
    | inr f ↦ elim (cases_Bool (k.var == l.var)) [
      | inl e ↦ elim (cases_Bool (has_sign_of k l)) [
        | inl s ↦ rw (f, e, s) (same (eqb-true k.var l.var e) s)
        | inr s ↦ rw (f, e, s) (opposite (eqb-true k.var l.var e) s)
      ]
      | inr e ↦ rw (f, e) refl
    ]
  ]
    where
      same : k.var ≡ l.var → has_sign_of k l ≡ true
          → clause_value v (k ∷ ks) ≡ (literal_value v l || clause_value v (k ∷ ks))
      same e s = rw (← ap v e) (or_twice k.neg l.neg (v k.var) (clause_value v ks) s)

      opposite : k.var ≡ l.var → has_sign_of k l ≡ false → true ≡ (literal_value v l || clause_value v (k ∷ ks))
      opposite e s = rw (← ap v e) (or_both k.neg l.neg (v k.var) (clause_value v ks) s)

  put_value : (l : Lit) (o : Option (List Lit)) → value_of (option_and_then (inserted l) o) ≡ (literal_value v l || value_of o)
  put_value l None = sym (or_true (literal_value v l))
  put_value l (Some c) = inserted_value l c

  gathered_value : (o : Option (List Lit)) (ls : List Lit) → value_of (gathered o ls) ≡ (value_of o || clause_value v ls)
  gathered_value o [] = or_false (value_of o)
    where
      or_false : (b : Bool) → b ≡ (b || false)
      or_false true = refl
      or_false false = refl
  gathered_value o (l ∷ ls) =
      gathered_value (option_and_then (inserted l) o) ls
      ∙ ap (λ (b : Bool). b || clause_value v ls) (put_value l o)
      ∙ moved (literal_value v l) (value_of o) (clause_value v ls)
    where
      moved : (a b c : Bool) → ((a || b) || c) ≡ (b || (a || c))
      moved true true c = refl
      moved true false c = refl
      moved false true c = refl
      moved false false c = refl

  -- the normal form has the value of the literals
  pub normal_value : (ls : List Lit) → value_of (normal_form ls) ≡ clause_value v ls
  unfolding normal_form
  normal_value ls = gathered_value (Some []) ls

  with_clause : (o : Option (List Lit)) (x : List Lit) (rest xs : List (List Lit)) → value_of o ≡ clause_value v x
      → (MeetsAll v rest ↔ MeetsAll v xs) → MeetsAll v (cons_option o rest) ↔ MeetsAll v (x ∷ xs)
  with_clause None x rest xs e h = (λ m. (sym e, h.0 m), λ m. h.1 m.1)
  with_clause (Some c) x rest xs e h = (λ m. (sym e ∙ m.0, h.0 m.1), λ m. (e ∙ m.0, h.1 m.1))

  -- clauses and their normal forms are met together
  pub normal_met : (cs : List (List Lit)) → MeetsAll v (normal_clauses cs) ↔ MeetsAll v cs
  normal_met [] = (λ m. m, λ m. m)
  normal_met (x ∷ xs) = with_clause (normal_form x) x (normal_clauses xs) xs (normal_value x) (normal_met xs)

-- a normal form is a clause with the value of the literals
abbrev pub IsFormOf : List Lit → Option (List Lit) → Type 0
IsFormOf ls o = MatchOption o ((v : ℕ → Bool) → clause_value v ls ≡ true)
    (λ c. IsClause c × ((v : ℕ → Bool) → clause_value v c ≡ clause_value v ls))

is_form : (ls : List Lit) (o : Option (List Lit)) → IfRises o → ((v : ℕ → Bool) → value_of v o ≡ clause_value v ls) → IsFormOf ls o
is_form ls None r e = λ v. sym (e v)
is_form ls (Some c) r e = (increasing c r, e)

pub normal_is_form : (ls : List Lit) → IsFormOf ls (normal_form ls)
unfolding normal_form
normal_is_form ls = is_form ls (normal_form ls) (gathered_rises (Some []) ls tt) (λ v. normal_value v ls)

-- where a literal has no place there is no normal form
pub gathered_stops : (kept lits : List Lit) (i : ℕ) (d : Lit) (whole : Option (List Lit)) → i < length lits
    → inserted (get_or lits i d) kept ≡ None → gathered (Some kept) (drop i lits) ≡ whole → whole ≡ None
gathered_stops kept lits i d whole b n e =
    sym e ∙ ap (gathered (Some kept)) (drop-cons lits i d b) ∙ ap (λ (o : Option (List Lit)). gathered o (drop (suc i) lits)) n
    ∙ gathered_none (drop (suc i) lits)

-- after the last literal there is one
pub gathered_ends : (kept lits : List Lit) (i : ℕ) (whole : Option (List Lit)) → length lits ≤ i
    → gathered (Some kept) (drop i lits) ≡ whole → whole ≡ Some kept
gathered_ends kept lits i whole b e = sym e ∙ ap (gathered (Some kept)) (drop_all i lits b)

-- clauses that are put behind others in two parts
pub pushed_parts : (a b c xs ys : List (List Lit)) → b ≡ a ++ normal_clauses xs → c ≡ b ++ normal_clauses ys
    → c ≡ a ++ normal_clauses (xs ++ ys)
pushed_parts a b c xs ys e f =
    f ∙ ap (λ (z : List (List Lit)). z ++ normal_clauses ys) e
    ∙ rw (filter_map-append normal_form xs ys, append_assoc) refl

-- one more clause behind others
pub pushed_more : (a b c rows : List (List Lit)) (i : ℕ) (x : List Lit) → i < length rows → get_or rows i x ≡ x
    → b ≡ a ++ normal_clauses (take i rows) → c ≡ b ++ normal_clauses (x ∷ []) → c ≡ a ++ normal_clauses (take (i + 1) rows)
pushed_more a b c rows i x h e p q =
    pushed_parts a b c (take i rows) (x ∷ []) p q
    ∙ ap (λ (z : List (List Lit)). a ++ normal_clauses z) (ap (λ (y : List Lit). take i rows ++ y ∷ []) (sym e) ∙ sym (take_more rows i x h))
