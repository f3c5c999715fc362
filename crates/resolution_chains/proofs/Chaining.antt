-- Chains of resolutions by marks are chains of resolvents.
use Rattle.std.proofs.Common.{◌≡◌, ◌⊎◌, ℕ, zero, suc, Bool, List, [], ◌∷◌, Option, Some, None, refl, sym, ◌∙◌, ap, subst, inl, inr, length}
use Rattle.std.specs.Prelude.{slice_get}
use Rattle.std.specs.List.{AllByRecursion}
use Rattle.std.specs.Option.{option_and_then}
use Rattle.clauses.specs.declared.clause.Lit.{Lit}
use Rattle.clauses.specs.Assignments.{IsClause, MeetsAll, MeetsClause}
use Rattle.clauses.specs.Resolvents.{sign_in}
use Rattle.clauses.proofs.Signs.{met_of_sign, resolvent_met, sign_of_met}
use Rattle.resolution_chains.specs.Chains.{IsChain, ResolvesTo, numbered}
use Rattle.resolution_chains.specs.Marks.{IsBelow, IsClean, all_linked, all_marked, all_unmarked, cancelled, chained, linked, resolved, sign_at}
use Rattle.resolution_chains.proofs.Clauses.{clause_of, is_clause, signs_of}
use Rattle.resolution_chains.proofs.Marking.{all_marked_goes, all_marked_has, all_marked_length, all_marked_only, all_unmarked_below, all_unmarked_goes, all_unmarked_signs, first_step, none_some, some_same}
use Rattle.resolution_chains.proofs.Resolving.{Marks, is_resolved, one_resolvent, resolved_goes, resolvent_of}

-- what holds of all clauses holds of the one with a number
pub at_number : (P : List Lit → Type 0) (clauses : List (List Lit)) (n : ℕ) (c : List Lit) → AllByRecursion P clauses
    → numbered clauses n ≡ Some c → P c
at_number P clauses zero c all h = absurd (none_some c h)
at_number P clauses (suc n) c all h = at_place clauses n all h
  where
    at_place : (cs : List (List Lit)) (k : ℕ) → AllByRecursion P cs → slice_get cs k ≡ Some c → P c
    at_place [] k all h = absurd (none_some c h)
    at_place (d ∷ ds) zero all h = subst P (some_same d c h) all.0
    at_place (d ∷ ds) (suc k) all h = at_place ds k all.1 h

-- A chain by marks is one of resolvents.
module _ (clauses : List (List Lit)) (are : AllByRecursion IsClause clauses) where
  pub links_resolve : (m : List (Option Bool)) (c : List Lit) (links : List (ℕ × ℕ)) (n : List (Option Bool)) (e : List Lit)
      → AllByRecursion (IsBelow (length m)) clauses → Marks m c → all_linked clauses m links ≡ Some n → Marks n e
      → ResolvesTo clauses c links e
  links_resolve m c [] n e below same h ends = λ x. sym (same x) ∙ ap (λ (k : List (Option Bool)). sign_at k x) (some_same m n h) ∙ ends x
  links_resolve m c (link ∷ links) n e below same h ends =
      let s = first_step (λ k. all_linked clauses k links) (linked clauses m link) n h in
      let d = first_step (resolved m link.0) (numbered clauses link.1) s.0 s.1 in
      let r = is_resolved m link.0 d.0 s.0 (at_number (IsBelow (length m)) clauses link.1 d.0 below d.1) d.2 in (
        d.0,
        d.1,
        (
          clause_of 0 s.0,
          is_clause 0 s.0,
          resolvent_of m c link.0 d.0 s.0 same r,
          links_resolve s.0 (clause_of 0 s.0) links n e (subst (λ (i : ℕ). AllByRecursion (IsBelow i) clauses) (sym r.length) below)
              (λ x. sym (signs_of s.0 x)) s.2 ends,
        ),
      )

  pub links_go : (m : List (Option Bool)) (c : List Lit) (links : List (ℕ × ℕ)) (e : List Lit)
      → AllByRecursion (IsBelow (length m)) clauses → Marks m c → ResolvesTo clauses c links e
      → (n : List (Option Bool)) × (all_linked clauses m links ≡ Some n) × Marks n e
  links_go m c [] e below same h = (m, refl, λ x. same x ∙ h x)
  links_go m c (link ∷ links) e below same h =
      let d : List Lit = h.0 in
      let r : List Lit = h.2.0 in
      let room : IsBelow (length m) d = at_number (IsBelow (length m)) clauses link.1 d below h.1 in
      let p = resolved_goes m c link.0 d r same (at_number IsClause clauses link.1 d are h.1) room h.2.2 in
      let q = is_resolved m link.0 d p.0 room p.1 in
      let rest = links_go p.0 r links e (subst (λ (i : ℕ). AllByRecursion (IsBelow i) clauses) (sym q.length) below)
      (one_resolvent m c link.0 d r p.0 same q h.2.2) h.2.3 in
      (rest.0, rw (h.1, p.1) rest.1, rest.2)

-- linking keeps the marks' length
pub all_linked_length : (clauses : List (List Lit)) (m : List (Option Bool)) (links : List (ℕ × ℕ)) (n : List (Option Bool))
    → AllByRecursion (IsBelow (length m)) clauses → all_linked clauses m links ≡ Some n → length n ≡ length m
all_linked_length clauses m [] n below h = ap length (sym (some_same m n h))
all_linked_length clauses m (link ∷ links) n below h =
    let s = first_step (λ k. all_linked clauses k links) (linked clauses m link) n h in
    let d = first_step (resolved m link.0) (numbered clauses link.1) s.0 s.1 in
    let r = is_resolved m link.0 d.0 s.0 (at_number (IsBelow (length m)) clauses link.1 d.0 below d.1) d.2 in
    all_linked_length clauses s.0 links n (subst (λ (i : ℕ). AllByRecursion (IsBelow i) clauses) (sym r.length) below) s.2 ∙ r.length

-- marks of a clause over clean ones
pub begun : (m : List (Option Bool)) (c : List Lit) (n : List (Option Bool)) → IsClean m → IsBelow (length m) c → all_marked m c ≡ Some n → Marks n c
begun m c n clean b h x = same_sign (sign_at n x) (sign_in c x)
    (λ s t. of_second (all_marked_only m c n x s b h t) (clean x))
    (λ s t. all_marked_has m c n x s b h t)
  where
    same_sign : (o p : Option Bool) → ((s : Bool) → o ≡ Some s → p ≡ Some s) → ((s : Bool) → p ≡ Some s → o ≡ Some s) → o ≡ p
    same_sign None None f g = refl
    same_sign None (Some s) f g = g s refl
    same_sign (Some s) p f g = sym (f s refl)

    of_second : {s : Bool} {o p : Option Bool} → (o ≡ Some s) ⊎ (p ≡ Some s) → o ≡ None → p ≡ Some s
    of_second (inl h) none = absurd (none_some _ (sym none ∙ h))
    of_second (inr h) none = h

-- Where the literals of a list are taken from what a chain ends with and nothing is left, it is a chain that ends with them.
module _ (clauses : List (List Lit)) (are : AllByRecursion IsClause clauses) (m : List (Option Bool)) (clean : IsClean m)
    (below : AllByRecursion (IsBelow (length m)) clauses) (lits : List Lit) (first : ℕ) (next : List (ℕ × ℕ)) where
  pub chain_of_marks : (n : List (Option Bool)) → IsClause lits → cancelled clauses m lits first next ≡ Some n → IsClean n
      → IsChain clauses lits first next
  chain_of_marks n listed h none =
      let ended = first_step (λ k. all_unmarked k lits) (chained clauses m first next) n h in
      let started = first_step (λ k. all_linked clauses k next) (option_and_then (all_marked m) (numbered clauses first)) ended.0 ended.1 in
      let clause = first_step (all_marked m) (numbered clauses first) started.0 started.1 in
      let room : IsBelow (length m) clause.0 = at_number (IsBelow (length m)) clauses first clause.0 below clause.1 in
      let same : length started.0 ≡ length m = all_marked_length m clause.0 started.0 clause.2 in
      record {
        listed = listed;
        begin = clause.0;
        begins = clause.1;
        resolves = links_resolve clauses are started.0 clause.0 next ended.0 lits
            (subst (λ (i : ℕ). AllByRecursion (IsBelow i) clauses) (sym same) below)
            (begun m clause.0 started.0 clean room clause.2) started.2
            (all_unmarked_signs ended.0 lits n ended.2 none);
      }

  pub marks_of_chain : IsChain clauses lits first next
      → (n : List (Option Bool)) × (cancelled clauses m lits first next ≡ Some n) × IsClean n
  marks_of_chain chain =
      let room : IsBelow (length m) chain.begin = at_number (IsBelow (length m)) clauses first chain.begin below chain.begins in
      let marks = all_marked_goes m chain.begin (at_number IsClause clauses first chain.begin are chain.begins) room
      (λ y t p q. none_some t (sym (clean y) ∙ p)) in
      let same : length marks.0 ≡ length m = all_marked_length m chain.begin marks.0 marks.1 in
      let ended = links_go clauses are marks.0 chain.begin next lits
      (subst (λ (i : ℕ). AllByRecursion (IsBelow i) clauses) (sym same) below)
      (begun m chain.begin marks.0 clean room marks.1) chain.resolves in
      let gone = all_unmarked_goes ended.0 lits chain.listed ended.2 in
      (gone.0, rw (chain.begins, marks.1, ended.1) gone.1, gone.2)

  -- and they have room below the marks' length
  pub listed_below : (n : List (Option Bool)) → cancelled clauses m lits first next ≡ Some n → IsBelow (length m) lits
  listed_below n h =
      let ended = first_step (λ k. all_unmarked k lits) (chained clauses m first next) n h in
      let started = first_step (λ k. all_linked clauses k next) (option_and_then (all_marked m) (numbered clauses first)) ended.0 ended.1 in
      let clause = first_step (all_marked m) (numbered clauses first) started.0 started.1 in
      let same : length started.0 ≡ length m = all_marked_length m clause.0 started.0 clause.2 in
      let linked_same = all_linked_length clauses started.0 next ended.0
      (subst (λ (i : ℕ). AllByRecursion (IsBelow i) clauses) (sym same) below) started.2 in
      subst (λ (i : ℕ). IsBelow i lits) (linked_same ∙ same) (all_unmarked_below ended.0 lits n ended.2)

-- a chain is met
pub resolves_met : (v : ℕ → Bool) (clauses : List (List Lit)) (c : List Lit) (links : List (ℕ × ℕ)) (e : List Lit)
    → AllByRecursion IsClause clauses → IsClause c → ResolvesTo clauses c links e → MeetsAll v clauses → MeetsClause v c → MeetsClause v e
resolves_met v clauses c [] e are h same all met =
    let s = sign_of_met v c h met in met_of_sign v e s.0 (sym (same s.0) ∙ s.1)
resolves_met v clauses c (link ∷ links) e are h r all met =
    resolves_met v clauses r.2.0 links e are r.2.1 r.2.3 all
    (resolvent_met v link.0 c r.0 r.2.0 h (at_number IsClause clauses link.1 r.0 are r.1) r.2.2 met
    (at_number (MeetsClause v) clauses link.1 r.0 all r.1))

pub chain_met : (v : ℕ → Bool) (clauses : List (List Lit)) (lits : List Lit) (first : ℕ) (next : List (ℕ × ℕ))
    → AllByRecursion IsClause clauses → IsChain clauses lits first next → MeetsAll v clauses → MeetsClause v lits
chain_met v clauses lits first next are chain all =
    resolves_met v clauses chain.begin next lits are (at_number IsClause clauses first chain.begin are chain.begins) chain.resolves all
    (at_number (MeetsClause v) clauses first chain.begin all chain.begins)
