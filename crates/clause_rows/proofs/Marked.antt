-- What the nodes of a duty's reach need is in it.
use Rattle.std.proofs.Common.{◌≡◌, ℕ, zero, suc, ◌<◌, ◌==◌, ◌||◌, Bool, true, false, List, [], ◌∷◌, ◌++◌, length, refl, ◌∙◌, arith, inl, inr}
use Rattle.std.specs.List.{AllByRecursion, list_any}
use Rattle.std.proofs.lemmas.Bool.{cases_Bool}
use Rattle.std.proofs.lemmas.List.Folds.{list_any-append}
use Rattle.node_values.specs.declared.node.Node.{Node}
use Rattle.node_values.specs.declared.node.NodeId.{NodeId}
use Rattle.node_values.specs.Nodes.{arguments}
use Rattle.node_values.specs.Sheets.{IsSheet, node_at}
use Rattle.node_values.proofs.SheetLaws.{at_arguments}
use Rattle.node_reach.specs.Reached.{is_marked, is_needed}
use Rattle.duty_claims.specs.Needs.{Needs, is_needed_by}
use Rattle.duty_claims.proofs.Needs.{needed-is, needs_go_on, needs_itself}
use Rattle.clause_rows.proofs.Elements.{all_of}

either : (a b : Bool) → b ≡ true → (a || b) ≡ true
either true b h = refl
either false b h = h

-- where each passes its own test, one of all passes it
any_itself : {X : Type 0} (test : X → X → Bool) (xs : List X) → AllByRecursion (λ x. test x x ≡ true) xs
    → AllByRecursion (λ x. list_any (test x) xs ≡ true) xs
any_itself test [] h = tt
any_itself test (x ∷ xs) h = (
  rw h.0 refl,
  all_of (λ y. list_any (test y) xs ≡ true) (λ y. list_any (test y) (x ∷ xs) ≡ true) xs
      (λ y q. either (test y x) (list_any (test y) xs) q) (any_itself test xs h.1),
)

module _ (ns : List Node) (sheet : IsSheet ns) where
  -- a node needs its arguments
  arguments_of : (i : ℕ) → i < length ns → AllByRecursion (Needs ns i) (arguments (node_at ns i))
  arguments_of i b =
      all_of (λ j. list_any (is_needed_by ns j) (arguments (node_at ns i)) ≡ true) (Needs ns i) (arguments (node_at ns i))
      (λ j h. needed-is ns sheet j i b ∙ either (i == j) (list_any (is_needed_by ns j) (arguments (node_at ns i))) h)
      (any_itself (λ j k. is_needed_by ns j k) (arguments (node_at ns i))
      (at_arguments ns sheet (λ j. is_needed_by ns j j ≡ true) i b (λ j l. needs_itself ns sheet j (omega arith))))

  needed_through : (roots : List NodeId) → AllByRecursion (λ n. n.0 < length ns) roots → (i j : ℕ) → is_needed ns roots i ≡ true
      → Needs ns i j → is_needed ns roots j ≡ true
  needed_through [] all i j h n = absurd (cc)
  needed_through (root ∷ roots) all i j h n = elim (cases_Bool (is_needed_by ns i root.0)) [
    | inl t ↦ rw (needs_go_on ns sheet root.0 i j all.0 t n) refl
    | inr f ↦ either (is_needed_by ns j root.0) (is_needed ns roots j) (needed_through roots all.1 i j (rw f at h) n)
  ]

  -- the arguments of a needed node are needed
  pub arguments_needed : (roots : List NodeId) → AllByRecursion (λ n. n.0 < length ns) roots → (i : ℕ) → i < length ns
      → is_needed ns roots i ≡ true → AllByRecursion (λ j. is_needed ns roots j ≡ true) (arguments (node_at ns i))
  arguments_needed roots all i b h =
      all_of (Needs ns i) (λ j. is_needed ns roots j ≡ true) (arguments (node_at ns i)) (λ j n. needed_through roots all i j h n)
      (arguments_of i b)

  -- roots are needed
  pub roots_needed : (roots : List NodeId) → AllByRecursion (λ n. n.0 < length ns) roots
      → AllByRecursion (λ n. is_needed ns roots n.0 ≡ true) roots
  roots_needed roots all =
      any_itself (λ n m. is_needed_by ns n.0 m.0) roots
      (all_of (λ n. n.0 < length ns) (λ n. is_needed_by ns n.0 n.0 ≡ true) roots (λ n b. needs_itself ns sheet n.0 b) all)

-- what some nodes need more nodes need
pub needed_by_more : (ns : List Node) (roots more : List NodeId) (k : ℕ) → is_needed ns roots k ≡ true → is_needed ns (roots ++ more) k ≡ true
needed_by_more ns roots more k h = list_any-append (λ n. is_needed_by ns k n.0) roots more ∙ rw h refl

-- a marked node stands in the list of marks
pub marked_inside : (marks : List Bool) (k : ℕ) → is_marked marks k ≡ true → k < length marks
marked_inside [] k h = absurd (cc)
marked_inside (m ∷ marks) zero h = omega arith
marked_inside (m ∷ marks) (suc k) h =
    let b : k < length marks = marked_inside marks k h in
    omega arith
