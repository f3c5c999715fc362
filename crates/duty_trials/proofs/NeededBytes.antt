-- The bytes of memory that nodes need.
use Rattle.std.proofs.Common.{◌≡◌, ◌⊎◌, ℕ, suc, ◌<◌, ◌||◌, Bool, true, false, List, [], ◌∷◌, length, refl, sym, ◌∙◌, arith, inl, inr}
use Rattle.std.specs.Prelude.{IsTrue}
use Rattle.node_values.specs.declared.node.Node.{Node}
use Rattle.node_values.specs.declared.node.NodeId.{NodeId}
use Rattle.node_values.specs.Sheets.{IsSheet, node_at}
use Rattle.node_values.proofs.SheetLaws.{at_arguments}
use Rattle.node_reach.specs.Reached.{is_marked, is_needed}
use Rattle.duty_claims.specs.Needs.{Needs, is_needed_by, is_start}
use Rattle.duty_claims.proofs.Needs.{needed_have}
use Rattle.duty_trials.specs.Trials.{NeedsNoByte, NeedsOnlyOfTwo}

-- the marks of the nodes that some nodes need
abbrev pub AreMarks : List Node → List NodeId → List Bool → Type 0
AreMarks ns roots marks = (k : ℕ) → is_marked marks k ≡ is_needed ns roots k

or_first : (a b : Bool) → a ≡ true → (a || b) ≡ true
or_first true b h = refl
or_first false b h = absurd (cc)

one_of_two : (a b : Bool) → (a || (b || false)) ≡ true → (a ≡ true) ⊎ (b ≡ true)
one_of_two true b h = inl refl
one_of_two false true h = inr refl
one_of_two false false h = absurd (cc)

either : (a b : Bool) → (a ≡ true) ⊎ (b ≡ true) → (a || (b || false)) ≡ true
either true b h = refl
either false true h = refl
either false false (inl h) = absurd (cc)
either false false (inr h) = absurd (cc)

module _ (ns : List Node) (sheet : IsSheet ns) where
  -- what a node needs is in the sheet
  pub needs_inside : (i k : ℕ) → i < length ns → Needs ns i k → k < length ns
  needs_inside i k b h =
      needed_have ns sheet (λ j. j < length ns) (λ j l p. at_arguments ns sheet (λ m. m < length ns) j l (λ m q. omega arith))
      (suc i) i k (omega arith) b b h

  pub only_of : (node a b : NodeId) (inner outer : List Bool) → node.0 < length ns → AreMarks ns (node ∷ []) inner
      → AreMarks ns (a ∷ b ∷ []) outer
      → ((k : ℕ) → k < length ns → is_start (node_at ns k) ≡ true → is_marked inner k ≡ true → is_marked outer k ≡ true)
      → NeedsOnlyOfTwo ns a.0 b.0 node.0
  only_of node a b inner outer inside p q h k s n =
      one_of_two (is_needed_by ns k a.0) (is_needed_by ns k b.0)
      (sym (q k) ∙ h k (needs_inside node.0 k inside n) s (p k ∙ or_first (is_needed_by ns k node.0) false n))

  pub no_byte : (a b : NodeId) (marks : List Bool) → a.0 < length ns → b.0 < length ns → AreMarks ns (a ∷ b ∷ []) marks
      → ((k : ℕ) → k < length ns → is_start (node_at ns k) ≡ true → is_marked marks k ≡ false) → NeedsNoByte ns a.0 b.0
  no_byte a b marks inside also p h k n s =
      no (is_marked marks k) (p k ∙ either (is_needed_by ns k a.0) (is_needed_by ns k b.0) n) (h k (there n) s)
    where
      no : (c : Bool) → c ≡ true → c ≡ false → ⊥
      no c t f = cc

      there : Needs ns a.0 k ⊎ Needs ns b.0 k → k < length ns
      there (inl x) = needs_inside a.0 k inside x
      there (inr x) = needs_inside b.0 k also x
