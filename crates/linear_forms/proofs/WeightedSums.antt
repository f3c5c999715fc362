-- Weighted sums of forms, place by place.
use Rattle.std.proofs.Common.{◌≡◌, ℕ, ◌%◌, ◌^◌, ◌≤◌, ◌==◌, true, false, List, [], ◌∷◌, refl, sym, ◌∙◌, subst, arith, inl, inr, rules, ◌↔◌, IsTrue}
use Rattle.std.specs.List.{AllByRecursion, list_any}
use Rattle.std.proofs.lemmas.Bool.{cases_Bool, eqb-true, eq-eqb, true≢false}
use Rattle.node_forms.specs.declared.form.Form.{Form}
use Rattle.node_forms.specs.Sums.{SameWord, listed_coefficient}
use Rattle.node_forms.proofs.Residues.{same_number}
use Rattle.node_values.specs.declared.node.NodeId.{NodeId}
use Rattle.linear_forms.specs.Combinations.{IsCombination, coefficient, weighted}
use Rattle.linear_forms.specs.Places.{HasAtoms, IsAmong, is_same_place, word_at}
use Rattle.linear_forms.specs.declared.places.Place.{Place}
use Rattle.linear_forms.specs.declared.places.Place.TheVariants.{Atom, Constant}
use Rattle.linear_forms.proofs.Powers.{same_narrow}

-- two places that the test finds the same are equal
same_place : (x y : Place) → is_same_place x y ≡ true → x ≡ y
same_place (Atom a) y h = search rules
same_place Constant y h = search rules

-- what holds at all places holds at each that is among them
pub all_among : (P : Place → Type 0) (places : List Place) → AllByRecursion P places → (place : Place) → IsAmong places place → P place
all_among P [] h place among = cc
all_among P (x ∷ xs) h place among = elim (cases_Bool (is_same_place place x)) [
  | inl same ↦ subst P (sym (same_place place x same)) h.0
  | inr other ↦ all_among P xs h.1 place (rw other at among)
]

-- an atom that is not among the places of a form has no coefficient
not_listed : (places : List Place) (atoms : List (NodeId × ℕ)) (a : ℕ) → AllByRecursion (λ p. IsAmong places (Atom p.0)) atoms
    → list_any (is_same_place (Atom (record { 0 = a }))) places ≡ false → listed_coefficient atoms a ≡ 0
not_listed places [] a h none = refl
not_listed places (p ∷ ps) a h none = elim (cases_Bool (a == p.0.0)) [
  | inl same ↦
      let number : a ≡ p.0.0 = eqb-true a p.0.0 same in
      let here : list_any (is_same_place (Atom p.0)) places ≡ true = h.0 in
      let P : ℕ → Type 0 = λ n. list_any (is_same_place (Atom (record { 0 = n }))) places ≡ true in
      absurd (true≢false (sym (subst P (sym number) here) ∙ none))
  | inr other ↦ rw other (not_listed places ps a h.1 none)
]

weighted_none : (f : Form → ℕ) (parts : List (ℕ × Form)) → AllByRecursion (λ p. f p.1 ≡ 0) parts → weighted f parts ≡ 0
weighted_none f [] h = refl
weighted_none f (p ∷ ps) h = rw (h.0, weighted_none f ps h.1) (omega arith)

pub all_map : {X : Type 0} (P Q : X → Type 0) → ((x : X) → P x → Q x) → (xs : List X) → AllByRecursion P xs → AllByRecursion Q xs
all_map P Q f [] h = tt
all_map P Q f (x ∷ xs) h = (f x h.0, all_map P Q f xs h.1)

module _ (w : ℕ) (target : Form) (parts : List (ℕ × Form)) where
  -- at a place the sum of the parts has the target's word
  abbrev pub Agrees : Place → Type 0
  Agrees place = SameWord w (weighted (word_at place) parts) (word_at place target)

  pub agrees_at : IsCombination w target parts → (place : Place) → Agrees place
  agrees_at h (Atom a) = h.coefficients a.0
  agrees_at h Constant = h.constants

  -- where all places of the forms agree the target is the sum of the parts
  pub combination_of : (places : List Place) → IsAmong places Constant → HasAtoms places target → AllByRecursion (λ p. HasAtoms places p.1) parts
      → AllByRecursion Agrees places → IsCombination w target parts
  combination_of places one own others h = record {
    coefficients = λ a. elim (cases_Bool (list_any (is_same_place (Atom (record { 0 = a }))) places)) [
      | inl among ↦ all_among Agrees places h (Atom (record { 0 = a })) among
      | inr none ↦
          same_number w (weighted (coefficient a) parts) (coefficient a target)
          (weighted_none (coefficient a) parts
          (all_map (λ (p : ℕ × Form). HasAtoms places p.1) (λ p. coefficient a p.1 ≡ 0) (λ p k. not_listed places p.1.atoms a k none) parts others)
          ∙ sym (not_listed places target.atoms a own none))
    ];
    constants = all_among Agrees places h Constant one;
  }

-- the test of two low words
pub low_test : (w sum all word a b : ℕ) → w ≤ 64 → SameWord 64 sum all → a ≡ sum % 2 ^ w → b ≡ word % 2 ^ w → IsTrue (a == b) ↔ SameWord w all word
low_test w sum all word a b narrow same left right =
    let near : SameWord w sum all = same_narrow 64 w sum all narrow same in
    (λ t. sym near ∙ sym left ∙ eqb-true a b t ∙ right, λ e. eq-eqb a b (left ∙ near ∙ e ∙ sym right))

-- places that are kept are kept for forms
pub has_atoms_kept : (before after : List Place) → ((place : Place) → IsAmong before place → IsAmong after place) → (form : Form)
    → HasAtoms before form → HasAtoms after form
has_atoms_kept before after kept form h = all_map (λ (p : NodeId × ℕ). IsAmong before (Atom p.0)) (λ p. IsAmong after (Atom p.0)) (λ p k. kept (Atom p.0) k) form.atoms h
