-- There is one first breach at most, and none where every rule is kept; first places from first numbers.
use Rattle.std.proofs.Common.{◌≡◌, inl, inr, ℕ, suc, ◌<◌, List, [], ◌∷◌, ◌++◌, length, take, drop, get_or, refl, sym, ◌∙◌, ap, subst, arith}
use Rattle.std.specs.List.{AllByRecursion}
use Rattle.std.proofs.lemmas.List.{take-append-drop}
use Rattle.std.proofs.Math.Seq.{drop-cons}
use Rattle.first_breaches.specs.Breaches.{IsBefore, IsFirstBreach, IsFirstNumber, IsFirstPlace, Place}

-- two places of which neither comes before the other are one
same_place : (a b : Place) → (IsBefore a b → ⊥) → (IsBefore b a → ⊥) → a ≡ b
same_place (m, k) (n, j) not_less not_more =
    let numbers : m ≡ n = omega (arith, λ (h : m < n). not_less (inl h), λ (h : n < m). not_more (inl h)) in
    let seconds : k ≡ j = omega (arith, λ (h : k < j). not_less (inr (numbers, h)), λ (h : j < k). not_more (inr (sym numbers, h))) in
    cc

-- there is one first place at most
pub first_place-once : (IsKept : Place → Type 0) (a b : Place) → IsFirstPlace IsKept a → IsFirstPlace IsKept b → a ≡ b
first_place-once IsKept a b one two =
    same_place a b (λ less. one.broken (two.before a less)) (λ more. two.broken (one.before b more))

module _ {Rule : Type 0} (Keeps : Rule → Place → Type 0) where
  once : (earlier : List Rule) (rule : Rule) (later : List Rule) (place : Place) (earlier' : List Rule) (rule' : Rule) (later' : List Rule) (place' : Place)
      → earlier ++ rule ∷ later ≡ earlier' ++ rule' ∷ later'
      → AllByRecursion (λ other. (at : Place) → Keeps other at) earlier → IsFirstPlace (Keeps rule) place
      → AllByRecursion (λ other. (at : Place) → Keeps other at) earlier' → IsFirstPlace (Keeps rule') place'
      → (rule ≡ rule') × (place ≡ place')
  once [] rule later place [] rule' later' place' same kept first kept' first' =
      let one : rule ≡ rule' = cc in
      (one, first_place-once (Keeps rule') place place' (subst (λ r. IsFirstPlace (Keeps r) place) one first) first')
  once [] rule later place (r ∷ rs) rule' later' place' same kept first kept' first' =
      let one : r ≡ rule = cc in absurd (first.broken (subst (λ (q : Rule). Keeps q place) one (kept'.0 place)))
  once (r ∷ rs) rule later place [] rule' later' place' same kept first kept' first' =
      let one : r ≡ rule' = cc in absurd (first'.broken (subst (λ (q : Rule). Keeps q place') one (kept.0 place')))
  once (r ∷ rs) rule later place (r' ∷ rs') rule' later' place' same kept first kept' first' =
      let rest : rs ++ rule ∷ later ≡ rs' ++ rule' ∷ later' = cc in
      once rs rule later place rs' rule' later' place' rest kept.1 first kept'.1 first'

  -- there is one first breach at most
  pub first_breach-once : (order : List Rule) (rule rule' : Rule) (place place' : Place)
      → IsFirstBreach order Keeps rule place → IsFirstBreach order Keeps rule' place' → (rule ≡ rule') × (place ≡ place')
  first_breach-once order rule rule' place place' one two =
      once one.earlier rule one.later place two.earlier rule' two.later place' (cc (one.in_order, two.in_order)) one.kept one.first two.kept two.first

-- kept at each number below this one and broken there first at a second number: so there is the first place
pub first_place-at : (IsKept : Place → Type 0) (number second : ℕ) → ((n : ℕ) → n < number → (k : ℕ) → IsKept (n, k))
    → IsFirstNumber (λ k. IsKept (number, k)) second → IsFirstPlace IsKept (number, second)
first_place-at IsKept number second below first = record {
  broken = first.broken;
  before = λ (n, k) is. elim is [
    | inl less ↦ below n less k
    | inr same ↦ subst (λ (m : ℕ). IsKept (m, k)) (sym same.0) (first.before k same.1)
  ];
}

module _ {Rule : Type 0} (Keeps : Rule → Place → Type 0) where
  -- the first rule is broken
  pub first_breach-here : (rule : Rule) (later : List Rule) (place : Place) → IsFirstPlace (Keeps rule) place → IsFirstBreach (rule ∷ later) Keeps rule place
  first_breach-here rule later place first = record { earlier = []; later = later; in_order = refl; kept = tt; first = first }

  -- the first rule is kept, and a later one is broken
  pub first_breach-later : (kept_one : Rule) (later : List Rule) (rule : Rule) (place : Place) → ((at : Place) → Keeps kept_one at) → IsFirstBreach later Keeps rule place
      → IsFirstBreach (kept_one ∷ later) Keeps rule place
  first_breach-later kept_one later rule place kept h = record {
    earlier = kept_one ∷ h.earlier;
    later = h.later;
    in_order = ap (λ (rs : List Rule). kept_one ∷ rs) h.in_order;
    kept = (kept, h.kept);
    first = h.first;
  }

  -- the rules before this one are kept, and it is broken
  pub first_breach-at : (order : List Rule) (i : ℕ) (d : Rule) (place : Place) → i < length order → AllByRecursion (λ other. (at : Place) → Keeps other at) (take i order)
      → IsFirstPlace (Keeps (get_or order i d)) place → IsFirstBreach order Keeps (get_or order i d) place
  first_breach-at order i d place less kept first = record {
    earlier = take i order;
    later = drop (suc i) order;
    in_order = sym (take-append-drop i order) ∙ ap (λ (rs : List Rule). take i order ++ rs) (drop-cons order i d less);
    kept = kept;
    first = first;
  }
