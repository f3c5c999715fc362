-- What holds of all items of a list holds of one that is found there.
use Rattle.std.proofs.Common.{◌≡◌, ◌⊎◌, ℕ, zero, suc, ◌==◌, ◌&&◌, Bool, true, false, List, [], ◌∷◌, ◌++◌, Option, Some, None, refl, subst, inl, inr}
use Rattle.std.specs.Prelude.{slice_get}
use Rattle.std.specs.List.{AllByRecursion, list_any}
use Rattle.std.specs.Option.{option_map}
use Rattle.std.proofs.lemmas.Bool.{and_parts, both_ways, eqb-true, or_cases}
use Rattle.resolution_chains.proofs.Marking.{none_some, some_same}
use Rattle.refutation_rules.specs.declared.equation.Equation.{Equation}
use Rattle.refutation_rules.specs.Known.{is_of}

-- the item at a place
pub at_item : {A : Type 0} (P : A → Type 0) (xs : List A) (n : ℕ) (x : A) → AllByRecursion P xs → slice_get xs n ≡ Some x → P x
at_item P [] n x all h = absurd (none_some x h)
at_item P (y ∷ ys) zero x all h = subst P (some_same y x h) all.0
at_item P (y ∷ ys) (suc n) x all h = at_item P ys n x all.1 h

-- an item that passes a test
pub any_item : {A : Type 0} (test : A → Bool) (P : A → Type 0) (Q : Type 0) (xs : List A) → AllByRecursion P xs
    → ((x : A) → P x → test x ≡ true → Q) → list_any test xs ≡ true → Q
any_item test P Q [] all use_of h = absurd (both_ways false refl h)
any_item test P Q (x ∷ xs) all use_of h = elim (or_cases (test x) (list_any test xs) h) [
  | inl one ↦ use_of x all.0 one
  | inr more ↦ any_item test P Q xs all.1 use_of more
]

pub all_append : {A : Type 0} (P : A → Type 0) (xs ys : List A) → AllByRecursion P xs → AllByRecursion P ys → AllByRecursion P (xs ++ ys)
all_append P [] ys h k = k
all_append P (x ∷ xs) ys h k = (h.0, all_append P xs ys h.1 k)

-- what a map over an option gives
pub map_step : {A B : Type 0} (f : A → B) (o : Option A) (y : B) → option_map f o ≡ Some y → (x : A) × (o ≡ Some x) × (f x ≡ y)
map_step f None y h = absurd (none_some y h)
map_step f (Some x) y h = (x, refl, some_same (f x) y h)

-- the equation that is of two nodes, in either order
pub of_two : (i j : ℕ) (o : Option Equation) → is_of i j o ≡ true
    → (p : Equation) × (o ≡ Some p) × (((p.left.0 ≡ i) × (p.right.0 ≡ j)) ⊎ ((p.left.0 ≡ j) × (p.right.0 ≡ i)))
of_two i j None h = absurd (both_ways false refl h)
of_two i j (Some p) h = (
  p,
  refl,
  elim (or_cases (p.left.0 == i && p.right.0 == j) (p.left.0 == j && p.right.0 == i) h) [
    | inl a ↦ let b = and_parts (p.left.0 == i) (p.right.0 == j) a in inl (eqb-true p.left.0 i b.0, eqb-true p.right.0 j b.1)
    | inr a ↦ let b = and_parts (p.left.0 == j) (p.right.0 == i) a in inr (eqb-true p.left.0 j b.0, eqb-true p.right.0 i b.1)
  ],
)
