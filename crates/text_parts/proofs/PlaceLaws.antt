-- The place of a text in a list of texts is the place where it stands.
use Rattle.std.proofs.Common.{◌≡◌, ℕ, zero, suc, ◌+◌, Bool, true, false, cond, not, List, [], ◌∷◌, Some, slice_get, refl, sym, ap, ◌∙◌, subst, arith}
use Rattle.std.specs.List.{list_all}
use Rattle.std.specs.Str.{bytes_eq}
use Rattle.std.proofs.lemmas.Bool.{and_parts, not-true}
use Rattle.std.proofs.lemmas.Option.{same_Some}
use Rattle.std.proofs.lemmas.Slice.Eq.{bytes_eq-Decides}
use Rattle.text_parts.specs.Places.{are_apart, place_from}

pub eq-known : (xs ys : List ℕ) → bytes_eq xs ys ≡ true → xs ≡ ys
eq-known xs ys h = (bytes_eq-Decides xs ys).0 h

pub eq-only : (xs ys : List ℕ) → xs ≡ ys → bytes_eq xs ys ≡ true
eq-only xs ys h = (bytes_eq-Decides xs ys).1 h

place_step : (x : List ℕ) (xs : List (List ℕ)) (n : ℕ) (name : List ℕ) (k : ℕ) (t : Bool) → bytes_eq x name ≡ t
    → (place_from (n + 1) xs name ≡ Some k → (j : ℕ) × (k ≡ n + 1 + j) × (slice_get xs j ≡ Some name))
    → cond t (Some n) (place_from (n + 1) xs name) ≡ Some k → (j : ℕ) × (k ≡ n + j) × (slice_get (x ∷ xs) j ≡ Some name)
place_step x xs n name k true e later h =
    let same : n ≡ k = same_Some n k h in (0, omega arith, ap (λ (y : List ℕ). Some y) (eq-known x name e))
place_step x xs n name k false e later h = let p = later h in (suc p.0, omega (arith, p.1), p.2)

pub place-known : (table : List (List ℕ)) (n : ℕ) (name : List ℕ) (k : ℕ) → place_from n table name ≡ Some k
    → (j : ℕ) × (k ≡ n + j) × (slice_get table j ≡ Some name)
place-known [] n name k h = cc
place-known (x ∷ xs) n name k h = place_step x xs n name k (bytes_eq x name) refl (place-known xs (n + 1) name k) h

-- what holds of each element holds of the one at a place
pub list_all-at : {X : Type 0} (p : X → Bool) (xs : List X) (k : ℕ) (x : X) → list_all p xs ≡ true → slice_get xs k ≡ Some x → p x ≡ true
list_all-at p [] k x all there = cc
list_all-at p (y ∷ ys) zero x all there = ap p (sym (same_Some y x there)) ∙ (and_parts (p y) (list_all p ys) all).0
list_all-at p (y ∷ ys) (suc k) x all there = list_all-at p ys k x (and_parts (p y) (list_all p ys) all).1 there

place-only : (table : List (List ℕ)) (n j : ℕ) (name : List ℕ) → are_apart table ≡ true → slice_get table j ≡ Some name
    → place_from n table name ≡ Some (n + j)
place-only [] n j name apart there = cc
place-only (x ∷ xs) n zero name apart there =
    let e : bytes_eq x name ≡ true = eq-only x name (same_Some x name there) in
    rw e (ap (λ (m : ℕ). Some m) (omega arith))
place-only (x ∷ xs) n (suc j) name apart there =
    let p = and_parts (list_all (λ y. not (bytes_eq x y)) xs) (are_apart xs) apart in
    let e : bytes_eq x name ≡ false = not-true (bytes_eq x name) (list_all-at (λ y. not (bytes_eq x y)) xs j name p.0 there) in
    let m : n + 1 + j ≡ n + suc j = omega arith in
    rw e (place-only xs (n + 1) j name p.1 there ∙ ap (λ (k : ℕ). Some k) m)

-- the name at the place that was found
pub place-found : (table : List (List ℕ)) (name : List ℕ) (k : ℕ) → place_from 0 table name ≡ Some k → slice_get table k ≡ Some name
place-found table name k h =
    let p = place-known table 0 name k h in
    let same : k ≡ p.0 = omega (arith, p.1) in
    subst (λ (j : ℕ). slice_get table j ≡ Some name) (sym same) p.2

-- the place of a name, where none stands twice
pub place-at : (table : List (List ℕ)) (j : ℕ) (name : List ℕ) → are_apart table ≡ true → slice_get table j ≡ Some name → place_from 0 table name ≡ Some j
place-at table j name apart there = place-only table 0 j name apart there ∙ ap (λ (k : ℕ). Some k) (omega arith)
