-- How many items of a list are instructions.
use Rattle.std.proofs.Common.{◌≡◌, ℕ, ◌+◌, ◌<◌, Bool, true, false, cond, ◌||◌, List, [], ◌∷◌, ◌++◌, refl, ap, arith}
use Rattle.std.specs.List.{list_any, count_by}
use Rattle.std.proofs.lemmas.List.Sums.{sum_by-cons, sum_by-append}

pub count-cons : {X : Type 0} (p : X → Bool) (x : X) (xs : List X) → count_by p (x ∷ xs) ≡ cond (p x) 1 0 + count_by p xs
count-cons p x xs = sum_by-cons (λ y. cond (p y) 1 0) x xs

pub count-append : {X : Type 0} (p : X → Bool) (xs ys : List X) → count_by p (xs ++ ys) ≡ count_by p xs + count_by p ys
count-append p xs ys = sum_by-append (λ y. cond (p y) 1 0) xs ys

pub count-push : {X : Type 0} (p : X → Bool) (xs : List X) (x : X) → count_by p (xs ++ x ∷ []) ≡ count_by p xs + cond (p x) 1 0
count-push p xs x = omega (arith, count-append p xs (x ∷ []), count-cons p x [])

-- the count is not 0 where some item passes
pub any-counted : {X : Type 0} (p : X → Bool) (xs : List X) → list_any p xs ≡ true → 0 < count_by p xs
any-counted p [] h = cc
any-counted p (x ∷ xs) h =
    elim (p x) as (λ (t : Bool). p x ≡ t → (t || list_any p xs) ≡ true → 0 < count_by p (x ∷ xs)) [
      | true ↦ λ e _. let n : ◌≡◌ {A = ℕ} (cond (p x) 1 0) 1 = ap (λ (t : Bool). cond {A = ℕ} t 1 0) e in omega (arith, count-cons p x xs)
      | false ↦ λ e more. omega (arith, count-cons p x xs, any-counted p xs more)
    ] refl h

-- the count is 0 where no item passes
pub count_by-none : {X : Type 0} (p : X → Bool) (xs : List X) → list_any p xs ≡ false → count_by p xs ≡ 0
count_by-none p [] h = refl
count_by-none p (x ∷ xs) h =
    elim (p x) as (λ (t : Bool). p x ≡ t → (t || list_any p xs) ≡ false → count_by p (x ∷ xs) ≡ 0) [
      | true ↦ λ e more. cc
      | false ↦ λ e more. let n : ◌≡◌ {A = ℕ} (cond (p x) 1 0) 0 = ap (λ (t : Bool). cond {A = ℕ} t 1 0) e in omega (arith, count-cons p x xs, count_by-none p xs more)
    ] refl h
