-- Values that are collected, one after another.
use Rattle.std.proofs.Common.{◌≡◌, ℕ, zero, suc, ◌+◌, ◌-◌, ◌<◌, ◌≤◌, List, [], ◌∷◌, ◌++◌, length, get_or, set, slice_get, take, Option, Some, None, refl, sym, ap, ◌∙◌, subst, append_assoc, append-nil, arith}
use Rattle.std.proofs.lemmas.Option.{same_Some}
use Rattle.std.proofs.Math.Seq.{take-suc-set}
use Rattle.std.proofs.lemmas.List.{take_all}
use Rattle.tests_text.specs.Reading.{◌>>=◌, collected, values}

pub bind-some : {A B : Type 0} (o : Option A) (f : A → Option B) (y : B) → (o >>= f) ≡ Some y → (x : A) × (o ≡ Some x) × (f x ≡ Some y)
bind-some None f y h = absurd (cc)
bind-some (Some x) f y h = (x, refl, h)

-- items before those that are collected
abbrev pub before_those : {X : Type 0} → List X → Option (List X) → Option (List X)
before_those xs left = left >>= λ more. Some (xs ++ more)

before_those-cons : {X : Type 0} (xs : List X) (x : X) (left : Option (List X)) → before_those xs (left >>= λ more. Some (x ∷ more)) ≡ before_those (xs ++ x ∷ []) left
before_those-cons xs x None = refl
before_those-cons xs x (Some more) = ap (λ (ys : List _). Some ys) (sym (append_assoc xs (x ∷ []) more))

-- each value that is collected is that of its place
pub collected-known : {A : Type 0} (f : ℕ → Option A) (count n : ℕ) (xs : List A) → collected f n count ≡ Some xs
    → (length xs ≡ count) × ((k : ℕ) (d : A) → k < count → f (n + k) ≡ Some (get_or xs k d))
unfolding collected
collected-known f zero n xs h = let e : [] ≡ xs = same_Some [] xs h in (ap length (sym e), λ k d below. absurd (omega arith))
collected-known {A = A} f (suc count) n xs h =
    let x = bind-some (f n) (λ x. collected f (n + 1) count >>= λ xs. Some (x ∷ xs)) xs h in
    let rest = bind-some (collected f (n + 1) count) (λ xs. Some (x.0 ∷ xs)) xs x.2 in
    let more = collected-known f count (n + 1) rest.0 rest.1 in
    let is : x.0 ∷ rest.0 ≡ xs = same_Some (x.0 ∷ rest.0) xs rest.2 in (
      ap length (sym is) ∙ omega (arith, more.0),
      λ k d below. subst (λ (ys : List A). f (n + k) ≡ Some (get_or ys k d)) is (place x.0 rest.0 x.1 more.1 k d below),
    )
  where
    place : (x : A) (rest : List A) → f n ≡ Some x → ((k : ℕ) (d : A) → k < count → f (n + 1 + k) ≡ Some (get_or rest k d)) → (k : ℕ) (d : A) → k < suc count
        → f (n + k) ≡ Some (get_or (x ∷ rest) k d)
    place x rest first later zero d below = let e : n + zero ≡ n = omega arith in ap f e ∙ first
    place x rest first later (suc k) d below = let e : n + suc k ≡ n + 1 + k = omega arith in ap f e ∙ later k d (omega arith)

-- values that are those of their places are collected
pub collected-only : {A : Type 0} (f : ℕ → Option A) (xs : List A) (count n : ℕ) → length xs ≡ count → ((k : ℕ) (x : A) → slice_get xs k ≡ Some x → f (n + k) ≡ Some x)
    → collected f n count ≡ Some xs
unfolding collected
collected-only f [] zero n long each = refl
collected-only f [] (suc count) n long each = absurd (omega arith)
collected-only f (x ∷ xs) zero n long each = absurd (omega arith)
collected-only f (x ∷ xs) (suc count) n long each =
    let here : f n ≡ Some x = sym (ap f (n-zero n)) ∙ each 0 x refl in
    let rest = collected-only f xs count (n + 1) (omega arith) (λ k y there. ap f (n-suc n k) ∙ each (suc k) y there) in
    rw (here, rest) refl
  where
    n-zero : (m : ℕ) → m + 0 ≡ m
    n-zero m = omega arith

    n-suc : (m k : ℕ) → m + 1 + k ≡ m + suc k
    n-suc m k = omega arith

-- values of a function at places

pub length-values : (f : ℕ → ℕ) (count n : ℕ) → length (values f n count) ≡ count
unfolding values
length-values f zero n = refl
length-values f (suc count) n = let e = length-values f count (n + 1) in omega arith

pub values-at : (f : ℕ → ℕ) (count n k : ℕ) → k < count → get_or (values f n count) k 0 ≡ f (n + k)
unfolding values
values-at f zero n k below = absurd (omega arith)
values-at f (suc count) n zero below = ap f (omega arith)
values-at f (suc count) n (suc k) below = values-at f count (n + 1) k (omega arith) ∙ ap f (omega arith)

pub values-only : (f : ℕ → ℕ) (xs : List ℕ) (count n : ℕ) → length xs ≡ count → ((k : ℕ) → k < count → get_or xs k 0 ≡ f (n + k)) → xs ≡ values f n count
unfolding values
values-only f [] zero n long each = refl
values-only f [] (suc count) n long each = absurd (omega arith)
values-only f (x ∷ xs) zero n long each = absurd (omega arith)
values-only f (x ∷ xs) (suc count) n long each =
    let here : x ≡ f n = each 0 (omega arith) ∙ ap f (omega arith) in
    let rest : xs ≡ values f (n + 1) count = values-only f xs count (n + 1) (omega arith) (λ k below. each (suc k) (omega arith) ∙ ap f (omega arith)) in
    ap (λ (y : ℕ). y ∷ xs) here ∙ ap (λ (ys : List ℕ). f n ∷ ys) rest

next-by : {A : Type 0} (f : ℕ → Option A) (i n : ℕ) (ys : List A) (v : A) → f i ≡ Some v
    → before_those ys (collected f i (suc n)) ≡ before_those (ys ++ v ∷ []) (collected f (i + 1) n)
unfolding collected
next-by {A = A} f i n ys v read =
    ap (λ (o : Option A). before_those ys (o >>= λ x. (collected f (i + 1) n >>= λ more. Some (x ∷ more)))) read ∙ before_those-cons ys v (collected f (i + 1) n)

stop-by : {A : Type 0} (f : ℕ → Option A) (i n : ℕ) (ys : List A) → f i ≡ None → before_those ys (collected f i (suc n)) ≡ None
unfolding collected
stop-by {A = A} f i n ys read = ap (λ (o : Option A). before_those ys (o >>= λ x. (collected f (i + 1) n >>= λ more. Some (x ∷ more)))) read

end-by : {A : Type 0} (f : ℕ → Option A) (i : ℕ) (ys : List A) → before_those ys (collected f i 0) ≡ Some ys
unfolding collected
end-by {A = A} f i ys = ap (λ (zs : List A). Some zs) (append-nil ys)

-- one turn of a loop that fills an array
pub collected-more : {A : Type 0} (f : ℕ → Option A) (xs kept : List A) (i : ℕ) (v : A) → collected f 0 16 ≡ before_those (take i xs) (collected f i (16 - i)) → length xs ≡ 16 → i < 16
    → f i ≡ Some v → kept ≡ set xs i v → collected f 0 16 ≡ before_those (take (i + 1) kept) (collected f (i + 1) (16 - (i + 1)))
collected-more {A = A} f xs kept i v so_far long below read grown =
    let one : 16 - i ≡ suc (16 - (i + 1)) = omega arith in
    let more : take (i + 1) kept ≡ take i xs ++ v ∷ [] = ap (λ (ys : List A). take (i + 1) ys) grown ∙ ap (λ (n : ℕ). take n (set xs i v)) (suc-is i) ∙ take-suc-set xs i v (omega arith) in
    so_far ∙ ap (λ (n : ℕ). before_those (take i xs) (collected f i n)) one ∙ next-by f i (16 - (i + 1)) (take i xs) v read ∙ ap (λ (ys : List A). before_those ys (collected f (i + 1) (16 - (i + 1)))) (sym more)
  where
    suc-is : (n : ℕ) → n + 1 ≡ suc n
    suc-is n = omega arith

pub collected-stop : {A : Type 0} (f : ℕ → Option A) (xs : List A) (i : ℕ) → collected f 0 16 ≡ before_those (take i xs) (collected f i (16 - i)) → i < 16 → f i ≡ None → collected f 0 16 ≡ None
collected-stop f xs i so_far below read =
    let one : 16 - i ≡ suc (16 - (i + 1)) = omega arith in
    so_far ∙ ap (λ (n : ℕ). before_those (take i xs) (collected f i n)) one ∙ stop-by f i (16 - (i + 1)) (take i xs) read

pub collected-end : {A : Type 0} (f : ℕ → Option A) (xs : List A) (i : ℕ) → collected f 0 16 ≡ before_those (take i xs) (collected f i (16 - i)) → length xs ≡ 16 → 16 ≤ i → collected f 0 16 ≡ Some xs
collected-end {A = A} f xs i so_far long over =
    let none : 16 - i ≡ 0 = omega arith in
    so_far ∙ ap (λ (n : ℕ). before_those (take i xs) (collected f i n)) none ∙ end-by f i (take i xs) ∙ ap (λ (ys : List A). Some ys) (take_all i xs (omega arith))
