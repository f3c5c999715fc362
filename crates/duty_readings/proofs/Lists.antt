-- Lists of numbers, what of them passes a test, and each two of them.
use Rattle.std.proofs.Common.{◌≡◌, ◌≢◌, ℕ, zero, suc, ◌+◌, ◌<◌, ◌≤◌, ◌==◌, Bool, true, List, [], ◌∷◌, ◌++◌, map, sym, subst, inl, inr, arith}
use Rattle.std.specs.List.{AllByRecursion, filter, flat_map, list_any, range_with_len}
use Rattle.std.proofs.lemmas.Bool.{both_ways, cases_Bool, eqb-false, eqb-true, or_left, or_right}
use Rattle.duty_claims.specs.Needs.{each_two}

pub weaker : {X : Type 0} (P Q : X → Type 0) (xs : List X) → ((x : X) → P x → Q x) → AllByRecursion P xs → AllByRecursion Q xs
weaker P Q [] f all = tt
weaker P Q (x ∷ xs) f all = (f x all.0, weaker P Q xs f all.1)

pub together : {X : Type 0} (P Q : X → Type 0) (xs : List X) → AllByRecursion P xs → AllByRecursion Q xs → AllByRecursion (λ x. P x × Q x) xs
together P Q [] p q = tt
together P Q (x ∷ xs) p q = ((p.0, q.0), together P Q xs p.1 q.1)

pub appended : {X : Type 0} (P : X → Type 0) (xs ys : List X) → AllByRecursion P xs → AllByRecursion P ys → AllByRecursion P (xs ++ ys)
appended P [] ys p q = q
appended P (x ∷ xs) ys p q = (p.0, appended P xs ys p.1 q)

pub parted : {X : Type 0} (P : X → Type 0) (xs ys : List X) → AllByRecursion P (xs ++ ys) → AllByRecursion P xs × AllByRecursion P ys
parted P [] ys p = (tt, p)
parted P (x ∷ xs) ys p = let rest : AllByRecursion P xs × AllByRecursion P ys = parted P xs ys p.1 in ((p.0, rest.0), rest.1)

pub mapped : {X Y : Type 0} (P : Y → Type 0) (f : X → Y) (xs : List X) → AllByRecursion (λ x. P (f x)) xs → AllByRecursion P (map f xs)
mapped P f [] p = tt
mapped P f (x ∷ xs) p = (p.0, mapped P f xs p.1)

pub unmapped : {X Y : Type 0} (P : Y → Type 0) (f : X → Y) (xs : List X) → AllByRecursion P (map f xs) → AllByRecursion (λ x. P (f x)) xs
unmapped P f [] p = tt
unmapped P f (x ∷ xs) p = (p.0, unmapped P f xs p.1)

pub flattened : {X Y : Type 0} (P : Y → Type 0) (f : X → List Y) (xs : List X) → AllByRecursion (λ x. AllByRecursion P (f x)) xs → AllByRecursion P (flat_map f xs)
flattened P f [] p = tt
flattened P f (x ∷ xs) p = appended P (f x) (flat_map f xs) p.0 (flattened P f xs p.1)

pub unflattened : {X Y : Type 0} (P : Y → Type 0) (f : X → List Y) (xs : List X) → AllByRecursion P (flat_map f xs) → AllByRecursion (λ x. AllByRecursion P (f x)) xs
unflattened P f [] p = tt
unflattened P f (x ∷ xs) p = let both : AllByRecursion P (f x) × AllByRecursion P (flat_map f xs) = parted P (f x) (flat_map f xs) p in (both.0, unflattened P f xs both.1)

-- what passes a test
pub kept : {X : Type 0} (t : X → Bool) (P : X → Type 0) (xs : List X) → AllByRecursion (λ x. t x ≡ true → P x) xs → AllByRecursion P (filter t xs)
kept t P [] p = tt
kept t P (x ∷ xs) p = elim (cases_Bool (t x)) [
  | inl y ↦ rw y (p.0 y, kept t P xs p.1)
  | inr n ↦ rw n (kept t P xs p.1)
]

pub passed : {X : Type 0} (t : X → Bool) (P : X → Type 0) (xs : List X) → AllByRecursion P (filter t xs) → AllByRecursion (λ x. t x ≡ true → P x) xs
passed t P [] p = tt
passed t P (x ∷ xs) p = elim (cases_Bool (t x)) [
  | inl y ↦ let both : AllByRecursion P (x ∷ filter t xs) = rw y at p in (λ h. both.0, passed t P xs both.1)
  | inr n ↦ (λ h. absurd (both_ways (t x) n h), passed t P xs (rw n at p))
]

-- where each is one for itself, the list has one for each
pub found_each : {X : Type 0} (f : X → X → Bool) (xs : List X) → AllByRecursion (λ x. f x x ≡ true) xs → AllByRecursion (λ x. list_any (f x) xs ≡ true) xs
found_each f [] p = tt
found_each f (x ∷ xs) p = (
  or_left (f x x) (list_any (f x) xs) p.0,
  weaker (λ y. list_any (f y) xs ≡ true) (λ y. list_any (f y) (x ∷ xs) ≡ true) xs
      (λ y h. or_right (f y x) (list_any (f y) xs) h) (found_each f xs p.1),
)

-- what follows from each of which one is there
pub from_any : {X : Type 0} (f : X → Bool) (Q : Type 0) (xs : List X) → AllByRecursion (λ x. f x ≡ true → Q) xs → list_any f xs ≡ true → Q
from_any f Q [] all h = absurd (cc)
from_any f Q (x ∷ xs) all h = elim (cases_Bool (f x)) [ inl y ↦ all.0 y | inr n ↦ from_any f Q xs all.1 (rw n at h) ]

pub any_weaker : {X : Type 0} (f g : X → Bool) (xs : List X) → AllByRecursion (λ x. f x ≡ true → g x ≡ true) xs → list_any f xs ≡ true → list_any g xs ≡ true
any_weaker f g [] all h = h
any_weaker f g (x ∷ xs) all h = elim (cases_Bool (f x)) [
  | inl y ↦ or_left (g x) (list_any g xs) (all.0 y)
  | inr n ↦ or_right (g x) (list_any g xs) (any_weaker f g xs all.1 (rw n at h))
]

-- numbers in a row
pub all_in_row : (P : ℕ → Type 0) (a n : ℕ) → ((i : ℕ) → i < a + n → P i) → AllByRecursion P (range_with_len a n)
all_in_row P a zero f = tt
all_in_row P a (suc n) f = (f a (omega arith), all_in_row P (a + 1) n (λ i b. f i (omega arith)))

at_row : (P : ℕ → Type 0) (a n : ℕ) → AllByRecursion P (range_with_len a n) → (i : ℕ) → a ≤ i → i < a + n → P i
at_row P a zero p i low high = absurd (omega arith)
at_row P a (suc n) p i low high = elim (cases_Bool (i == a)) [
  | inl e ↦ subst P (sym (eqb-true i a e)) p.0
  | inr e ↦ let other : i ≢ a = eqb-false i a e in at_row P (a + 1) n p.1 i (omega arith) (omega arith)
]

at_kept : (t : ℕ → Bool) (P : ℕ → Type 0) (a n : ℕ) → AllByRecursion P (filter t (range_with_len a n)) → (i : ℕ) → a ≤ i → i < a + n → t i ≡ true → P i
at_kept t P a n p i low high h = at_row (λ j. t j ≡ true → P j) a n (passed t P (range_with_len a n) p) i low high h

-- each two of the numbers in a row that pass a test
pub at_each_two : (R : ℕ → ℕ → Type 0) (t : ℕ → Bool) (a n : ℕ) → AllByRecursion (λ q. R q.0 q.1) (each_two (filter t (range_with_len a n)))
    → (i j : ℕ) → a ≤ i → i < j → j < a + n → t i ≡ true → t j ≡ true → R i j
at_each_two R t a zero p i j low order high h k = absurd (omega arith)
at_each_two R t a (suc n) p i j low order high h k = elim (cases_Bool (t a)) [
  | inl y ↦
      taken (parted (λ (q : ℕ × ℕ). R q.0 q.1) (map (λ m. (a, m)) rest) (each_two rest) (rw y at p))
      (λ all after. at_each_two R t (a + 1) n all i j after order (omega arith) h k)
  | inr f ↦ elim (cases_Bool (i == a)) [
    | inl e ↦ absurd (both_ways (t a) f (subst (λ (z : ℕ). t z ≡ true) (eqb-true i a e) h))
    | inr e ↦ let other : i ≢ a = eqb-false i a e in at_each_two R t (a + 1) n (rw f at p) i j (omega arith) order (omega arith) h k
  ]
]
  where
    rest : List ℕ
    rest = filter t (range_with_len (a + 1) n)

    taken : AllByRecursion (λ (q : ℕ × ℕ). R q.0 q.1) (map (λ m. (a, m)) rest) × AllByRecursion (λ (q : ℕ × ℕ). R q.0 q.1) (each_two rest)
        → (AllByRecursion (λ (q : ℕ × ℕ). R q.0 q.1) (each_two rest) → a + 1 ≤ i → R i j) → R i j
    taken parts later = elim (cases_Bool (i == a)) [
      | inl e ↦
          subst (λ (z : ℕ). R z j) (sym (eqb-true i a e))
          (at_kept t (R a) (a + 1) n (unmapped (λ (q : ℕ × ℕ). R q.0 q.1) (λ m. (a, m)) rest parts.0)
          j (omega arith) (omega arith) k)
      | inr e ↦ let other : i ≢ a = eqb-false i a e in later parts.1 (omega arith)
    ]

-- each two of a list of which all have P
pub each_two_of : (P : ℕ → Type 0) (xs : List ℕ) → AllByRecursion P xs → AllByRecursion (λ q. P q.0 × P q.1) (each_two xs)
each_two_of P [] p = tt
each_two_of P (x ∷ xs) p =
    appended (λ (q : ℕ × ℕ). P q.0 × P q.1) (map (λ n. (x, n)) xs) (each_two xs)
    (mapped (λ (q : ℕ × ℕ). P q.0 × P q.1) (λ n. (x, n)) xs (weaker P (λ n. P x × P n) xs (λ n h. (p.0, h)) p.1))
    (each_two_of P xs p.1)
