-- The value of an expression depends only on the leaves that it names.
use Rattle.std.proofs.Common.{◌≡◌, ℕ, ◌==◌, List, [], ◌∷◌, ◌++◌, refl, inl, inr}
use Rattle.std.specs.Prelude.{filter, if◌then◌else◌, not}
use Rattle.std.specs.List.{AllByRecursion}
use Rattle.std.proofs.lemmas.Bool.{cases_Bool}
use Rattle.insn_semantics.specs.Exprs.{Expr, Leaf, Number, Two, Not, Shifted, Joined, Cut, Extended, Choice, Let, leaves_of, operator_value, shift_value, value, with_leaf}
use Rattle.insn_semantics.specs.Words as words

-- what holds of two lists together holds of the first, and of the second
pub front : (P : ℕ → Type 0) (xs ys : List ℕ) → AllByRecursion P (xs ++ ys) → AllByRecursion P xs
front P [] ys h = tt
front P (x ∷ xs) ys h = (h.0, front P xs ys h.1)

pub behind : (P : ℕ → Type 0) (xs ys : List ℕ) → AllByRecursion P (xs ++ ys) → AllByRecursion P ys
behind P [] ys h = h
behind P (x ∷ xs) ys h = behind P xs ys h.1

-- leaves with one more name
abbrev pub named : {X : Type 0} → (ℕ → X) → ℕ → X → ℕ → X
named f i m j = if j == i then m else f j

-- they agree where the others do
pub named_agree : {X : Type 0} (f g : ℕ → X) (i : ℕ) (m n : X) → m ≡ n → (xs : List ℕ) → AllByRecursion (λ j. f j ≡ g j) (filter (λ j. not (j == i)) xs)
    → AllByRecursion (λ j. named f i m j ≡ named g i n j) xs
named_agree f g i m n e [] h = tt
named_agree f g i m n e (x ∷ xs) h = elim (cases_Bool (x == i)) [
  | inl t ↦ let rest = rw t at h in (rw t e, named_agree f g i m n e xs rest)
  | inr t ↦ let both = rw t at h in (rw t both.0, named_agree f g i m n e xs both.1)
]

-- by induction over the expression
pub values_agree : (f g : ℕ → ℕ) (x : Expr) → AllByRecursion (λ i. f i ≡ g i) (leaves_of x) → value f x ≡ value g x
values_agree f g (Leaf i) h = h.0
values_agree f g (Number w v) h = refl
values_agree f g (Two operator w x y) h =
    let P : ℕ → Type 0 = λ i. f i ≡ g i in
    let X = values_agree f g x (front P (leaves_of x) (leaves_of y) h) in
    let Y = values_agree f g y (behind P (leaves_of x) (leaves_of y) h) in
    λ t. operator_value operator w (X t) (Y t)
values_agree f g (Not w x) h = let X = values_agree f g x h in λ t. words.complement w (X t)
values_agree f g (Shifted shift w x k) h = let X = values_agree f g x h in λ t. shift_value shift w (X t) k
values_agree f g (Joined n x y) h =
    let P : ℕ → Type 0 = λ i. f i ≡ g i in
    let X = values_agree f g x (front P (leaves_of x) (leaves_of y) h) in
    let Y = values_agree f g y (behind P (leaves_of x) (leaves_of y) h) in
    λ t. words.concatenation n (X t) (Y t)
values_agree f g (Cut x k n) h = let X = values_agree f g x h in λ t. words.cut (X t) k n
values_agree f g (Extended m n x) h = let X = values_agree f g x h in λ t. words.sign_extension m n (X t)
values_agree f g (Choice c x y) h =
    let P : ℕ → Type 0 = λ i. f i ≡ g i in
    let both : AllByRecursion (λ i. f i ≡ g i) (leaves_of c ++ leaves_of x) = front P (leaves_of c ++ leaves_of x) (leaves_of y) h in
    let C = values_agree f g c (front P (leaves_of c) (leaves_of x) both) in
    let X = values_agree f g x (behind P (leaves_of c) (leaves_of x) both) in
    let Y = values_agree f g y (behind P (leaves_of c ++ leaves_of x) (leaves_of y) h) in
    λ t. words.choice (C t) (X t) (Y t)
values_agree f g (Let i x y) h =
    let P : ℕ → Type 0 = λ i. f i ≡ g i in
    let rest : List ℕ = filter (λ j. not (j == i)) (leaves_of y) in
    let X = values_agree f g x (front P (leaves_of x) rest h) in
    values_agree (with_leaf f i (value f x)) (with_leaf g i (value g x)) y
    (named_agree f g i (value f x) (value g x) X (leaves_of y) (behind P (leaves_of x) rest h))
