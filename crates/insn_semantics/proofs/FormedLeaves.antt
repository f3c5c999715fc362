-- Whether an expression is formed depends only on the widths of the leaves that it names.
use Rattle.std.proofs.Common.{◌≡◌, ℕ, ◌+◌, ◌==◌, List, [], ◌∷◌, ◌++◌, refl, sym, ◌∙◌, ap, inl, inr, arith}
use Rattle.std.specs.Prelude.{filter, not}
use Rattle.std.specs.List.{AllByRecursion}
use Rattle.std.proofs.lemmas.Bool.{cases_Bool}
use Rattle.insn_semantics.specs.Exprs.{Expr, Leaf, Number, Two, Not, Shifted, Joined, Cut, Extended, Choice, Let, leaves_of, with_leaf}
use Rattle.insn_semantics.specs.Formed.{IsFormed, IsFormedAt, expr_width}

-- what holds of two lists together holds of each
all_front : (P : ℕ → Type 0) (xs ys : List ℕ) → AllByRecursion P (xs ++ ys) → AllByRecursion P xs
all_front P [] ys h = tt
all_front P (x ∷ xs) ys h = (h.0, all_front P xs ys h.1)

all_back : (P : ℕ → Type 0) (xs ys : List ℕ) → AllByRecursion P (xs ++ ys) → AllByRecursion P ys
all_back P [] ys h = h
all_back P (x ∷ xs) ys h = all_back P xs ys h.1

-- the leaves with one more name agree where the others do
named_same : (widths others : ℕ → ℕ) (i m n : ℕ) → m ≡ n → (xs : List ℕ)
    → AllByRecursion (λ j. others j ≡ widths j) (filter (λ j. not (j == i)) xs)
    → AllByRecursion (λ j. with_leaf others i m j ≡ with_leaf widths i n j) xs
named_same widths others i m n e [] h = tt
named_same widths others i m n e (x ∷ xs) h = elim (cases_Bool (x == i)) [
  | inl t ↦
      let rest = rw t at h in
      (rw t e, named_same widths others i m n e xs rest)
  | inr f ↦
      let both = rw f at h in
      (rw f both.0, named_same widths others i m n e xs both.1)
]

-- the widths of leaves agree at those that the expression names
abbrev Agree : (ℕ → ℕ) → (ℕ → ℕ) → Expr → Type 0
Agree widths others x = AllByRecursion (λ i. others i ≡ widths i) (leaves_of x)

-- the same width, and formed where it was
record Keeps (widths others : ℕ → ℕ) (x : Expr) : Type 0 where
  width : expr_width others x ≡ expr_width widths x
  formed : IsFormed widths x → IsFormed others x

-- by induction over the expression
keeps : (widths others : ℕ → ℕ) (x : Expr) → Agree widths others x → Keeps widths others x
keeps widths others (Leaf i) h = record { width = h.0; formed = λ f. tt }
keeps widths others (Number w v) h = record { width = refl; formed = λ f. f }
keeps widths others (Two operator w x y) h =
    let P : ℕ → Type 0 = λ i. others i ≡ widths i in
    let X = keeps widths others x (all_front P (leaves_of x) (leaves_of y) h) in
    let Y = keeps widths others y (all_back P (leaves_of x) (leaves_of y) h) in
    record { width = refl; formed = λ f. (X.width ∙ f.0, Y.width ∙ f.1, X.formed f.2, Y.formed f.3) }
keeps widths others (Not w x) h =
    let X = keeps widths others x h in
    record { width = refl; formed = λ f. (X.width ∙ f.0, X.formed f.1) }
keeps widths others (Shifted shift w x k) h =
    let X = keeps widths others x h in
    record { width = refl; formed = λ f. (X.width ∙ f.0, f.1, f.2, X.formed f.3) }
keeps widths others (Joined n x y) h =
    let P : ℕ → Type 0 = λ i. others i ≡ widths i in
    let X = keeps widths others x (all_front P (leaves_of x) (leaves_of y) h) in
    let Y = keeps widths others y (all_back P (leaves_of x) (leaves_of y) h) in
    record { width = ap (λ m. m + n) X.width; formed = λ f. (Y.width ∙ f.0, omega (arith, X.width, f.1), X.formed f.2, Y.formed f.3) }
keeps widths others (Cut x k n) h =
    let X = keeps widths others x h in
    record { width = refl; formed = λ f. (f.0, omega (arith, X.width, f.1), X.formed f.2) }
keeps widths others (Extended m n x) h =
    let X = keeps widths others x h in
    record { width = refl; formed = λ f. (X.width ∙ f.0, f.1, f.2, X.formed f.3) }
keeps widths others (Choice c x y) h =
    let P : ℕ → Type 0 = λ i. others i ≡ widths i in
    let front : AllByRecursion (λ i. others i ≡ widths i) (leaves_of c ++ leaves_of x) = all_front P (leaves_of c ++ leaves_of x) (leaves_of y) h in
    let C = keeps widths others c (all_front P (leaves_of c) (leaves_of x) front) in
    let X = keeps widths others x (all_back P (leaves_of c) (leaves_of x) front) in
    let Y = keeps widths others y (all_back P (leaves_of c ++ leaves_of x) (leaves_of y) h) in
    record {
      width = X.width;
      formed = λ f. (C.width ∙ f.0, X.width ∙ f.1 ∙ sym Y.width, C.formed f.2, X.formed f.3, Y.formed f.4);
    }
keeps widths others (Let i x y) h =
    let P : ℕ → Type 0 = λ i. others i ≡ widths i in
    let named : List ℕ = filter (λ j. not (j == i)) (leaves_of y) in
    let X = keeps widths others x (all_front P (leaves_of x) named h) in
    let Y = keeps (with_leaf widths i (expr_width widths x)) (with_leaf others i (expr_width others x)) y
    (named_same widths others i (expr_width others x) (expr_width widths x) X.width (leaves_of y) (all_back P (leaves_of x) named h)) in
    record { width = Y.width; formed = λ f. (X.formed f.0, Y.formed f.1) }

-- an expression that is formed over some leaves is formed over others of the same widths
pub formed_by_leaves : (widths others : ℕ → ℕ) (n : ℕ) (x : Expr) → AllByRecursion (λ i. others i ≡ widths i) (leaves_of x)
    → IsFormedAt widths n x → IsFormedAt others n x
formed_by_leaves widths others n x agree h =
    let K = keeps widths others x agree in
    record { formed = K.formed h.formed; width = K.width ∙ h.width }
