-- Rows over the same variables and widths are the same.
use Rattle.std.proofs.Common.{◌≡◌, ℕ, zero, suc, ◌+◌, ◌-◌, ◌*◌, ◌≤◌, List, [], ◌++◌, refl, sym, ◌∙◌, ap, arith}
use Rattle.std.proofs.lemmas.List.{append-nil}
use Rattle.clauses.specs.declared.clause.Lit.{Lit}
use Rattle.clause_words.specs.Products.{product_helpers, product_row, stage_start}
use Rattle.clause_words.specs.Rows.{columns, equal_row, row_clauses}
use Rattle.clause_words.specs.declared.row.Row.TheVariants as rows
use Rattle.node_rows.specs.NodeRows.{helpers_of, node_clauses}
use Rattle.node_values.specs.declared.node.Node.{Node}
use Rattle.node_values.specs.declared.node.Node.TheVariants.{Const, Reg, Entry, VecByte, Start, Probe, Add, Sub, Mul, And, Or, Xor, Not, Shl, Shr, Sar, Cat, Cut, Sx, Eq, Ult, Slt, If}
use Rattle.node_values.proofs.NodeLaws.{AllArguments}

module _ (f g u v : ℕ → ℕ) where
  -- two numbers have the same variable and width
  abbrev pub HasSame : ℕ → Type 0
  HasSame j = (f j ≡ g j) × (u j ≡ v j)

  module _ (r : ℕ) where
    -- the clauses of a node speak of the variables and the widths of its arguments alone
    pub node_clauses_same : (node : Node) → AllArguments HasSame node → node_clauses f u r node ≡ node_clauses g v r node
    node_clauses_same (Const w n) h = refl
    node_clauses_same (Reg side n) h = refl
    node_clauses_same (Entry n) h = refl
    node_clauses_same (VecByte side n i) h = refl
    node_clauses_same (Start side at) h = refl
    node_clauses_same Probe h = refl
    node_clauses_same (Add a b) h = λ i. row_clauses (h.0.1 i) (rows.Sum (h.0.1 i) r (h.0.0 i) (h.1.0.0 i) (r + h.0.1 i))
    node_clauses_same (Sub a b) h = λ i. row_clauses (h.0.1 i) (rows.Sum (h.0.1 i) (h.0.0 i) r (h.1.0.0 i) (r + h.0.1 i))
    node_clauses_same (Mul a b) h = λ i. product_row (h.0.1 i) r (h.0.0 i) (h.1.0.0 i) (r + h.0.1 i)
    node_clauses_same (And a b) h = λ i. row_clauses (h.0.1 i) (rows.And r (h.0.0 i) (h.1.0.0 i))
    node_clauses_same (Or a b) h = λ i. row_clauses (h.0.1 i) (rows.Or r (h.0.0 i) (h.1.0.0 i))
    node_clauses_same (Xor a b) h = λ i. row_clauses (h.0.1 i) (rows.Xor r (h.0.0 i) (h.1.0.0 i))
    node_clauses_same (Not a) h = λ i. row_clauses (h.0.1 i) (rows.Not r (h.0.0 i))
    node_clauses_same (Shl a k) h = λ i. row_clauses (h.0.1 i) (rows.Shl r (h.0.0 i) k)
    node_clauses_same (Shr a k) h = λ i. row_clauses (h.0.1 i) (rows.Shr (h.0.1 i) r (h.0.0 i) k)
    node_clauses_same (Sar a k) h = λ i. row_clauses (h.0.1 i) (rows.Sar (h.0.1 i) r (h.0.0 i) k)
    node_clauses_same (Cat high low) h = λ i. row_clauses (h.0.1 i + h.1.0.1 i) (rows.Cat (h.1.0.1 i) r (h.0.0 i) (h.1.0.0 i))
    node_clauses_same (Cut a k n) h = λ i. row_clauses n (rows.Cut r (h.0.0 i) k)
    node_clauses_same (Sx n a) h = λ i. row_clauses n (rows.Sx (h.0.1 i) r (h.0.0 i))
    node_clauses_same (Eq a b) h = λ i. equal_row (h.0.1 i) r (h.0.0 i) (h.1.0.0 i) (r + 1)
    node_clauses_same (Ult a b) h = λ i. row_clauses (h.0.1 i) (rows.Less (h.0.1 i) r (h.0.0 i) (h.1.0.0 i) (r + 1))
    node_clauses_same (Slt a b) h = λ i. row_clauses (h.0.1 i) (rows.SignedLess (h.0.1 i) r (h.0.0 i) (h.1.0.0 i) (r + 1))
    node_clauses_same (If c a b) h = λ i. row_clauses (h.1.0.1 i) (rows.If r (h.0.0 i) (h.1.0.0 i) (h.1.1.0.0 i))

-- the helpers depend on the widths of the arguments alone
pub helpers_same : (u v : ℕ → ℕ) (node : Node) → AllArguments (λ j. u j ≡ v j) node → helpers_of u node ≡ helpers_of v node
helpers_same u v (Const w n) h = refl
helpers_same u v (Reg side n) h = refl
helpers_same u v (Entry n) h = refl
helpers_same u v (VecByte side n i) h = refl
helpers_same u v (Start side at) h = refl
helpers_same u v Probe h = refl
helpers_same u v (Add a b) h = λ i. h.0 i - 1
helpers_same u v (Sub a b) h = λ i. h.0 i - 1
helpers_same u v (Mul a b) h = λ i. product_helpers (h.0 i)
helpers_same u v (And a b) h = refl
helpers_same u v (Or a b) h = refl
helpers_same u v (Xor a b) h = refl
helpers_same u v (Not a) h = refl
helpers_same u v (Shl a k) h = refl
helpers_same u v (Shr a k) h = refl
helpers_same u v (Sar a k) h = refl
helpers_same u v (Cat a b) h = refl
helpers_same u v (Cut a k n) h = refl
helpers_same u v (Sx n a) h = refl
helpers_same u v (Eq a b) h = h.0
helpers_same u v (Ult a b) h = λ i. h.0 i - 1
helpers_same u v (Slt a b) h = λ i. h.0 i - 1
helpers_same u v (If c a b) h = refl

stage_few : (w k : ℕ) → w ≤ 64 → stage_start w 0 k ≤ 64 + 192 * k
stage_few w zero h = omega arith
stage_few w (suc k) h =
    let before : stage_start w 0 k ≤ 64 + 192 * k = stage_few w k h in
    omega arith

product_few : (w : ℕ) → w ≤ 64 → product_helpers w ≤ 12352
product_few w h =
    let few : stage_start w 0 (w - 1) ≤ 64 + 192 * (w - 1) = stage_few w (w - 1) h in
    omega (arith, few)

-- a node over words has few helpers
pub helpers_few : (u : ℕ → ℕ) (node : Node) → AllArguments (λ j. u j ≤ 64) node → helpers_of u node ≤ 12352
helpers_few u (Const w n) h = omega arith
helpers_few u (Reg side n) h = omega arith
helpers_few u (Entry n) h = omega arith
helpers_few u (VecByte side n i) h = omega arith
helpers_few u (Start side at) h = omega arith
helpers_few u Probe h = omega arith
helpers_few u (Add a b) h = omega (arith, h.0)
helpers_few u (Sub a b) h = omega (arith, h.0)
helpers_few u (Mul a b) h = product_few (u a.0) h.0
helpers_few u (And a b) h = omega arith
helpers_few u (Or a b) h = omega arith
helpers_few u (Xor a b) h = omega arith
helpers_few u (Not a) h = omega arith
helpers_few u (Shl a k) h = omega arith
helpers_few u (Shr a k) h = omega arith
helpers_few u (Sar a k) h = omega arith
helpers_few u (Cat a b) h = omega arith
helpers_few u (Cut a k n) h = omega arith
helpers_few u (Sx n a) h = omega arith
helpers_few u (Eq a b) h = omega (arith, h.0)
helpers_few u (Ult a b) h = omega (arith, h.0)
helpers_few u (Slt a b) h = omega (arith, h.0)
helpers_few u (If c a b) h = omega arith

-- columns from n on that have no clauses
columns_stop : (f : ℕ → List (List Lit)) (n m : ℕ) → ((k : ℕ) → n ≤ k → f k ≡ []) → columns f (n + m) ≡ columns f n
columns_stop f n zero h = let none : n + zero ≡ n = omega arith in ap (columns f) none
columns_stop f n (suc m) h =
    let next : n + suc m ≡ suc (n + m) = omega arith in
    ap (columns f) next ∙ ap (λ (z : List (List Lit)). columns f (n + m) ++ z) (h (n + m) (omega arith))
    ∙ append-nil (columns f (n + m)) ∙ columns_stop f n m h

-- columns of which those from m on, and those from n on, have no clauses
pub columns_end : (f : ℕ → List (List Lit)) (m n : ℕ) → ((k : ℕ) → m ≤ k → f k ≡ []) → ((k : ℕ) → n ≤ k → f k ≡ []) → columns f m ≡ columns f n
columns_end f m n p q =
    let turned : m + n ≡ n + m = omega arith in
    sym (columns_stop f m n p) ∙ ap (columns f) turned ∙ columns_stop f n m q
