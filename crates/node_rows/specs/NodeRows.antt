-- The row of a node, from the variables of the lowest bits of nodes, their widths, and its own lowest variable r. Its
-- helpers stand behind its bits.
use Rattle.std.specs.Prelude.{ℕ, ◌+◌, ◌-◌, ◌^◌, ◌<◌, ◌≤◌, List, [], Option, Some, None, length, slice_index}
use Rattle.clauses.specs.declared.clause.Lit.{Lit}
use Rattle.clause_words.specs.Products.{product_helpers, product_row}
use Rattle.clause_words.specs.Rows.{equal_row, row_clauses}
use Rattle.clause_words.specs.declared.row.Row.{Row}
use Rattle.clause_words.specs.declared.row.Row.TheVariants as rows
use Rattle.node_values.specs.declared.node.Node.{Node}
use Rattle.node_values.specs.declared.node.Node.TheVariants.{Const, Add, Sub, Mul, And, Or, Xor, Not, Shl, Shr, Sar, Cat, Cut, Sx, Eq, Ult, Slt, If}

-- how many helpers the row of a node has
abbrev pub helpers_of : (ℕ → ℕ) → Node → ℕ
helpers_of widths (Add a b) = widths a.0 - 1
helpers_of widths (Sub a b) = widths a.0 - 1
helpers_of widths (Mul a b) = product_helpers (widths a.0)
helpers_of widths (Eq a b) = widths a.0
helpers_of widths (Ult a b) = widths a.0 - 1
helpers_of widths (Slt a b) = widths a.0 - 1
helpers_of widths _ = 0

-- the columns of a node's row: how many, and of which row
abbrev pub node_row : (ℕ → ℕ) → (ℕ → ℕ) → ℕ → Node → Option (ℕ × Row)
node_row first widths r (Const w v) = Some (w, rows.Const r v)
node_row first widths r (Add a b) =
    Some (widths a.0, rows.Sum (widths a.0) r (first a.0) (first b.0) (r + widths a.0))
node_row first widths r (Sub a b) =
    Some (widths a.0, rows.Sum (widths a.0) (first a.0) r (first b.0) (r + widths a.0))
node_row first widths r (And a b) = Some (widths a.0, rows.And r (first a.0) (first b.0))
node_row first widths r (Or a b) = Some (widths a.0, rows.Or r (first a.0) (first b.0))
node_row first widths r (Xor a b) = Some (widths a.0, rows.Xor r (first a.0) (first b.0))
node_row first widths r (Not a) = Some (widths a.0, rows.Not r (first a.0))
node_row first widths r (Shl a k) = Some (widths a.0, rows.Shl r (first a.0) k)
node_row first widths r (Shr a k) = Some (widths a.0, rows.Shr (widths a.0) r (first a.0) k)
node_row first widths r (Sar a k) = Some (widths a.0, rows.Sar (widths a.0) r (first a.0) k)
node_row first widths r (Cat high low) =
    Some (widths high.0 + widths low.0, rows.Cat (widths low.0) r (first high.0) (first low.0))
node_row first widths r (Cut a k n) = Some (n, rows.Cut r (first a.0) k)
node_row first widths r (Sx n a) = Some (n, rows.Sx (widths a.0) r (first a.0))
node_row first widths r (Ult a b) = Some (widths a.0, rows.Less (widths a.0) r (first a.0) (first b.0) (r + 1))
node_row first widths r (Slt a b) = Some (widths a.0, rows.SignedLess (widths a.0) r (first a.0) (first b.0) (r + 1))
node_row first widths r (If c a b) = Some (widths a.0, rows.If r (first c.0) (first a.0) (first b.0))
node_row first widths r _ = None

-- the clauses of columns, if there are some
abbrev pub columns_of : Option (ℕ × Row) → List (List Lit)
columns_of None = []
columns_of (Some row) = row_clauses row.0 row.1

-- The clauses of a node. Products and equalities have more than columns; inputs and bytes of memory have none.
abbrev pub node_clauses : (ℕ → ℕ) → (ℕ → ℕ) → ℕ → Node → List (List Lit)
node_clauses first widths r (Mul a b) = product_row (widths a.0) r (first a.0) (first b.0) (r + widths a.0)
node_clauses first widths r (Eq a b) = equal_row (widths a.0) r (first a.0) (first b.0) (r + 1)
node_clauses first widths r node = columns_of (node_row first widths r node)

-- the variables of the nodes before have room for 64 bits each
abbrev pub HaveRoom : List ℕ → Type 0
HaveRoom firsts = (i : ℕ) → i < length firsts → slice_index firsts i + 64 ≤ 2 ^ 32
