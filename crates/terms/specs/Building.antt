-- An expression over words, built into a sheet over nodes: operator by operator, the arguments first, from left to
-- right, each by the rules.
use Rattle.std.specs.Prelude.{◌≡◌, ℕ, ◌<◌, ◌==◌, List, length, if◌then◌else◌}
use Rattle.insn_semantics.specs.Exprs as exprs
use Rattle.insn_semantics.specs.Formed.{expr_width}
use Rattle.node_values.specs.declared.node.Node.{Node}
use Rattle.node_values.specs.declared.node.Node.TheVariants as nodes
use Rattle.node_values.specs.declared.node.NodeId.{NodeId}
use Rattle.node_values.specs.Sheets.{Extends, IsSheet, value_at, width_at}
use Rattle.node_values.specs.Values.{Environment}
use Rattle.terms.specs.Made.{Made, made}

-- the node of an operator
abbrev pub operator_node : exprs.Operator → NodeId → NodeId → Node
operator_node exprs.Plus a b = nodes.Add a b
operator_node exprs.Minus a b = nodes.Sub a b
operator_node exprs.Times a b = nodes.Mul a b
operator_node exprs.And a b = nodes.And a b
operator_node exprs.Or a b = nodes.Or a b
operator_node exprs.Xor a b = nodes.Xor a b
operator_node exprs.Equal a b = nodes.Eq a b
operator_node exprs.Below a b = nodes.Ult a b
operator_node exprs.SignedBelow a b = nodes.Slt a b

-- a shift of a node by k bits
abbrev pub shift_node : exprs.Shift → NodeId → ℕ → Node
shift_node exprs.Left a k = nodes.Shl a k
shift_node exprs.Right a k = nodes.Shr a k
shift_node exprs.Signed a k = nodes.Sar a k

-- the leaves with leaf i being the node a
abbrev pub with_node_leaf : (ℕ → NodeId) → ℕ → NodeId → ℕ → NodeId
with_node_leaf leaves i a j = if j == i then a else leaves j

-- the sheet after an expression is built over it, where leaf i is the node that leaves gives to i, and the
-- expression's node
unfoldable pub built : List Node → (ℕ → NodeId) → exprs.Expr → Made
built ns leaves (exprs.Leaf i) = record { nodes = ns; id = leaves i }
built ns leaves (exprs.Number w v) = made ns (nodes.Const w v)
built ns leaves (exprs.Two operator w x y) =
    let first = built ns leaves x in
    let second = built first.nodes leaves y in
    made second.nodes (operator_node operator first.id second.id)
built ns leaves (exprs.Not w x) = let first = built ns leaves x in made first.nodes (nodes.Not first.id)
built ns leaves (exprs.Shifted shift w x k) = let first = built ns leaves x in made first.nodes (shift_node shift first.id k)
built ns leaves (exprs.Joined n x y) =
    let first = built ns leaves x in
    let second = built first.nodes leaves y in
    made second.nodes (nodes.Cat first.id second.id)
built ns leaves (exprs.Cut x k n) = let first = built ns leaves x in made first.nodes (nodes.Cut first.id k n)
built ns leaves (exprs.Extended m n x) = let first = built ns leaves x in made first.nodes (nodes.Sx n first.id)
built ns leaves (exprs.Choice c x y) =
    let test = built ns leaves c in
    let first = built test.nodes leaves x in
    let second = built first.nodes leaves y in
    made second.nodes (nodes.If test.id first.id second.id)
built ns leaves (exprs.Let i x y) = let first = built ns leaves x in built first.nodes (with_node_leaf leaves i first.id) y

-- a built expression: older nodes stay, the sheet is one, and the node has the expression's width and, in every
-- environment, its value
pub record HasValue (ns : List Node) (leaves : ℕ → NodeId) (x : exprs.Expr) (m : Made) : Type 0 where
  pub extends : Extends ns m.nodes
  pub sheet : IsSheet m.nodes
  pub inside : m.id.0 < length m.nodes
  pub width : width_at m.nodes m.id.0 ≡ expr_width (λ i. width_at ns (leaves i).0) x
  pub value : (e : Environment) → value_at e m.nodes m.id.0 ≡ exprs.value (λ i. value_at e ns (leaves i).0) x
