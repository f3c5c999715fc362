-- Expressions as trees of the code.
use Rattle.std.specs.Prelude.{ℕ, ◌<◌, List, slice_index_or}
use Rattle.insn_semantics.specs.Exprs as exprs
use Rattle.node_values.specs.declared.node.NodeId.{NodeId}
use Rattle.sym_exprs.specs.declared.tree.ExprTree.{ExprTree}
use Rattle.sym_exprs.specs.declared.tree.ExprTree.TheVariants.{Leaf, Number, Two', Not', Shifted', Joined', Cut', Extended', Choice', Let'}
use Rattle.sym_exprs.specs.declared.tree.Operator.{Operator}
use Rattle.sym_exprs.specs.declared.tree.Operator.TheVariants as operators
use Rattle.sym_exprs.specs.declared.tree.Shift.{Shift}
use Rattle.sym_exprs.specs.declared.tree.Shift.TheVariants as shifts

-- the operator of an expression
abbrev pub operator_of : Operator → exprs.Operator
operator_of operators.Plus = exprs.Plus
operator_of operators.Minus = exprs.Minus
operator_of operators.Times = exprs.Times
operator_of operators.And = exprs.And
operator_of operators.Or = exprs.Or
operator_of operators.Xor = exprs.Xor
operator_of operators.Equal = exprs.Equal
operator_of operators.Below = exprs.Below
operator_of operators.SignedBelow = exprs.SignedBelow

-- its shift
abbrev pub shift_of : Shift → exprs.Shift
shift_of shifts.Left = exprs.Left
shift_of shifts.Right = exprs.Right
shift_of shifts.Signed = exprs.Signed

-- the expression that a tree is; p, q and r are where its parts lie
abbrev pub expr_of : ExprTree → exprs.Expr
expr_of (Leaf i) = exprs.Leaf i
expr_of (Number w v) = exprs.Number w v
expr_of (Two' operator w p x q y) = exprs.Two (operator_of operator) w (expr_of x) (expr_of y)
expr_of (Not' w p x) = exprs.Not w (expr_of x)
expr_of (Shifted' shift w p x k) = exprs.Shifted (shift_of shift) w (expr_of x) k
expr_of (Joined' n p x q y) = exprs.Joined n (expr_of x) (expr_of y)
expr_of (Cut' p x k n) = exprs.Cut (expr_of x) k n
expr_of (Extended' m n p x) = exprs.Extended m n (expr_of x)
expr_of (Choice' p c q x r y) = exprs.Choice (expr_of c) (expr_of x) (expr_of y)
expr_of (Let' i p x q y) = exprs.Let i (expr_of x) (expr_of y)

-- each name that an expression gives to a part is below n
abbrev pub NamesBelow : ℕ → exprs.Expr → Type 0
NamesBelow n (exprs.Leaf i) = Unit {0}
NamesBelow n (exprs.Number w v) = Unit {0}
NamesBelow n (exprs.Two operator w x y) = NamesBelow n x × NamesBelow n y
NamesBelow n (exprs.Not w x) = NamesBelow n x
NamesBelow n (exprs.Shifted shift w x k) = NamesBelow n x
NamesBelow n (exprs.Joined m x y) = NamesBelow n x × NamesBelow n y
NamesBelow n (exprs.Cut x k m) = NamesBelow n x
NamesBelow n (exprs.Extended k m x) = NamesBelow n x
NamesBelow n (exprs.Choice c x y) = NamesBelow n c × NamesBelow n x × NamesBelow n y
NamesBelow n (exprs.Let i x y) = (i < n) × NamesBelow n x × NamesBelow n y

-- the nodes of the leaves by number; node 0 past the end
abbrev pub leaf_node : List NodeId → ℕ → NodeId
leaf_node leaves i = slice_index_or leaves i (record { 0 = 0 })
