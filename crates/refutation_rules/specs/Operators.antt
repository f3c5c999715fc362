-- The operator of a node, and the arguments of an equality.
use Rattle.std.specs.Prelude.{ℕ, Option, Some, None}
use Rattle.insn_ops.specs.declared.side.Side.TheVariants.{Left}
use Rattle.node_values.specs.declared.node.Node.{Node}
use Rattle.node_values.specs.declared.node.Node.TheVariants.{Start, Add, Sub, Mul, And, Or, Xor, Not, Shl, Shr, Sar, Cat, Cut, Sx, Eq, Ult, Slt, If}
use Rattle.node_values.specs.declared.node.NodeId.{NodeId}
use Rattle.refutation_rules.specs.declared.equation.Equation.{Equation}

-- the argument in this place
abbrev pub argument : ℕ → NodeId
argument place = record { 0 = place }

-- The operator of a node: the node with its arguments numbered by their places. A byte of memory is left without its
-- side. Two nodes have one operator where these are equal.
abbrev pub operator_of : Node → Node
operator_of (Start side at) = Start Left (argument 0)
operator_of (Add a b) = Add (argument 0) (argument 1)
operator_of (Sub a b) = Sub (argument 0) (argument 1)
operator_of (Mul a b) = Mul (argument 0) (argument 1)
operator_of (And a b) = And (argument 0) (argument 1)
operator_of (Or a b) = Or (argument 0) (argument 1)
operator_of (Xor a b) = Xor (argument 0) (argument 1)
operator_of (Not a) = Not (argument 0)
operator_of (Shl a k) = Shl (argument 0) k
operator_of (Shr a k) = Shr (argument 0) k
operator_of (Sar a k) = Sar (argument 0) k
operator_of (Cat high low) = Cat (argument 0) (argument 1)
operator_of (Cut a k n) = Cut (argument 0) k n
operator_of (Sx n a) = Sx n (argument 0)
operator_of (Eq a b) = Eq (argument 0) (argument 1)
operator_of (Ult a b) = Ult (argument 0) (argument 1)
operator_of (Slt a b) = Slt (argument 0) (argument 1)
operator_of (If c a b) = If (argument 0) (argument 1) (argument 2)
operator_of node = node

-- the arguments of an equality
abbrev pub equation_in : Node → Option Equation
equation_in (Eq a b) = Some (record { left = a; right = b })
equation_in node = None
