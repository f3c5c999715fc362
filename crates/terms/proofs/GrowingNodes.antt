-- A node over fewer nodes is one over more.
use Rattle.std.proofs.Common.{ℕ, ◌≤◌, arith}
use Rattle.node_values.specs.declared.node.Node.{Node}
use Rattle.node_values.specs.declared.node.Node.TheVariants.{Const, Reg, Entry, VecByte, Start, Probe, Add, Sub, Mul, And, Or, Xor, Not, Shl, Shr, Sar, Cat, Cut, Sx, Eq, Ult, Slt, If}
use Rattle.node_values.specs.Nodes.{IsNode}

pub IsNode_grows : (widths : ℕ → ℕ) (m n : ℕ) (node : Node) → m ≤ n → IsNode widths m node → IsNode widths n node
IsNode_grows widths m n (Const w v) b h = h
IsNode_grows widths m n (Reg side r) b h = h
IsNode_grows widths m n (Entry r) b h = h
IsNode_grows widths m n (VecByte side r i) b h = h
IsNode_grows widths m n (Start side at) b h = (omega (arith, h.0), h.1)
IsNode_grows widths m n Probe b h = h
IsNode_grows widths m n (Add x y) b h = (omega (arith, h.0), omega (arith, h.1), h.2)
IsNode_grows widths m n (Sub x y) b h = (omega (arith, h.0), omega (arith, h.1), h.2)
IsNode_grows widths m n (Mul x y) b h = (omega (arith, h.0), omega (arith, h.1), h.2)
IsNode_grows widths m n (And x y) b h = (omega (arith, h.0), omega (arith, h.1), h.2)
IsNode_grows widths m n (Or x y) b h = (omega (arith, h.0), omega (arith, h.1), h.2)
IsNode_grows widths m n (Xor x y) b h = (omega (arith, h.0), omega (arith, h.1), h.2)
IsNode_grows widths m n (Eq x y) b h = (omega (arith, h.0), omega (arith, h.1), h.2)
IsNode_grows widths m n (Ult x y) b h = (omega (arith, h.0), omega (arith, h.1), h.2)
IsNode_grows widths m n (Slt x y) b h = (omega (arith, h.0), omega (arith, h.1), h.2)
IsNode_grows widths m n (Not x) b h = omega (arith, h)
IsNode_grows widths m n (Shl x k) b h = (omega (arith, h.0), h.1, h.2)
IsNode_grows widths m n (Shr x k) b h = (omega (arith, h.0), h.1, h.2)
IsNode_grows widths m n (Sar x k) b h = (omega (arith, h.0), h.1, h.2)
IsNode_grows widths m n (Cat x y) b h = (omega (arith, h.0), omega (arith, h.1), h.2)
IsNode_grows widths m n (Cut x k l) b h = (omega (arith, h.0), h.1, h.2)
IsNode_grows widths m n (Sx l x) b h = (omega (arith, h.0), h.1, h.2)
IsNode_grows widths m n (If c x y) b h = (omega (arith, h.0), h.1, (omega (arith, h.2.0), omega (arith, h.2.1), h.2.2))
