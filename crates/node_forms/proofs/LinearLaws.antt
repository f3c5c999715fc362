-- The parts that a node's low bits come from: lower nodes with as many bits.
use Rattle.std.proofs.Common.{ℕ, zero, suc, ◌+◌, ◌<◌, ◌≤◌, List, Option, Some, None, arith, inl, inr}
use Rattle.std.specs.Prelude.{nat_le}
use Rattle.std.proofs.lemmas.Bool.{cases_Bool, leb-true}
use Rattle.node_values.specs.declared.node.Node.{Node}
use Rattle.node_values.specs.declared.node.Node.TheVariants.{Const, Reg, Entry, VecByte, Start, Probe, Add, Sub, Mul, And, Or, Xor, Not, Shl, Shr, Sar, Cat, Cut, Sx, Eq, Ult, Slt, If}
use Rattle.node_values.specs.declared.node.NodeId.{NodeId}
use Rattle.node_values.specs.Nodes.{IsNode, node_width}
use Rattle.node_values.specs.Sheets.{node_at}
use Rattle.node_forms.specs.declared.linear.Linear.{Linear}
use Rattle.node_forms.specs.declared.linear.Linear.TheVariants.{Atom, Number, Times, Plus, Minus}
use Rattle.node_forms.specs.Linearity.{constant_of, linearity, low_bits_of, product}

-- a fact of each part
abbrev pub AllParts : (NodeId → Type 0) → Linear → Type 0
AllParts P Atom = Unit {0}
AllParts P (Number v) = Unit {0}
AllParts P (Times a v) = P a
AllParts P (Plus a b) = P a × P b
AllParts P (Minus a b) = P a × P b

product_parts : (P : NodeId → Type 0) (a b : NodeId) (first second : Option ℕ) → P a → P b → AllParts P (product a b first second)
product_parts P a b first (Some v) h k = h
product_parts P a b (Some v) None h k = k
product_parts P a b None None h k = tt

low_bits_parts : (P : NodeId → Type 0) (w width : ℕ) (a : NodeId) → (w ≤ width → P a) → AllParts P (low_bits_of w width a)
low_bits_parts P w width a h = elim (cases_Bool (nat_le w width)) [
  | inl wide ↦ rw wide (h (leb-true w width wide))
  | inr narrow ↦ rw narrow tt
]

-- one of the first n nodes, which has w bits or more where a node of this width does
abbrev pub IsLower : (ℕ → ℕ) → ℕ → ℕ → ℕ → NodeId → Type 0
IsLower widths w n width a = (a.0 < n) × (w ≤ width → w ≤ widths a.0)

pub parts_weaker : (P Q : NodeId → Type 0) → ((a : NodeId) → P a → Q a) → (linear : Linear) → AllParts P linear → AllParts Q linear
parts_weaker P Q f Atom h = tt
parts_weaker P Q f (Number v) h = tt
parts_weaker P Q f (Times a v) h = f a h
parts_weaker P Q f (Plus a b) h = (f a h.0, f b h.1)
parts_weaker P Q f (Minus a b) h = (f a h.0, f b h.1)

pub linearity_parts : (ns : List Node) (widths : ℕ → ℕ) (w n : ℕ) (node : Node) → IsNode widths n node
    → AllParts (IsLower widths w n (node_width widths node)) (linearity ns widths w node)
linearity_parts ns widths w n (Const bits v) h = tt
linearity_parts ns widths w n (Reg side r) h = tt
linearity_parts ns widths w n (Entry r) h = tt
linearity_parts ns widths w n (VecByte side r i) h = tt
linearity_parts ns widths w n (Start side at) h = tt
linearity_parts ns widths w n Probe h = tt
linearity_parts ns widths w n (Add a b) h = ((h.0, λ wide. wide), (h.1, λ wide. omega (arith, h.2, wide)))
linearity_parts ns widths w n (Sub a b) h = ((h.0, λ wide. wide), (h.1, λ wide. omega (arith, h.2, wide)))
linearity_parts ns widths w n (Mul a b) h =
    product_parts (IsLower widths w n (widths a.0)) a b (constant_of (node_at ns a.0)) (constant_of (node_at ns b.0)) (h.0, λ wide. wide) (h.1, λ wide. omega (arith, h.2, wide))
linearity_parts ns widths w n (And a b) h = tt
linearity_parts ns widths w n (Or a b) h = tt
linearity_parts ns widths w n (Xor a b) h = tt
linearity_parts ns widths w n (Not a) h = tt
linearity_parts ns widths w n (Shl a k) h = (h.0, λ wide. wide)
linearity_parts ns widths w n (Shr a k) h = tt
linearity_parts ns widths w n (Sar a k) h = tt
linearity_parts ns widths w n (Cat high low) h = low_bits_parts (IsLower widths w n (widths high.0 + widths low.0)) w (widths low.0) low (λ e. (h.1, λ wide. e))
linearity_parts ns widths w n (Cut a zero m) h = low_bits_parts (IsLower widths w n m) w (widths a.0) a (λ e. (h.0, λ wide. e))
linearity_parts ns widths w n (Cut a (suc k) m) h = tt
linearity_parts ns widths w n (Sx m a) h = low_bits_parts (IsLower widths w n m) w (widths a.0) a (λ e. (h.0, λ wide. e))
linearity_parts ns widths w n (Eq a b) h = tt
linearity_parts ns widths w n (Ult a b) h = tt
linearity_parts ns widths w n (Slt a b) h = tt
linearity_parts ns widths w n (If c a b) h = tt
