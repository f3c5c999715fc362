-- How the low w bits of a node come from those of its arguments, modulo 2^w.
use Rattle.std.specs.Prelude.{ℕ, zero, suc, ◌^◌, List, Option, Some, None, nat_le, if◌then◌else◌}
use Rattle.node_values.specs.declared.node.Node.{Node}
use Rattle.node_values.specs.declared.node.Node.TheVariants.{Const, Add, Sub, Mul, Shl, Cat, Cut, Sx}
use Rattle.node_values.specs.declared.node.NodeId.{NodeId}
use Rattle.node_values.specs.Sheets.{node_at}
use Rattle.node_forms.specs.declared.linear.Linear.{Linear}
use Rattle.node_forms.specs.declared.linear.Linear.TheVariants.{Atom, Number, Times, Plus, Minus}

-- the number of a constant
abbrev pub constant_of : Node → Option ℕ
constant_of (Const w v) = Some v
constant_of _ = None

-- a product with a constant is a multiple of the other argument
abbrev pub product : NodeId → NodeId → Option ℕ → Option ℕ → Linear
product a b first (Some v) = Times a v
product a b (Some v) None = Times b v
product a b None None = Atom

-- the low w bits of an argument of this width, where it has as many
abbrev pub low_bits_of : ℕ → ℕ → NodeId → Linear
low_bits_of w width a = if nat_le w width then Times a 1 else Atom

-- Constants, sums, differences, products with a constant and shifts to the left are linear. A cut from bit 0 on, an
-- extension by the sign and a join have the low bits of their (last) argument, as far as its width goes. Every other
-- node is an atom, as its low w bits.
abbrev pub linearity : List Node → (ℕ → ℕ) → ℕ → Node → Linear
linearity ns widths w (Const bits v) = Number v
linearity ns widths w (Add a b) = Plus a b
linearity ns widths w (Sub a b) = Minus a b
linearity ns widths w (Mul a b) = product a b (constant_of (node_at ns a.0)) (constant_of (node_at ns b.0))
linearity ns widths w (Shl a k) = Times a (2 ^ k)
linearity ns widths w (Cut a zero n) = low_bits_of w (widths a.0) a
linearity ns widths w (Cut a (suc k) n) = Atom
linearity ns widths w (Sx n a) = low_bits_of w (widths a.0) a
linearity ns widths w (Cat high low) = low_bits_of w (widths low.0) low
linearity ns widths w _ = Atom
