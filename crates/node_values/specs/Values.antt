-- The value of a node in an environment: arithmetic modulo 2^w on the values of its arguments, where w is the node's
-- width. The operators are those of the words of `insn_semantics`.
use Rattle.std.specs.Prelude.{ℕ, ◌%◌, ◌^◌, bit_and, bit_or, bit_xor, slice_index}
use Rattle.insn_ops.specs.declared.side.Side.{Side}
use Rattle.insn_semantics.specs.Words as words
use Rattle.node_values.specs.declared.node.Node.{Node}
use Rattle.node_values.specs.declared.node.Node.TheVariants.{Const, Reg, Entry, VecByte, Start, Probe, Add, Sub, Mul, And, Or, Xor, Not, Shl, Shr, Sar, Cat, Cut, Sx, Eq, Ult, Slt, If}
use Rattle.node_values.specs.Nodes.{arguments}

-- What nodes read: the registers, vector bytes and memories of both sides, the registers at the entry, and the probe.
-- Of a number too large for its place the low bits count.
pub record Environment : Type 0 where
  pub regs : Side → ℕ → ℕ
  pub entry : ℕ → ℕ
  pub vecs : Side → ℕ → ℕ → ℕ
  pub memory : Side → ℕ → ℕ
  pub probe : ℕ

-- the value of a node that reads nothing but its arguments, whose values are x, y and z in order
abbrev pub operation : (ℕ → ℕ) → Node → ℕ → ℕ → ℕ → ℕ
operation widths (Const w v) x y z = v
operation widths (Add a b) x y z = words.plus (widths a.0) x y
operation widths (Sub a b) x y z = words.minus (widths a.0) x y
operation widths (Mul a b) x y z = words.times (widths a.0) x y
operation widths (And a b) x y z = bit_and x y
operation widths (Or a b) x y z = bit_or x y
operation widths (Xor a b) x y z = bit_xor x y
operation widths (Not a) x y z = words.complement (widths a.0) x
operation widths (Shl a k) x y z = words.left_shift (widths a.0) x k
operation widths (Shr a k) x y z = words.right_shift x k
operation widths (Sar a k) x y z = words.signed_shift (widths a.0) x k
operation widths (Cat high low) x y z = words.concatenation (widths low.0) x y
operation widths (Cut a k n) x y z = words.cut x k n
operation widths (Sx n a) x y z = words.sign_extension (widths a.0) n x
operation widths (Eq a b) x y z = words.equal x y
operation widths (Ult a b) x y z = words.below x y
operation widths (Slt a b) x y z = words.signed_below (widths a.0) x y
operation widths (If c a b) x y z = words.choice x y z
operation widths _ x y z = 0

-- the value of a node in an environment, from the widths and the values of the nodes by number
abbrev pub node_value : Environment → (ℕ → ℕ) → (ℕ → ℕ) → Node → ℕ
node_value e widths values (Reg side r) = e.regs side r % 2 ^ 64
node_value e widths values (Entry r) = e.entry r % 2 ^ 64
node_value e widths values (VecByte side r i) = e.vecs side r i % 2 ^ 8
node_value e widths values (Start side at) = e.memory side (values at.0) % 2 ^ 8
node_value e widths values Probe = e.probe % 2 ^ 64
node_value e widths values n =
    operation widths n
    (values (slice_index (arguments n) 0)) (values (slice_index (arguments n) 1)) (values (slice_index (arguments n) 2))
