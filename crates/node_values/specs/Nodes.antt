-- Nodes: their arguments, their widths, and which nodes there are.
use Rattle.std.specs.Prelude.{◌≡◌, ℕ, ◌+◌, ◌^◌, ◌<◌, ◌≤◌, List, [], ◌∷◌, length, slice_index}
use Rattle.node_values.specs.declared.node.Node.{Node}
use Rattle.node_values.specs.declared.node.Node.TheVariants.{Const, Reg, Entry, VecByte, Start, Probe, Add, Sub, Mul, And, Or, Xor, Not, Shl, Shr, Sar, Cat, Cut, Sx, Eq, Ult, Slt, If}

-- the numbers of a node's arguments, in order
abbrev pub arguments : Node → List ℕ
arguments (Const w v) = []
arguments (Reg side r) = []
arguments (Entry r) = []
arguments (VecByte side r i) = []
arguments (Start side at) = at.0 ∷ []
arguments Probe = []
arguments (Add a b) = a.0 ∷ b.0 ∷ []
arguments (Sub a b) = a.0 ∷ b.0 ∷ []
arguments (Mul a b) = a.0 ∷ b.0 ∷ []
arguments (And a b) = a.0 ∷ b.0 ∷ []
arguments (Or a b) = a.0 ∷ b.0 ∷ []
arguments (Xor a b) = a.0 ∷ b.0 ∷ []
arguments (Not a) = a.0 ∷ []
arguments (Shl a k) = a.0 ∷ []
arguments (Shr a k) = a.0 ∷ []
arguments (Sar a k) = a.0 ∷ []
arguments (Cat high low) = high.0 ∷ low.0 ∷ []
arguments (Cut a k n) = a.0 ∷ []
arguments (Sx n a) = a.0 ∷ []
arguments (Eq a b) = a.0 ∷ b.0 ∷ []
arguments (Ult a b) = a.0 ∷ b.0 ∷ []
arguments (Slt a b) = a.0 ∷ b.0 ∷ []
arguments (If c a b) = c.0 ∷ a.0 ∷ b.0 ∷ []

-- the width of a node in bits, from the widths of the nodes by number
abbrev pub node_width : (ℕ → ℕ) → Node → ℕ
node_width widths (Const w v) = w
node_width widths (Reg side r) = 64
node_width widths (Entry r) = 64
node_width widths (VecByte side r i) = 8
node_width widths (Start side at) = 8
node_width widths Probe = 64
node_width widths (Add a b) = widths a.0
node_width widths (Sub a b) = widths a.0
node_width widths (Mul a b) = widths a.0
node_width widths (And a b) = widths a.0
node_width widths (Or a b) = widths a.0
node_width widths (Xor a b) = widths a.0
node_width widths (Not a) = widths a.0
node_width widths (Shl a k) = widths a.0
node_width widths (Shr a k) = widths a.0
node_width widths (Sar a k) = widths a.0
node_width widths (Cat high low) = widths high.0 + widths low.0
node_width widths (Cut a k n) = n
node_width widths (Sx n a) = n
node_width widths (Eq a b) = 1
node_width widths (Ult a b) = 1
node_width widths (Slt a b) = 1
node_width widths (If c a b) = widths a.0

-- two nodes of those below n, of one width
abbrev pub AreAlike : (ℕ → ℕ) → ℕ → ℕ → ℕ → Type 0
AreAlike widths n a b = (a < n) × (b < n) × (widths a ≡ widths b)

-- A node over the n nodes before it: its arguments are among them and their widths agree, its own width is from
-- 1 to 64, there are 16 registers of each kind, vectors have 32 bytes, a shift is by less than the width and not
-- by 0, a cut lies within its argument, and the sign extends to more bits.
abbrev pub IsNode : (ℕ → ℕ) → ℕ → Node → Type 0
IsNode widths n (Const w v) = (0 < w) × (w ≤ 64) × (v < 2 ^ w)
IsNode widths n (Reg side r) = r < 16
IsNode widths n (Entry r) = r < 16
IsNode widths n (VecByte side r i) = (r < 16) × (i < 32)
IsNode widths n (Start side at) = (at.0 < n) × (widths at.0 ≡ 64)
IsNode widths n Probe = Unit {0}
IsNode widths n (Add a b) = AreAlike widths n a.0 b.0
IsNode widths n (Sub a b) = AreAlike widths n a.0 b.0
IsNode widths n (Mul a b) = AreAlike widths n a.0 b.0
IsNode widths n (And a b) = AreAlike widths n a.0 b.0
IsNode widths n (Or a b) = AreAlike widths n a.0 b.0
IsNode widths n (Xor a b) = AreAlike widths n a.0 b.0
IsNode widths n (Not a) = a.0 < n
IsNode widths n (Shl a k) = (a.0 < n) × (0 < k) × (k < widths a.0)
IsNode widths n (Shr a k) = (a.0 < n) × (0 < k) × (k < widths a.0)
IsNode widths n (Sar a k) = (a.0 < n) × (0 < k) × (k < widths a.0)
IsNode widths n (Cat high low) = (high.0 < n) × (low.0 < n) × (widths high.0 + widths low.0 ≤ 64)
IsNode widths n (Cut a k m) = (a.0 < n) × (0 < m) × (k + m ≤ widths a.0)
IsNode widths n (Sx m a) = (a.0 < n) × (widths a.0 < m) × (m ≤ 64)
IsNode widths n (Eq a b) = AreAlike widths n a.0 b.0
IsNode widths n (Ult a b) = AreAlike widths n a.0 b.0
IsNode widths n (Slt a b) = AreAlike widths n a.0 b.0
IsNode widths n (If c a b) = (c.0 < n) × (widths c.0 ≡ 1) × AreAlike widths n a.0 b.0

-- widths from 1 to 64
abbrev pub AreWordWidths : List ℕ → Type 0
AreWordWidths widths = (i : ℕ) → i < length widths → (0 < slice_index widths i) × (slice_index widths i ≤ 64)
