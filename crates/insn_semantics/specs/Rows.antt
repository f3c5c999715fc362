-- What each general instruction computes, as an expression. Leaf 0 is the destination, leaf 1 the source, and for
-- `cmovCC` and `setCC` leaf 2 is the condition's value. w is the width of the form, k the count of a shift.
-- Each row is named as its section of Intel's SDM, volume 2, is: see Op.
use Rattle.std.specs.Prelude.{◌≡◌, ℕ, zero, suc, ◌-◌, ◌^◌, ◌<◌}
use Rattle.insn_ops.specs.declared.op.Op.{Op}
use Rattle.insn_ops.specs.declared.op.Op.TheVariants as ops
use Rattle.insn_semantics.specs.Exprs.{Expr, Leaf, Number, Two, Not, Shifted, Joined, Cut, Extended, Choice, Plus, Minus, Times, And, Or, Xor, Left, Right, Signed, value}

-- what an operation computes at w bits, of a shift by k
abbrev pub row_expr : Op → ℕ → ℕ → Expr
row_expr ops.Mov w k = Leaf 1
row_expr ops.Movabs w k = Leaf 1
row_expr ops.Add w k = Two Plus w (Leaf 0) (Leaf 1)
row_expr ops.Sub w k = Two Minus w (Leaf 0) (Leaf 1)
row_expr ops.Cmp w k = Two Minus w (Leaf 0) (Leaf 1)
row_expr ops.Test w k = Two And w (Leaf 0) (Leaf 1)
row_expr ops.And w k = Two And w (Leaf 0) (Leaf 1)
row_expr ops.Or w k = Two Or w (Leaf 0) (Leaf 1)
row_expr ops.Xor w k = Two Xor w (Leaf 0) (Leaf 1)
row_expr ops.Inc w k = Two Plus w (Leaf 0) (Number w 1)
row_expr ops.Dec w k = Two Minus w (Leaf 0) (Number w 1)
row_expr ops.Neg w k = Two Minus w (Number w 0) (Leaf 0)
row_expr ops.Not w k = Not w (Leaf 0)
row_expr ops.Shl w k = Shifted Left w (Leaf 0) k
row_expr ops.Shr w k = Shifted Right w (Leaf 0) k
row_expr ops.Sar w k = Shifted Signed w (Leaf 0) k
row_expr ops.Imul w k = Two Times w (Leaf 0) (Leaf 1)
row_expr ops.Lea w k = Cut (Leaf 1) 0 w
row_expr (ops.Movzx m) w k = Joined m (Number (w - m) 0) (Leaf 1)
row_expr (ops.Movsx m) w k = Extended m w (Leaf 1)
row_expr ops.Cltq w k = Extended 32 64 (Leaf 1)
row_expr (ops.Cmov c) w k = Choice (Leaf 2) (Leaf 1) (Leaf 0)
row_expr (ops.Set c) w k = Joined 1 (Number 7 0) (Leaf 2)
-- the others compute no word
row_expr (ops.Jump c) w k = Leaf 0
row_expr ops.Jmp w k = Leaf 0
row_expr ops.Push w k = Leaf 0
row_expr ops.Pop w k = Leaf 0
row_expr ops.Ret w k = Leaf 0
row_expr ops.Nop w k = Leaf 0
row_expr ops.Endbr64 w k = Leaf 0
row_expr (ops.Vector op) w k = Leaf 0

-- the leaves of a row: the destination, and the source at every other number
abbrev pub scalar_leaves : ℕ → ℕ → ℕ → ℕ
scalar_leaves destination source zero = destination
scalar_leaves destination source (suc i) = source

-- what a row computes of the destination a and the source b; a shift's count is its source
abbrev pub computed : Op → ℕ → ℕ → ℕ → ℕ
computed op w a b = value (scalar_leaves a b) (row_expr op w b)

-- both operands are words of w bits
abbrev pub AreWords : ℕ → ℕ → ℕ → Type 0
AreWords w a b = (0 < w) × (w < 65) × (a < 2 ^ w) × (b < 2 ^ w)

-- the source is a word of m bits, and the result has more
abbrev pub Widens : ℕ → ℕ → ℕ → Type 0
Widens m w b = (0 < m) × (m < w) × (w < 65) × (b < 2 ^ m)

-- the count of a shift is in its row's range
abbrev pub Shifts : ℕ → ℕ → ℕ → Type 0
Shifts w a k = (w < 65) × (a < 2 ^ w) × (0 < k) × (k < w)

-- The operands for which the row computes something: in a widening row the source has the source's width, in `lea` it
-- is any address, in a shift the count is in range. `cmovCC` and `setCC` read a condition besides and are not among
-- these; jumps, `ret`, `nop`, `endbr64`, `pushq` and `popq` compute nothing, and operations on vectors no word.
abbrev pub Computes : Op → ℕ → ℕ → ℕ → Type 0
Computes ops.Mov w a b = AreWords w a b
Computes ops.Movabs w a b = AreWords w a b
Computes ops.Add w a b = AreWords w a b
Computes ops.Sub w a b = AreWords w a b
Computes ops.Cmp w a b = AreWords w a b
Computes ops.Test w a b = AreWords w a b
Computes ops.And w a b = AreWords w a b
Computes ops.Or w a b = AreWords w a b
Computes ops.Xor w a b = AreWords w a b
Computes ops.Inc w a b = AreWords w a b
Computes ops.Dec w a b = AreWords w a b
Computes ops.Neg w a b = AreWords w a b
Computes ops.Not w a b = AreWords w a b
Computes ops.Shl w a b = Shifts w a b
Computes ops.Shr w a b = Shifts w a b
Computes ops.Sar w a b = Shifts w a b
Computes ops.Imul w a b = AreWords w a b
Computes ops.Lea w a b = (0 < w) × (w < 65) × (b < 2 ^ 64)
Computes (ops.Movzx m) w a b = Widens m w b
Computes (ops.Movsx m) w a b = Widens m w b
Computes ops.Cltq w a b = (w ≡ 64) × (b < 2 ^ 32)
Computes (ops.Cmov c) w a b = ⊥
Computes (ops.Set c) w a b = ⊥
Computes (ops.Jump c) w a b = ⊥
Computes ops.Jmp w a b = ⊥
Computes ops.Push w a b = ⊥
Computes ops.Pop w a b = ⊥
Computes ops.Ret w a b = ⊥
Computes ops.Nop w a b = ⊥
Computes ops.Endbr64 w a b = ⊥
Computes (ops.Vector op) w a b = ⊥
