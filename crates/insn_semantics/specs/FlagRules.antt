-- Which flags each general instruction sets, keeps and unsets. In the expressions leaf 0 is the result r, leaf 1 the
-- left operand a and leaf 2 the right operand b of the sum, the difference or the shift.
-- The manual leaves some of these flags undefined; there, and for `imul` also where it defines them, the flag is unset.
use Rattle.std.specs.Prelude.{ℕ, zero, suc, ◌-◌, ◌==◌, Bool, Option, Some, None, if◌then◌else◌}
use Rattle.insn_ops.specs.declared.op.Flags.{Flags}
use Rattle.insn_ops.specs.declared.op.Op.{Op}
use Rattle.insn_ops.specs.declared.op.Op.TheVariants as ops
use Rattle.insn_semantics.specs.Exprs.{Expr, Leaf, Number, Two, Not, Cut, And, Xor, Equal, Below, value}
use Rattle.insn_semantics.specs.Rows.{computed}

-- what an operation does to a flag: keeps it, leaves it unset, or sets it to the value of an expression
pub data Rule : Type 0 where
  Keeps : Rule
  Unsets : Rule
  Sets : Expr → Rule

-- the highest bit
abbrev pub top_of : ℕ → Expr → Expr
top_of w x = Cut x (w - 1) 1

-- whether the result is 0
abbrev pub is_zero : ℕ → Expr
is_zero w = Two Equal w (Leaf 0) (Number w 0)

-- the result's highest bit
abbrev pub is_negative : ℕ → Expr
is_negative w = top_of w (Leaf 0)

-- the exclusive or of the result's bits from 0 to k
abbrev pub parity_bit : ℕ → Expr
parity_bit zero = Cut (Leaf 0) 0 1
parity_bit (suc k) = Two Xor 1 (parity_bit k) (Cut (Leaf 0) (suc k) 1)

-- the low eight bits have an even number of ones
abbrev pub is_even : Expr
is_even = Not 1 (parity_bit 7)

-- a sum carries out where it is below its left operand, and overflows where both operands have the other sign
abbrev pub sum_carry : ℕ → Expr
sum_carry w = Two Below w (Leaf 0) (Leaf 1)

-- a signed sum overflows where the sign of the result is that of neither operand
abbrev pub sum_overflow : ℕ → Expr
sum_overflow w = top_of w (Two And w (Two Xor w (Leaf 1) (Leaf 0)) (Two Xor w (Leaf 2) (Leaf 0)))

-- a difference borrows where the left operand is below the right one
abbrev pub difference_borrow : ℕ → Expr
difference_borrow w = Two Below w (Leaf 1) (Leaf 2)

-- a signed difference overflows where the operands' signs differ and the result has not the left one's
abbrev pub difference_overflow : ℕ → Expr
difference_overflow w = top_of w (Two And w (Two Xor w (Leaf 1) (Leaf 2)) (Two Xor w (Leaf 1) (Leaf 0)))

-- the carry of a shift by k: the last bit that it puts out
abbrev pub left_shift_carry : ℕ → ℕ → Expr
left_shift_carry w k = Cut (Leaf 1) (w - k) 1

-- the same of a shift to the right
abbrev pub right_shift_carry : ℕ → Expr
right_shift_carry k = Cut (Leaf 1) (k - 1) 1

-- a rule for a count of 1 alone; the flag is unset for others
abbrev pub at_one : ℕ → Expr → Rule
at_one k x = if k == 1 then Sets x else Unsets

-- the carry flag
abbrev pub carry_rule : Op → ℕ → ℕ → Rule
carry_rule ops.Add w k = Sets (sum_carry w)
carry_rule ops.Sub w k = Sets (difference_borrow w)
carry_rule ops.Cmp w k = Sets (difference_borrow w)
carry_rule ops.Neg w k = Sets (difference_borrow w)
carry_rule ops.Test w k = Sets (Number 1 0)
carry_rule ops.And w k = Sets (Number 1 0)
carry_rule ops.Or w k = Sets (Number 1 0)
carry_rule ops.Xor w k = Sets (Number 1 0)
carry_rule ops.Shl w k = Sets (left_shift_carry w k)
carry_rule ops.Shr w k = Sets (right_shift_carry k)
carry_rule ops.Sar w k = Sets (right_shift_carry k)
carry_rule ops.Imul w k = Unsets
carry_rule _ w k = Keeps

-- the overflow flag
abbrev pub overflow_rule : Op → ℕ → ℕ → Rule
overflow_rule ops.Add w k = Sets (sum_overflow w)
overflow_rule ops.Inc w k = Sets (sum_overflow w)
overflow_rule ops.Sub w k = Sets (difference_overflow w)
overflow_rule ops.Cmp w k = Sets (difference_overflow w)
overflow_rule ops.Dec w k = Sets (difference_overflow w)
overflow_rule ops.Neg w k = Sets (difference_overflow w)
overflow_rule ops.Test w k = Sets (Number 1 0)
overflow_rule ops.And w k = Sets (Number 1 0)
overflow_rule ops.Or w k = Sets (Number 1 0)
overflow_rule ops.Xor w k = Sets (Number 1 0)
overflow_rule ops.Shl w k = at_one k (Two Xor 1 (top_of w (Leaf 0)) (left_shift_carry w k))
overflow_rule ops.Shr w k = at_one k (top_of w (Leaf 1))
overflow_rule ops.Sar w k = at_one k (Number 1 0)
overflow_rule ops.Imul w k = Unsets
overflow_rule _ w k = Keeps

-- the rule of a flag that is read off the result alone: zero, sign and parity
abbrev pub result_rule : Op → Expr → Rule
result_rule ops.Add x = Sets x
result_rule ops.Sub x = Sets x
result_rule ops.Cmp x = Sets x
result_rule ops.Test x = Sets x
result_rule ops.And x = Sets x
result_rule ops.Or x = Sets x
result_rule ops.Xor x = Sets x
result_rule ops.Inc x = Sets x
result_rule ops.Dec x = Sets x
result_rule ops.Neg x = Sets x
result_rule ops.Shl x = Sets x
result_rule ops.Shr x = Sets x
result_rule ops.Sar x = Sets x
result_rule ops.Imul x = Unsets
result_rule _ x = Keeps

-- The operands of the sum or the difference that the flags are those of: of `inc` and `dec` the right one is 1, of
-- `neg` the left one is 0 and the right one the destination.
abbrev pub left_operand : Op → ℕ → ℕ
left_operand ops.Neg a = 0
left_operand _ a = a

-- what stands as the right operand
abbrev pub right_operand : Op → ℕ → ℕ → ℕ
right_operand ops.Inc a b = 1
right_operand ops.Dec a b = 1
right_operand ops.Neg a b = a
right_operand _ a b = b

-- the leaves of the flags' expressions: the result, the left and the right operand
abbrev pub flag_leaves : ℕ → ℕ → ℕ → ℕ → ℕ
flag_leaves r a b zero = r
flag_leaves r a b (suc zero) = a
flag_leaves r a b (suc (suc i)) = b

-- a flag after the instruction
abbrev pub flag_by_rule : (ℕ → ℕ) → Rule → Option Bool → Option Bool
flag_by_rule leaves Keeps old = old
flag_by_rule leaves Unsets old = None
flag_by_rule leaves (Sets x) old = Some (value leaves x == 1)

-- The flags after an instruction on the destination a and the source b; a shift's count is its source.
unfoldable pub flags_after : Op → ℕ → ℕ → ℕ → Flags → Flags
flags_after op w a b before =
    let leaves = flag_leaves (computed op w a b) (left_operand op a) (right_operand op a b) in
    record {
      cf = flag_by_rule leaves (carry_rule op w b) before.cf;
      pf = flag_by_rule leaves (result_rule op is_even) before.pf;
      zf = flag_by_rule leaves (result_rule op (is_zero w)) before.zf;
      sf = flag_by_rule leaves (result_rule op (is_negative w)) before.sf;
      of = flag_by_rule leaves (overflow_rule op w b) before.of;
    }
