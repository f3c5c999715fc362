-- The values of the rows, their flags and the conditions are formed.
use Rattle.std.proofs.Common.{◌≡◌, ℕ, zero, suc, ◌+◌, ◌-◌, ◌^◌, ◌<◌, ◌≤◌, ◌==◌, refl, sym, inl, inr, arith}
use Rattle.std.proofs.lemmas.Bool.{cases_Bool}
use Rattle.std.proofs.lemmas.Nat.{pow_pos}
use Rattle.insn_ops.specs.declared.op.Cond.{Cond}
use Rattle.insn_ops.specs.declared.op.Cond.TheVariants as conds
use Rattle.insn_ops.specs.declared.op.Op.{Op}
use Rattle.insn_ops.specs.declared.op.Op.TheVariants as ops
use Rattle.insn_semantics.specs.Conditions.{cond_expr}
use Rattle.insn_semantics.specs.Exprs.{Expr, Leaf, Number, Two, Cut, Shifted, Operator, Plus, Minus, Times, And, Or, Xor, Equal, Below, Shift, Left, Right, Signed}
use Rattle.insn_semantics.specs.FlagRules.{at_one, carry_rule, is_even, is_negative, is_zero, overflow_rule, parity_bit, result_rule, difference_overflow, sum_overflow, left_shift_carry, right_shift_carry, top_of}
use Rattle.insn_semantics.specs.Formed.{IsFormedAt, operator_width}
use Rattle.insn_semantics.specs.FormedRows.{HasRowWidth, IsFormedRule, row_widths}
use Rattle.insn_semantics.specs.Rows.{Computes, row_expr}
use Rattle.insn_semantics.proofs.WordLaws.{power_grows}

-- two arguments of one width
pub two_formed : (widths : ℕ → ℕ) (operator : Operator) (w : ℕ) (x y : Expr) → IsFormedAt widths w x → IsFormedAt widths w y
    → IsFormedAt widths (operator_width operator w) (Two operator w x y)
two_formed widths operator w x y h j = record { formed = (h.width, j.width, h.formed, j.formed); width = refl }

-- a leaf, of its own width
pub leaf_formed : (widths : ℕ → ℕ) (i : ℕ) → IsFormedAt widths (widths i) (Leaf i)
leaf_formed widths i = record { formed = tt; width = refl }

-- a number that is a word
pub number_formed : (widths : ℕ → ℕ) (w v : ℕ) → 0 < w → w ≤ 64 → v < 2 ^ w → IsFormedAt widths w (Number w v)
number_formed widths w v some most below = record { formed = (some, most, below); width = refl }

-- n bits of an argument
pub cut_formed : (widths : ℕ → ℕ) (m k n : ℕ) (x : Expr) → IsFormedAt widths m x → 0 < n → k + n ≤ m → IsFormedAt widths n (Cut x k n)
cut_formed widths m k n x h some inside = record { formed = (some, omega (arith, h.width), h.formed); width = refl }

-- the destination, shifted by a count in range
shift_formed : (widths : ℕ → ℕ) (shift : Shift) (w k : ℕ) → widths 0 ≡ w → 0 < k → k < w → IsFormedAt widths w (Shifted shift w (Leaf 0) k)
shift_formed widths shift w k e some inside = record { formed = (e, some, inside, tt); width = refl }

-- 1 is a word of every width
one_below : (w : ℕ) → 0 < w → 1 < 2 ^ w
one_below w h = let two : 2 ^ 1 ≤ 2 ^ w = power_grows 1 w h in omega arith

-- an operator on the destination and the source
words_formed : (widths : ℕ → ℕ) (operator : Operator) (w : ℕ) → widths 0 ≡ w → widths 1 ≡ w
    → IsFormedAt widths (operator_width operator w) (Two operator w (Leaf 0) (Leaf 1))
words_formed widths operator w first second = record { formed = (first, second, tt, tt); width = refl }

-- the values of the rows
pub rows_formed : (op : Op) (w k : ℕ) → HasRowWidth op w k → IsFormedAt (row_widths op w) w (row_expr op w k)
rows_formed ops.Add w k h = words_formed _ Plus w refl refl
rows_formed ops.Sub w k h = words_formed _ Minus w refl refl
rows_formed ops.Cmp w k h = words_formed _ Minus w refl refl
rows_formed ops.Test w k h = words_formed _ And w refl refl
rows_formed ops.And w k h = words_formed _ And w refl refl
rows_formed ops.Or w k h = words_formed _ Or w refl refl
rows_formed ops.Xor w k h = words_formed _ Xor w refl refl
rows_formed ops.Imul w k h = words_formed _ Times w refl refl
rows_formed ops.Inc w k h = record { formed = (refl, refl, tt, (h.0, h.1, one_below w h.0)); width = refl }
rows_formed ops.Dec w k h = record { formed = (refl, refl, tt, (h.0, h.1, one_below w h.0)); width = refl }
rows_formed ops.Neg w k h = record { formed = (refl, refl, (h.0, h.1, pow_pos w), tt); width = refl }
rows_formed ops.Not w k h = record { formed = (refl, tt); width = refl }
rows_formed ops.Shl w k h = shift_formed _ Left w k refl h.0 h.1
rows_formed ops.Shr w k h = shift_formed _ Right w k refl h.0 h.1
rows_formed ops.Sar w k h = shift_formed _ Signed w k refl h.0 h.1
rows_formed ops.Lea w k h = record { formed = (h.0, omega (arith, h.1), tt); width = refl }
rows_formed (ops.Movzx m) w k h = record {
  formed = (refl, omega (arith, h.1, h.2), (omega (arith, h.1), omega (arith, h.2), pow_pos (w - m)), tt);
  width = omega (arith, h.1);
}
rows_formed (ops.Movsx m) w k h = record { formed = (refl, h.1, h.2, tt); width = refl }
rows_formed ops.Cltq w k h = record { formed = (refl, omega arith, omega arith, tt); width = sym h }
rows_formed (ops.Cmov c) w k h = record { formed = (refl, refl, tt, tt, tt); width = refl }
rows_formed (ops.Set c) w k h = record { formed = (refl, omega arith, (omega arith, omega arith, omega arith), tt); width = sym h }
rows_formed _ w k h = record { formed = tt; width = refl }

-- a row that computes something has its widths
pub computed_widths : (op : Op) (w a b : ℕ) → Computes op w a b → HasRowWidth op w b
computed_widths ops.Shl w a b h = (h.2, h.3, omega (arith, h.0))
computed_widths ops.Shr w a b h = (h.2, h.3, omega (arith, h.0))
computed_widths ops.Sar w a b h = (h.2, h.3, omega (arith, h.0))
computed_widths (ops.Movzx m) w a b h = (h.0, h.1, omega (arith, h.2))
computed_widths (ops.Movsx m) w a b h = (h.0, h.1, omega (arith, h.2))
computed_widths ops.Cltq w a b h = h.0
computed_widths ops.Mov w a b h = (h.0, omega (arith, h.1))
computed_widths ops.Movabs w a b h = (h.0, omega (arith, h.1))
computed_widths ops.Add w a b h = (h.0, omega (arith, h.1))
computed_widths ops.Sub w a b h = (h.0, omega (arith, h.1))
computed_widths ops.Cmp w a b h = (h.0, omega (arith, h.1))
computed_widths ops.Test w a b h = (h.0, omega (arith, h.1))
computed_widths ops.And w a b h = (h.0, omega (arith, h.1))
computed_widths ops.Or w a b h = (h.0, omega (arith, h.1))
computed_widths ops.Xor w a b h = (h.0, omega (arith, h.1))
computed_widths ops.Inc w a b h = (h.0, omega (arith, h.1))
computed_widths ops.Dec w a b h = (h.0, omega (arith, h.1))
computed_widths ops.Neg w a b h = (h.0, omega (arith, h.1))
computed_widths ops.Not w a b h = (h.0, omega (arith, h.1))
computed_widths ops.Imul w a b h = (h.0, omega (arith, h.1))
computed_widths ops.Lea w a b h = (h.0, omega (arith, h.1))
computed_widths _ w a b h = absurd h

-- the flags, over words of w bits
module _ (w : ℕ) (bytes : 8 ≤ w) where
  abbrev W : ℕ → ℕ
  W i = w

  bit_of : (v : ℕ) → v < 2 → IsFormedAt W 1 (Number 1 v)
  bit_of v h = number_formed W 1 v (omega arith) (omega arith) h

  top_formed : (x : Expr) → IsFormedAt W w x → IsFormedAt W 1 (top_of w x)
  top_formed x h = cut_formed W w (w - 1) 1 x h (omega arith) (omega arith)

  sum_overflow_formed : IsFormedAt W 1 (sum_overflow w)
  sum_overflow_formed = record { formed = (omega arith, omega arith, (refl, refl, (refl, refl, tt, tt), (refl, refl, tt, tt))); width = refl }

  difference_overflow_formed : IsFormedAt W 1 (difference_overflow w)
  difference_overflow_formed = record { formed = (omega arith, omega arith, (refl, refl, (refl, refl, tt, tt), (refl, refl, tt, tt))); width = refl }

  left_carry_formed : (k : ℕ) → 0 < k → k < w → IsFormedAt W 1 (left_shift_carry w k)
  left_carry_formed k some few = record { formed = (omega arith, omega arith, tt); width = refl }

  right_carry_formed : (k : ℕ) → 0 < k → k < w → IsFormedAt W 1 (right_shift_carry k)
  right_carry_formed k some few = record { formed = (omega arith, omega arith, tt); width = refl }

  at_one_formed : (k : ℕ) (x : Expr) → IsFormedAt W 1 x → IsFormedRule w (at_one k x)
  at_one_formed k x h = elim (cases_Bool (k == 1)) [ inl t ↦ rw t h | inr f ↦ rw f tt ]

  below_formed : (i j : ℕ) → IsFormedAt W 1 (Two Below w (Leaf i) (Leaf j))
  below_formed i j = record { formed = (refl, refl, tt, tt); width = refl }

  -- the carry flag
  pub carry_formed : (op : Op) (k : ℕ) → HasRowWidth op w k → IsFormedRule w (carry_rule op w k)
  carry_formed ops.Add k h = below_formed 0 1
  carry_formed ops.Sub k h = below_formed 1 2
  carry_formed ops.Cmp k h = below_formed 1 2
  carry_formed ops.Neg k h = below_formed 1 2
  carry_formed ops.Test k h = bit_of 0 (omega arith)
  carry_formed ops.And k h = bit_of 0 (omega arith)
  carry_formed ops.Or k h = bit_of 0 (omega arith)
  carry_formed ops.Xor k h = bit_of 0 (omega arith)
  carry_formed ops.Shl k h = left_carry_formed k h.0 h.1
  carry_formed ops.Shr k h = right_carry_formed k h.0 h.1
  carry_formed ops.Sar k h = right_carry_formed k h.0 h.1
  carry_formed _ k h = tt

  -- the overflow flag
  pub overflow_formed : (op : Op) (k : ℕ) → HasRowWidth op w k → IsFormedRule w (overflow_rule op w k)
  overflow_formed ops.Add k h = sum_overflow_formed
  overflow_formed ops.Inc k h = sum_overflow_formed
  overflow_formed ops.Sub k h = difference_overflow_formed
  overflow_formed ops.Cmp k h = difference_overflow_formed
  overflow_formed ops.Dec k h = difference_overflow_formed
  overflow_formed ops.Neg k h = difference_overflow_formed
  overflow_formed ops.Test k h = bit_of 0 (omega arith)
  overflow_formed ops.And k h = bit_of 0 (omega arith)
  overflow_formed ops.Or k h = bit_of 0 (omega arith)
  overflow_formed ops.Xor k h = bit_of 0 (omega arith)
  overflow_formed ops.Shl k h =
      at_one_formed k _ (two_formed W Xor 1 (top_of w (Leaf 0)) (left_shift_carry w k) (top_formed (Leaf 0) (leaf_formed W 0)) (left_carry_formed k h.0 h.1))
  overflow_formed ops.Shr k h = at_one_formed k _ (top_formed (Leaf 1) (leaf_formed W 1))
  overflow_formed ops.Sar k h = at_one_formed k _ (bit_of 0 (omega arith))
  overflow_formed _ k h = tt

  -- a flag that is read off the result
  result_formed : (op : Op) (x : Expr) → IsFormedAt W 1 x → IsFormedRule w (result_rule op x)
  result_formed ops.Add x h = h
  result_formed ops.Sub x h = h
  result_formed ops.Cmp x h = h
  result_formed ops.Test x h = h
  result_formed ops.And x h = h
  result_formed ops.Or x h = h
  result_formed ops.Xor x h = h
  result_formed ops.Inc x h = h
  result_formed ops.Dec x h = h
  result_formed ops.Neg x h = h
  result_formed ops.Shl x h = h
  result_formed ops.Shr x h = h
  result_formed ops.Sar x h = h
  result_formed _ x h = tt

  parity_formed : (k : ℕ) → k < w → IsFormedAt W 1 (parity_bit k)
  parity_formed zero h = cut_formed W w 0 1 (Leaf 0) (leaf_formed W 0) (omega arith) (omega arith)
  parity_formed (suc k) h =
      two_formed W Xor 1 (parity_bit k) (Cut (Leaf 0) (suc k) 1) (parity_formed k (omega arith))
      (cut_formed W w (suc k) 1 (Leaf 0) (leaf_formed W 0) (omega arith) (omega arith))

  -- the parity flag
  pub even_formed : (op : Op) → IsFormedRule w (result_rule op is_even)
  even_formed op =
      let bits : IsFormedAt W 1 (parity_bit 7) = parity_formed 7 (omega arith) in
      result_formed op is_even (record { formed = (bits.width, bits.formed); width = refl })

  -- the zero flag
  pub zero_formed : (op : Op) → w ≤ 64 → IsFormedRule w (result_rule op (is_zero w))
  zero_formed op most =
      result_formed op (is_zero w) (two_formed W Equal w (Leaf 0) (Number w 0) (leaf_formed W 0) (number_formed W w 0 (omega arith) most (pow_pos w)))

  -- the sign flag
  pub negative_formed : (op : Op) → IsFormedRule w (result_rule op (is_negative w))
  negative_formed op = result_formed op (is_negative w) (top_formed (Leaf 0) (leaf_formed W 0))

-- the conditions, over flags of one bit
pub conds_formed : (c : Cond) → IsFormedAt (λ i. 1) 1 (cond_expr c)
conds_formed conds.Ne = record { formed = (refl, tt); width = refl }
conds_formed conds.Ae = record { formed = (refl, tt); width = refl }
conds_formed conds.Be = record { formed = (refl, refl, tt, tt); width = refl }
conds_formed conds.A = record { formed = (refl, (refl, refl, tt, tt)); width = refl }
conds_formed conds.L = record { formed = (refl, refl, tt, tt); width = refl }
conds_formed conds.Ge = record { formed = (refl, (refl, refl, tt, tt)); width = refl }
conds_formed conds.Le = record { formed = (refl, refl, tt, (refl, refl, tt, tt)); width = refl }
conds_formed conds.G = record { formed = (refl, (refl, refl, tt, (refl, refl, tt, tt))); width = refl }
conds_formed conds.Ns = record { formed = (refl, tt); width = refl }
conds_formed conds.No = record { formed = (refl, tt); width = refl }
conds_formed conds.Np = record { formed = (refl, tt); width = refl }
conds_formed _ = record { formed = tt; width = refl }

-- the laws of rows and of flags
pub ruleset formed_rows = (rows_formed, computed_widths)

pub ruleset formed_flags = (carry_formed, overflow_formed, even_formed, zero_formed, negative_formed)
