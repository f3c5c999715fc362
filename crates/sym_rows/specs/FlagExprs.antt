-- The expression of a flag that an operation sets.
use Rattle.std.specs.Prelude.{ℕ}
use Rattle.insn_ops.specs.declared.op.Op.{Op}
use Rattle.insn_semantics.specs.Exprs.{Expr, Leaf}
use Rattle.insn_semantics.specs.FlagRules.{Rule, Keeps, Unsets, Sets, carry_rule, is_even, is_negative, is_zero, overflow_rule, result_rule}
use Rattle.sym_rows.specs.declared.operands.Flag.{Flag}
use Rattle.sym_rows.specs.declared.operands.Flag.TheVariants as flags

-- the test of the result that the zero, the sign and the parity flag are
abbrev pub result_test : ℕ → Flag → Expr
result_test w flags.Parity = is_even
result_test w flags.Zero = is_zero w
result_test w flags.Sign = is_negative w
result_test w flags.Carry = Leaf 0
result_test w flags.Overflow = Leaf 0

-- what an operation at w bits does to a flag, a shift by k
abbrev pub flag_rule : Flag → Op → ℕ → ℕ → Rule
flag_rule flags.Carry op w k = carry_rule op w k
flag_rule flags.Parity op w k = result_rule op is_even
flag_rule flags.Zero op w k = result_rule op (is_zero w)
flag_rule flags.Sign op w k = result_rule op (is_negative w)
flag_rule flags.Overflow op w k = overflow_rule op w k

-- what a rule sets its flag to; where it sets none, leaf 0
abbrev pub set_to : Rule → Expr
set_to (Sets x) = x
set_to Keeps = Leaf 0
set_to Unsets = Leaf 0

-- the expression of a flag
abbrev pub flag_expr : Flag → Op → ℕ → ℕ → Expr
flag_expr flag op w k = set_to (flag_rule flag op w k)
