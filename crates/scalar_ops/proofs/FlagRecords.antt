-- The definition of the flags, as an equation for the search.
use Rattle.std.proofs.Common.{◌≡◌, ℕ, refl}
use Rattle.insn_ops.specs.declared.op.Flags.{Flags}
use Rattle.insn_ops.specs.declared.op.Op.{Op}
use Rattle.insn_semantics.specs.FlagRules.{flags_after, flag_leaves, left_operand, right_operand, flag_by_rule, carry_rule, overflow_rule, result_rule, is_even, is_zero, is_negative}
use Rattle.insn_semantics.specs.Rows.{computed}

pub flags_after-is : (op : Op) (w a b : ℕ) (before : Flags)
    → flags_after op w a b before ≡ record {
      cf = flag_by_rule (flag_leaves (computed op w a b) (left_operand op a) (right_operand op a b)) (carry_rule op w b) before.cf;
      pf = flag_by_rule (flag_leaves (computed op w a b) (left_operand op a) (right_operand op a b)) (result_rule op is_even) before.pf;
      zf = flag_by_rule (flag_leaves (computed op w a b) (left_operand op a) (right_operand op a b)) (result_rule op (is_zero w)) before.zf;
      sf = flag_by_rule (flag_leaves (computed op w a b) (left_operand op a) (right_operand op a b)) (result_rule op (is_negative w)) before.sf;
      of = flag_by_rule (flag_leaves (computed op w a b) (left_operand op a) (right_operand op a b)) (overflow_rule op w b) before.of;
    }
unfolding flags_after
flags_after-is op w a b before = refl

pub ruleset flag_records = (flags_after-is)
