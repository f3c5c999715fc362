-- The expression of each flag is formed over words of w bits.
use Rattle.std.proofs.Common.{ℕ, ◌≤◌}
use Rattle.insn_ops.specs.declared.op.Op.{Op}
use Rattle.insn_semantics.specs.FlagRules.{Rule, Keeps, Unsets, Sets, carry_rule, is_even, is_negative, is_zero, overflow_rule, result_rule}
use Rattle.insn_semantics.specs.Formed.{IsFormed}
use Rattle.insn_semantics.specs.FormedRows.{HasRowWidth, IsFormedRule}
use Rattle.insn_semantics.proofs.FormedLaws.{carry_formed, even_formed, negative_formed, overflow_formed, zero_formed}
use Rattle.sym_rows.specs.declared.operands.Flag.{Flag}
use Rattle.sym_rows.specs.declared.operands.Flag.TheVariants as flags
use Rattle.sym_rows.specs.FlagExprs.{flag_expr, set_to}

formed_set_to : (w : ℕ) (r : Rule) → IsFormedRule w r → IsFormed (λ i. w) (set_to r)
formed_set_to w Keeps h = tt
formed_set_to w Unsets h = tt
formed_set_to w (Sets x) h = h.formed

pub flag_formed : (flag : Flag) (op : Op) (w k : ℕ) → 8 ≤ w → w ≤ 64 → HasRowWidth op w k → IsFormed (λ i. w) (flag_expr flag op w k)
flag_formed flags.Carry op w k byte word row = formed_set_to w (carry_rule op w k) (carry_formed w byte op k row)
flag_formed flags.Parity op w k byte word row = formed_set_to w (result_rule op is_even) (even_formed w byte op)
flag_formed flags.Zero op w k byte word row = formed_set_to w (result_rule op (is_zero w)) (zero_formed w byte op word)
flag_formed flags.Sign op w k byte word row = formed_set_to w (result_rule op (is_negative w)) (negative_formed w byte op)
flag_formed flags.Overflow op w k byte word row = formed_set_to w (overflow_rule op w k) (overflow_formed w byte op k row)
