-- The flags that are read off a result, beside a carry and an overflow flag.
use Rattle.std.specs.Prelude.{ℕ, ◌==◌, Bool, Option, Some}
use Rattle.insn_ops.specs.declared.op.Flags.{Flags}
use Rattle.insn_semantics.specs.Exprs.{value}
use Rattle.insn_semantics.specs.FlagRules.{flag_leaves, is_even, is_negative, is_zero}

-- parity, zero and sign of a result, with this carry and this overflow
abbrev pub result_flags : ℕ → ℕ → Option Bool → Option Bool → Flags
result_flags w r carry overflow = record {
  cf = carry;
  pf = Some (value (flag_leaves r 0 0) is_even == 1);
  zf = Some (value (flag_leaves r 0 0) (is_zero w) == 1);
  sf = Some (value (flag_leaves r 0 0) (is_negative w) == 1);
  of = overflow;
}
