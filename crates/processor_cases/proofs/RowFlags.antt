-- Rows that read a condition leave the flags.
use Rattle.std.proofs.Common.{◌≡◌, ℕ, refl}
use Rattle.insn_ops.specs.declared.op.Cond.{Cond}
use Rattle.insn_ops.specs.declared.op.Flags.{Flags}
use Rattle.insn_ops.specs.declared.op.Op.TheVariants as ops
use Rattle.insn_semantics.specs.FlagRules.{flags_after}
use Rattle.insn_semantics.proofs.FlagLaws.{moves_keep}

pub flags_after-cmov : (c : Cond) (w a b : ℕ) (before : Flags) → flags_after (ops.Cmov c) w a b before ≡ before
flags_after-cmov c w a b before = moves_keep (ops.Cmov c) w a b before refl

pub flags_after-set : (c : Cond) (w a b : ℕ) (before : Flags) → flags_after (ops.Set c) w a b before ≡ before
flags_after-set c w a b before = moves_keep (ops.Set c) w a b before refl

pub ruleset row_flags = (flags_after-cmov, flags_after-set)
