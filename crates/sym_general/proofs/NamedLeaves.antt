-- What holds of the operands that a row reads, and of its condition, holds of the leaves that it names.
use Rattle.std.proofs.Common.{◌≡◌, ℕ, ◌<◌, true, refl, arith}
use Rattle.std.specs.Prelude.{is_some}
use Rattle.std.specs.List.{AllByRecursion}
use Rattle.std.proofs.lemmas.Bool.{false≢true}
use Rattle.insn_ops.specs.declared.op.Cond.{Cond}
use Rattle.insn_ops.specs.declared.op.Cond.TheVariants as conds
use Rattle.insn_ops.specs.declared.op.Op.{Op}
use Rattle.insn_ops.specs.declared.op.Op.TheVariants as ops
use Rattle.insn_semantics.specs.Conditions.{cond_expr, cond_reads}
use Rattle.insn_semantics.specs.Exprs.{leaves_of}
use Rattle.insn_semantics.specs.Rows.{row_expr}
use Rattle.machine.specs.Family.{condition_of}
use Rattle.sym_general.specs.Applied.{computes_word}
use Rattle.sym_general.specs.Operands.{reads_destination, reads_source}

module _ (P : ℕ → Type 0) (w k : ℕ) where
  pub named_leaves : (op : Op) → computes_word op ≡ true → (reads_destination op ≡ true → P 0) → (reads_source op ≡ true → P 1)
      → (is_some (condition_of op) ≡ true → P 2) → AllByRecursion P (leaves_of (row_expr op w k))
  named_leaves ops.Mov h d s c = (s refl, tt)
  named_leaves ops.Movabs h d s c = (s refl, tt)
  named_leaves ops.Lea h d s c = (s refl, tt)
  named_leaves (ops.Movzx m) h d s c = (s refl, tt)
  named_leaves (ops.Movsx m) h d s c = (s refl, tt)
  named_leaves ops.Cltq h d s c = (s refl, tt)
  named_leaves ops.Add h d s c = (d refl, (s refl, tt))
  named_leaves ops.Sub h d s c = (d refl, (s refl, tt))
  named_leaves ops.Cmp h d s c = (d refl, (s refl, tt))
  named_leaves ops.Test h d s c = (d refl, (s refl, tt))
  named_leaves ops.And h d s c = (d refl, (s refl, tt))
  named_leaves ops.Or h d s c = (d refl, (s refl, tt))
  named_leaves ops.Xor h d s c = (d refl, (s refl, tt))
  named_leaves ops.Imul h d s c = (d refl, (s refl, tt))
  named_leaves (ops.Cmov cond) h d s c = (c refl, (s refl, (d refl, tt)))
  named_leaves (ops.Set cond) h d s c = (c refl, tt)
  named_leaves ops.Inc h d s c = (d refl, tt)
  named_leaves ops.Dec h d s c = (d refl, tt)
  named_leaves ops.Neg h d s c = (d refl, tt)
  named_leaves ops.Not h d s c = (d refl, tt)
  named_leaves ops.Shl h d s c = (d refl, tt)
  named_leaves ops.Shr h d s c = (d refl, tt)
  named_leaves ops.Sar h d s c = (d refl, tt)
  named_leaves _ h d s c = absurd (false≢true h)

-- a condition names the flags that it reads
pub condition_leaves : (c : Cond) → leaves_of (cond_expr c) ≡ cond_reads c
condition_leaves conds.E = refl
condition_leaves _ = refl

-- these are numbers of flags
pub flags_numbered : (c : Cond) → AllByRecursion (λ i. i < 5) (cond_reads c)
flags_numbered conds.E = (omega arith, tt)
flags_numbered conds.Ne = (omega arith, tt)
flags_numbered conds.Be = (omega arith, (omega arith, tt))
flags_numbered conds.A = (omega arith, (omega arith, tt))
flags_numbered conds.L = (omega arith, (omega arith, tt))
flags_numbered conds.Ge = (omega arith, (omega arith, tt))
flags_numbered conds.Le = (omega arith, (omega arith, (omega arith, tt)))
flags_numbered conds.G = (omega arith, (omega arith, (omega arith, tt)))
flags_numbered _ = (omega arith, tt)
