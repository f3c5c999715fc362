-- Families of operations on words, and that those on vectors are others.
use Rattle.std.proofs.Common.{◌≡◌, true, inl, inr, ℕ, refl, sym, subst, arith}
use Rattle.insn_ops.specs.declared.op.Op.{Op}
use Rattle.insn_ops.specs.declared.op.Op.TheVariants as ops
use Rattle.insn_ops.specs.declared.vector_op.VectorOp.{VectorOp}
use Rattle.insn_ops.specs.declared.vector_op.VectorOp.TheVariants.{Lanewise, Moving, Vzeroupper}
use Rattle.insn_table.specs.declared.insn.Insn.{Insn}
use Rattle.lane_semantics.specs.VectorRows.{IsVectorWidth}
use Rattle.machine.specs.declared.operands.Family.{Family}
use Rattle.machine.specs.declared.operands.Family.TheVariants.{Clearing, OnVectors}
use Rattle.machine.specs.Access.{target_width, writes}
use Rattle.machine.specs.Family.{family_of, vector_family}
use Rattle.machine.specs.Runnable.{HasVectorRow, IsWidth}

-- a family of operations on words
abbrev pub IsOfWords : Family → Type 0
IsOfWords OnVectors = ⊥
IsOfWords Clearing = ⊥
IsOfWords _ = Unit {0}

-- an operation on vectors is of no such family
pub vectors_not : (op : VectorOp) → IsOfWords (vector_family op) → ⊥
vectors_not Vzeroupper h = h
vectors_not _ h = h

-- the same of a family that is known
pub no_vectors : (op : VectorOp) (kind : Family) → IsOfWords kind → vector_family op ≡ kind → ⊥
no_vectors op kind words f = vectors_not op (subst IsOfWords (sym f) words)

-- an operation of a family on words is one on words
pub words_of : (i : Insn) (kind : Family) → family_of i.op ≡ kind → IsOfWords kind → IsOfWords (family_of i.op)
words_of i kind f words = subst IsOfWords (sym f) words

-- such an operation writes as many bits as its width says
pub words_width : (op : Op) (w : ℕ) → IsOfWords (family_of op) → target_width op w ≡ w
words_width (ops.Vector op) w h = absurd (vectors_not op h)
words_width _ w h = refl

-- operations on vectors write their last operand
pub vectors_write : (op : Op) → family_of op ≡ OnVectors → writes op ≡ true
vectors_write (ops.Vector op) f = refl
vectors_write _ f = cc

-- the vectors of a row are of 128 or 256 bits
pub row_width : (op : VectorOp) (w : ℕ) → HasVectorRow op w → IsVectorWidth w
row_width (Lanewise op) w row = row.0
row_width (Moving op) w row = row.0
row_width Vzeroupper w row = row
row_width _ w row = row.0

-- no width of vectors is one of words
pub not_a_width : (w : ℕ) → IsVectorWidth w → IsWidth w → ⊥
not_a_width w (inl e) (inl f) = omega arith
not_a_width w (inl e) (inr (inl f)) = omega arith
not_a_width w (inl e) (inr (inr (inl f))) = omega arith
not_a_width w (inl e) (inr (inr (inr f))) = omega arith
not_a_width w (inr e) (inl f) = omega arith
not_a_width w (inr e) (inr (inl f)) = omega arith
not_a_width w (inr e) (inr (inr (inl f))) = omega arith
not_a_width w (inr e) (inr (inr (inr f))) = omega arith
