-- A printed instruction, put into a text and read again.
use Rattle.std.specs.Prelude.{◌≡◌, ℕ, ◌%◌, List, [], ◌∷◌, ◌++◌, false, codes}
use Rattle.std.specs.List.{AllZip}
use Rattle.insn_ops.specs.declared.op.Op.TheVariants.{Ret}
use Rattle.insn_table.specs.declared.insn.Insn.{Insn}
use Rattle.insn_table.specs.declared.insn.Operand.{Operand}
use Rattle.insn_table.specs.declared.insn.Operand.TheVariants.{Imm, Nothing}
use Rattle.att_reader.specs.FunctionText.{IsFunctionText}
use Rattle.insn_text.specs.InsnText.{insn_text, numbers_of}

-- the same operand, where immediates of w bits are the same modulo 2^w
abbrev pub IsSameOperand : ℕ → Operand → Operand → Type 0
IsSameOperand w (Imm v) (Imm u) = v % numbers_of w ≡ u % numbers_of w
IsSameOperand w a b = a ≡ b

-- the same instruction, but for its line and for what an immediate has above its width
pub record IsSameInsn (i j : Insn) : Type 0 where
  pub op : i.op ≡ j.op
  pub w : i.w ≡ j.w
  pub vex : i.vex ≡ j.vex
  pub args : AllZip (IsSameOperand i.w) i.args j.args

-- the text of a function f: the printed instruction on line 2, and a return
abbrev pub printed_function : Insn → List ℕ
printed_function i = codes "f:\n" ++ insn_text i ++ codes "\nret\n"

-- the return on line 3
abbrev pub return_behind : Insn
return_behind = record { op = Ret; w = 64; vex = false; args = Nothing ∷ Nothing ∷ Nothing ∷ Nothing ∷ []; line = 3 }

-- what is printed of the instruction is read as the same one, on line 2
pub record IsReadBack (i : Insn) : Type 0 where
  pub again : Insn
  pub same : IsSameInsn i again
  pub second : again.line ≡ 2
  pub reads : IsFunctionText (printed_function i) (codes "f") (record { name = codes "f"; insns = again ∷ return_behind ∷ []; pool = [] })
