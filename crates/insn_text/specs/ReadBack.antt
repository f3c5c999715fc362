-- How a printed operand is read again.
use Rattle.std.specs.Prelude.{◌≡◌, ℕ, ◌%◌, Bool}
use Rattle.insn_table.specs.declared.insn.Operand.TheVariants.{Imm}
use Rattle.att_statements.specs.Operands.{Immediate, IsOperandText}
use Rattle.att_statements.specs.Statements.{word_of}
use Rattle.insn_text.specs.InsnText.{numbers_of, operand_text}

-- an immediate of a form of w bits is read as a number whose word is the same modulo 2^w
pub record NumberReadBack (w v : ℕ) : Type 0 where
  pub negative : Bool
  pub amount : ℕ
  pub read : IsOperandText (operand_text w (Imm v)) (Immediate negative amount)
  pub same : word_of negative amount % numbers_of w ≡ v % numbers_of w
