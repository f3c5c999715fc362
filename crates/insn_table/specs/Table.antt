-- The instructions of the table.
use Rattle.std.specs.Prelude.{◌≡◌, ◌⊎◌, ℕ, ◌<◌, List, Ok, IfSome}
use Rattle.std.specs.List.{AllByRecursion}
use Rattle.insn_table.specs.declared.insn.Operand.{Operand}
use Rattle.insn_table.specs.declared.insn.Operand.TheVariants.{Reg, Imm, Mem, Vec, Pool, Target, Nothing}
use Rattle.insn_table.specs.declared.insn.Insn.{Insn}
use Rattle.insn_spellings.specs.declared.shape.Shape.{Shape}
use Rattle.insn_spellings.specs.Rows.{IsRowOf}
use Rattle.insn_spellings.specs.Spellings.{table_rows}
use Rattle.insn_table.specs.Forms.{fits_of}

-- 1, 2, 4 or 8
abbrev pub IsScale : ℕ → Type 0
IsScale s = (s ≡ 1) ⊎ ((s ≡ 2) ⊎ ((s ≡ 4) ⊎ (s ≡ 8)))

-- each register of the operand is one of the sixteen, and each scale one that there is
abbrev pub HasRegisters : Operand → Type 0
HasRegisters (Reg n w) = n < 16
HasRegisters (Imm v) = Unit {0}
HasRegisters (Mem base index scale disp) =
    IfSome base (λ n. n < 16) × IfSome index (λ n. n < 16) × IsScale scale
HasRegisters (Vec n w) = n < 16
HasRegisters (Pool at) = Unit {0}
HasRegisters (Target place) = Unit {0}
HasRegisters Nothing = Unit {0}

-- a mnemonic of the table names a shape, and fits makes the instruction of that shape and of its operands as they are
pub record IsTableInsn (i : Insn) : Type 0 where
  pub mnemonic : List ℕ
  pub shape : Shape
  pub row : IsRowOf table_rows mnemonic shape
  pub accepted : fits_of shape i.args i.line ≡ Ok i
  pub registers : AllByRecursion HasRegisters i.args
