-- The loop that is timed, by its mnemonics and operands.
use Rattle.std.specs.Prelude.{◌≡◌, ℕ, List, [], ◌∷◌, Some, Ok, codes, pos}
use Rattle.insn_table.specs.declared.insn.Insn.{Insn}
use Rattle.insn_table.specs.declared.insn.Operand.{Operand}
use Rattle.insn_table.specs.declared.insn.Operand.TheVariants.{Mem, Reg, Target}
use Rattle.insn_table.specs.Building.{assembled}

-- four bytes at a register, and four times %rcx further on
abbrev pub element : ℕ → Operand
element base = Mem (Some base) (Some 1) 4 (pos 0)

-- addl (%rdi,%rcx,4),%eax / movl %eax,(%rsi,%rcx,4) / incb %cl / jmp to the first, on the lines 1 to 4
pub record IsLoop (insns : List Insn) : Type 0 where
  pub read : Insn
  pub is_read : assembled (codes "addl") (element 7 ∷ Reg 0 32 ∷ []) 1 ≡ Ok read
  pub write : Insn
  pub is_write : assembled (codes "movl") (Reg 0 32 ∷ element 6 ∷ []) 2 ≡ Ok write
  pub next : Insn
  pub is_next : assembled (codes "incb") (Reg 1 8 ∷ []) 3 ≡ Ok next
  pub back : Insn
  pub is_back : assembled (codes "jmp") (Target 0 ∷ []) 4 ≡ Ok back
  pub all : insns ≡ read ∷ write ∷ next ∷ back ∷ []
