-- The bytes that a write reaches lie in spans.
use Rattle.std.specs.Prelude.{◌≡◌, ℕ, ◌+◌, ◌/◌, ◌%◌, ◌^◌, ◌<◌, true}
use Rattle.insn_table.specs.declared.insn.Operand.{Operand}
use Rattle.insn_table.specs.declared.insn.Operand.TheVariants.{Reg, Imm, Mem, Vec, Pool, Target, Nothing}
use Rattle.machine.specs.Kept.{Kept}
use Rattle.memory_spans.specs.Spans.{is_spanned}
use Rattle.machine.specs.Operands.{effective_address}

-- each of the n bytes from an address on lies in a span
abbrev pub AreSpanned : Kept → ℕ → ℕ → Type 0
AreSpanned k at n = (j : ℕ) → j < n → is_spanned k.spans ((at + j) % 2 ^ 64) ≡ true

-- where the operand is memory, its w bits lie in spans
abbrev pub IsSpanned : Kept → ℕ → Operand → Type 0
IsSpanned k w (Mem base index scale disp) = AreSpanned k (effective_address k.regs base index scale disp) (w / 8)
IsSpanned k w (Reg n v) = Unit {0}
IsSpanned k w (Imm v) = Unit {0}
IsSpanned k w (Vec n v) = Unit {0}
IsSpanned k w (Pool n) = Unit {0}
IsSpanned k w (Target n) = Unit {0}
IsSpanned k w Nothing = Unit {0}
