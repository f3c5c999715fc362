-- What operands hold, and what a write to one leaves. A general register of 32 bits that is written clears the upper
-- half; one of 16 or 8 bits leaves the other bits (Intel SDM volume 1, 3.4.1.1).
use Rattle.std.specs.Prelude.{ℕ, ◌+◌, ◌-◌, ◌*◌, ◌/◌, ◌%◌, ◌^◌, ◌==◌, ◌||◌, List, Option, Some, None, slice_get, slice_index, slice_set, unwrap_or, ℤ, pos, negsuc, if◌then◌else◌}
use Rattle.insn_table.specs.declared.insn.Insn.{Insn}
use Rattle.insn_table.specs.declared.insn.Operand.{Operand}
use Rattle.insn_table.specs.declared.insn.Operand.TheVariants.{Reg, Imm, Mem, Vec, Pool, Target, Nothing}
use Rattle.machine.specs.Machine.{Machine}
use Rattle.memory_spans.specs.Memory.{word_at, with_word}

-- a displacement modulo 2^64
abbrev pub displacement : ℤ → ℕ
displacement (pos n) = n
displacement (negsuc n) = 2 ^ 64 - (n + 1)

-- what a base or an index adds, where there is one
abbrev pub register_or_zero : List ℕ → Option ℕ → ℕ
register_or_zero regs None = 0
register_or_zero regs (Some n) = slice_index regs n

-- the address of a memory operand: base, index times scale and displacement, modulo 2^64 (Intel SDM volume 1, 3.7.5)
abbrev pub effective_address : List ℕ → Option ℕ → Option ℕ → ℕ → ℤ → ℕ
effective_address regs base index scale disp =
    (register_or_zero regs base + register_or_zero regs index * scale + displacement disp) % 2 ^ 64

-- the address of an operand in memory, 0 of another
abbrev pub address_of : List ℕ → Operand → ℕ
address_of regs (Mem base index scale disp) = effective_address regs base index scale disp
address_of regs (Reg n w) = 0
address_of regs (Imm v) = 0
address_of regs (Vec n w) = 0
address_of regs (Pool n) = 0
address_of regs (Target n) = 0
address_of regs Nothing = 0

-- what an operand of w bits holds, where the function's pool of constants has these bytes; one past its end is 0
abbrev pub value_of : List ℕ → ℕ → Machine → Operand → ℕ
value_of pool w s (Reg n width) = slice_index s.regs n % 2 ^ w
value_of pool w s (Imm v) = v % 2 ^ w
value_of pool w s (Mem base index scale disp) = word_at s.memory (effective_address s.regs base index scale disp) (w / 8)
value_of pool w s (Pool n) = word_at (λ at. slice_index pool at) n (w / 8)
value_of pool w s (Vec n width) = 0
value_of pool w s (Target n) = 0
value_of pool w s Nothing = 0

-- a register after a write of w bits
abbrev pub register_after : ℕ → ℕ → ℕ → ℕ
register_after w old word = if (w == 8) || (w == 16) then old / 2 ^ w * 2 ^ w + word else word

-- the state after a write of w bits to an operand
abbrev pub with_value : ℕ → Machine → Operand → ℕ → Machine
with_value w s (Reg n width) word = record s { regs = slice_set s.regs n (register_after w (slice_index s.regs n) word) }
with_value w s (Mem base index scale disp) word =
    record s { memory = with_word s.memory (effective_address s.regs base index scale disp) (w / 8) word }
with_value w s (Imm v) word = s
with_value w s (Vec n width) word = s
with_value w s (Pool n) word = s
with_value w s (Target n) word = s
with_value w s Nothing word = s

-- operand k of an instruction
abbrev pub operand : Insn → ℕ → Operand
operand i k = unwrap_or (slice_get i.args k) Nothing
