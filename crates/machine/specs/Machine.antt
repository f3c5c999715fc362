-- The state of the machine: general registers and those of the entry, flags, vectors, a memory that has a byte at each
-- address, the regions with their rights, the number of declared stack bytes, and the place of the next instruction.
--
-- Registers, flags and vectors are those of Intel's Software Developer's Manual. Regions, the stack range and the
-- rule for stack bytes are this project's own.
use Rattle.std.specs.Prelude.{◌≡◌, ℕ, ◌+◌, ◌^◌, ◌<◌, List, [], length, None, slice_get, slice_index, Some}
use Rattle.insn_ops.specs.declared.op.Flags.{Flags}
use Rattle.memory_spans.specs.declared.region.Region.{Region}
use Rattle.memory_spans.specs.Memory.{offset_from}
use Rattle.memory_spans.specs.Regions.{IsInStackRange}

-- the state of the machine
pub record Machine : Type 0 where
  pub regs : List ℕ
  pub entry : List ℕ
  pub flags : Flags
  pub vecs : List (List ℕ)
  pub memory : ℕ → ℕ
  pub regions : List Region
  pub stack : ℕ
  pub place : ℕ

-- sixteen registers of 64 bits
pub record AreRegs (regs : List ℕ) : Type 0 where
  pub sixteen : length regs ≡ 16
  pub below : (n : ℕ) → slice_index regs n < 2 ^ 64

-- sixteen vectors of 32 bytes
pub record AreVecs (vecs : List (List ℕ)) : Type 0 where
  pub sixteen : length vecs ≡ 16
  pub each : (n : ℕ) (v : List ℕ) → slice_get vecs n ≡ Some v → (length v ≡ 32) × ((i : ℕ) → slice_index v i < 256)

-- the values of a state are in their ranges
pub record IsState (s : Machine) : Type 0 where
  pub regs : AreRegs s.regs
  pub entry : AreRegs s.entry
  pub vecs : AreVecs s.vecs
  pub memory : (at : ℕ) → s.memory at < 256

-- all flags unset, as at the entry
abbrev pub no_flags : Flags
no_flags = record { cf = None; pf = None; zf = None; sf = None; of = None }

-- the stack pointer, register 4, at the entry
abbrev pub entry_pointer : Machine → ℕ
entry_pointer s = slice_index s.entry 4

-- the first of the declared stack bytes, which end at the entry's stack pointer; the eight bytes behind them are the
-- return slot
abbrev pub stack_base : Machine → ℕ
stack_base s = offset_from s.stack (entry_pointer s)

-- the address lies in the stack range: the declared bytes and the return slot
abbrev pub IsInStack : Machine → ℕ → Type 0
IsInStack s at = IsInStackRange (entry_pointer s) s.stack at

-- a start state: at the first instruction, with the entry registers and no flag set
pub record IsStart (s : Machine) : Type 0 where
  pub valid : IsState s
  pub first : s.place ≡ 0
  pub entered : s.regs ≡ s.entry
  pub unset : s.flags ≡ no_flags

-- what %rax holds, register 0
abbrev pub rax : Machine → ℕ
rax s = slice_index s.regs 0
