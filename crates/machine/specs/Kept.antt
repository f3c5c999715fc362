-- What the code keeps of a state: spans of bytes in place of a memory. pure_of says what they mean, and no theorem above
-- mentions them.
use Rattle.std.specs.Prelude.{◌≡◌, ℕ, ◌+◌, ◌^◌, ◌<◌, ◌≤◌, true, List}
use Rattle.std.specs.List.{AllByRecursion}
use Rattle.insn_ops.specs.declared.op.Flags.{Flags}
use Rattle.memory_spans.specs.declared.region.Region.{Region}
use Rattle.memory_spans.specs.declared.span.Span.{Span}
use Rattle.machine.specs.Machine.{IsInStack, Machine, entry_pointer}
use Rattle.memory_spans.specs.Regions.{IsPlaced}
use Rattle.memory_spans.specs.Spans.{AreOrdered, is_spanned, memory_of}

-- a state as it is kept: as Machine, with spans of bytes in place of a memory
pub record Kept : Type 0 where
  pub regs : List ℕ
  pub entry : List ℕ
  pub flags : Flags
  pub vecs : List (List ℕ)
  pub spans : List Span
  pub regions : List Region
  pub stack : ℕ
  pub place : ℕ

-- the state that is kept so
abbrev pub pure_of : Kept → Machine
pure_of k = record {
  regs = k.regs;
  entry = k.entry;
  flags = k.flags;
  vecs = k.vecs;
  memory = memory_of k.spans;
  regions = k.regions;
  stack = k.stack;
  place = k.place;
}

-- What a kept state must be: its spans are in order and apart, and have each byte of each region and of the stack range,
-- which share none.
pub record IsKept (k : Kept) : Type 0 where
  pub ordered : AreOrdered 0 k.spans
  pub regions : AllByRecursion (IsPlaced (entry_pointer (pure_of k)) k.stack) k.regions
  pub spanned : AllByRecursion (λ r. (at : ℕ) → r.base ≤ at → at < r.base + r.len → is_spanned k.spans at ≡ true)
      k.regions
  pub stack_spanned : (at : ℕ) → at < 2 ^ 64 → IsInStack (pure_of k) at → is_spanned k.spans at ≡ true
  pub small : k.stack ≤ 4096
