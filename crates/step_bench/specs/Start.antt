-- The state that the loop is run from.
use Rattle.std.specs.Prelude.{◌≡◌, ℕ, true, List, [], ◌∷◌, replicate}
use Rattle.machine.specs.Kept.{Kept}
use Rattle.memory_spans.specs.declared.span.Span.{Span}

-- the span holds these bytes from an address on
pub record HoldsFrom (span : Span) (at : ℕ) (bytes : List ℕ) : Type 0 where
  pub at_is : span.at ≡ at
  pub bytes_are : span.bytes.items ≡ bytes

-- 2048 bytes of 1 from 4096 on, which may be read and written, %rdi at their start and %rsi in their middle; a return slot
-- at 16384; all else is 0
pub record IsLoopStart (k : Kept) : Type 0 where
  pub regs : k.regs ≡ 0 ∷ 0 ∷ 0 ∷ 0 ∷ 16384 ∷ 0 ∷ 5120 ∷ 4096 ∷ 0 ∷ 0 ∷ 0 ∷ 0 ∷ 0 ∷ 0 ∷ 0 ∷ 0 ∷ []
  pub numbers : Span
  pub numbers_hold : HoldsFrom numbers 4096 (replicate 2048 1)
  pub slot : Span
  pub slot_holds : HoldsFrom slot 16384 (replicate 8 0)
  pub spans : k.spans ≡ numbers ∷ slot ∷ []
  pub regions : k.regions ≡ (record { base = 4096; len = 2048; write = true }) ∷ []
  pub stack : k.stack ≡ 0
  pub place : k.place ≡ 0
