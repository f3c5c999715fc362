-- When two returned states have the same end, and where they first differ: what a caller of the functions may see of
-- them, their live outputs and the memory outside scratch and stack.
--
-- The scratch lines and the stack range are this project's own. The stack range is that of the first state, and both
-- have the same one where both returned from one start state.
use Rattle.std.specs.Prelude.{◌≡◌, ℕ, ◌/◌, ◌%◌, ◌^◌, ◌<◌, Bool, true, List, [], ◌∷◌, get_or, length, slice_get, slice_index, Some, take, nat_lt}
use Rattle.std.specs.List.{list_any}
use Rattle.insn_ops.specs.declared.output.Output.{Output}
use Rattle.insn_ops.specs.declared.output.Output.TheVariants.{Reg, Vec}
use Rattle.machine.specs.declared.difference.Difference.{Difference}
use Rattle.machine.specs.declared.difference.Difference.TheVariants.{Out, Byte}
use Rattle.machine.specs.Machine.{IsInStack, Machine}
use Rattle.memory_spans.specs.Memory.{offset_from}
pub use Rattle.insn_ops.specs.Outputs.{IsOutput}

-- the output is equal in both states: its low bits, which of a vector are its first bytes
abbrev pub Agree : Machine → Machine → Output → Type 0
Agree s t (Reg n w) = slice_index s.regs n % 2 ^ w ≡ slice_index t.regs n % 2 ^ w
Agree s t (Vec n w) = take (w / 8) (get_or s.vecs n []) ≡ take (w / 8) (get_or t.vecs n [])

-- the address is one of the bytes of a scratch line, which is its base and its length
abbrev pub is_in_scratch : List (ℕ × ℕ) → ℕ → Bool
is_in_scratch scratch at = list_any (λ line. nat_lt (offset_from line.0 at) line.1) scratch

-- the byte at the address is compared
pub record IsCompared (scratch : List (ℕ × ℕ)) (s : Machine) (at : ℕ) : Type 0 where
  pub address : at < 2 ^ 64
  pub no_scratch : is_in_scratch scratch at ≡ true → ⊥
  pub no_stack : IsInStack s at → ⊥

-- the bytes at the address are equal, or not compared
abbrev pub SameByte : List (ℕ × ℕ) → Machine → Machine → ℕ → Type 0
SameByte scratch s t at = IsCompared scratch s at → s.memory at ≡ t.memory at

-- the bytes at the address are compared, and differ
pub record OtherByte (scratch : List (ℕ × ℕ)) (s t : Machine) (at : ℕ) : Type 0 where
  pub compared : IsCompared scratch s at
  pub differ : s.memory at ≡ t.memory at → ⊥

-- the live outputs before number k are equal
abbrev pub AgreeBefore : List Output → Machine → Machine → ℕ → Type 0
AgreeBefore live s t k = (j : ℕ) (output : Output) → j < k → slice_get live j ≡ Some output → Agree s t output

-- the two states have the same end
pub record SameEnd (live : List Output) (scratch : List (ℕ × ℕ)) (s t : Machine) : Type 0 where
  pub outputs : AgreeBefore live s t (length live)
  pub memory : (at : ℕ) → SameByte scratch s t at

-- live output k differs, and none before it
pub record IsFirstOutput (live : List Output) (s t : Machine) (k : ℕ) : Type 0 where
  pub output : Output
  pub is_live : slice_get live k ≡ Some output
  pub differ : Agree s t output → ⊥
  pub first : AgreeBefore live s t k

-- the bytes at the address are compared and differ, and those at no lesser one
pub record IsFirstByte (scratch : List (ℕ × ℕ)) (s t : Machine) (at : ℕ) : Type 0 where
  pub other : OtherByte scratch s t at
  pub first : (x : ℕ) → x < at → SameByte scratch s t x

-- Where two states that don't have the same end first differ: live outputs come first, in their order, then bytes from
-- the least address on.
abbrev pub IsFirstDifference : List Output → List (ℕ × ℕ) → Machine → Machine → Difference → Type 0
IsFirstDifference live scratch s t (Out k) = IsFirstOutput live s t k
IsFirstDifference live scratch s t (Byte at) = AgreeBefore live s t (length live) × IsFirstByte scratch s t at
