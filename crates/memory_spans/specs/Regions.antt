-- The addresses of a region and of the stack range. Both are this project's own.
use Rattle.std.specs.Prelude.{ℕ, ◌+◌, ◌^◌, ◌<◌, ◌≤◌}
use Rattle.memory_spans.specs.declared.region.Region.{Region}
use Rattle.memory_spans.specs.Memory.{offset_from}

-- an address is one of a region's
abbrev pub HasByte : Region → ℕ → Type 0
HasByte r at = (r.base ≤ at) × (at < r.base + r.len)

-- an address is in the stack range: the declared bytes below the entry's stack pointer, and the return slot of eight bytes
abbrev pub IsInStackRange : ℕ → ℕ → ℕ → Type 0
IsInStackRange pointer stack at = offset_from (offset_from stack pointer) at < stack + 8

-- a region ends at 2^64 at most, and shares no byte with the stack range
pub record IsPlaced (pointer stack : ℕ) (r : Region) : Type 0 where
  pub fits : r.base + r.len ≤ 2 ^ 64
  pub clear : (at : ℕ) → HasByte r at → IsInStackRange pointer stack at → ⊥
