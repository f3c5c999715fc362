-- Bytes of memory that are named.
use Rattle.std.specs.Prelude.{ℕ, ◌%◌, ◌^◌, ◌==◌, List, [], ◌∷◌, if◌then◌else◌}

-- the byte that pairs of an address and a byte name at an address: that of the last pair with this address, and the given
-- byte where there is none
abbrev pub named_or : ℕ → List (ℕ × ℕ) → ℕ → ℕ
named_or byte [] at = byte
named_or byte (named ∷ more) at = named_or (if named.0 == at then named.1 else byte) more at

-- the memory in which each byte is as it is named, and 0 where it is not; addresses wrap at 2^64
abbrev pub named_memory : List (ℕ × ℕ) → ℕ → ℕ
named_memory bytes at = named_or 0 bytes (at % 2 ^ 64)
