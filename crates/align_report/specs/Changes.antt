-- Which bytes of a memory have changed, and the lines that tell them.
--
-- A run of changed bytes is a longest range of addresses below 2^64 at which two memories differ. Each run is cut from
-- its start into pieces of 32 bytes, of which the last may be shorter.
use Rattle.std.specs.Prelude.{◌≡◌, ◌⊎◌, ℕ, ◌+◌, ◌^◌, ◌<◌, ◌≤◌, List, [], ◌∷◌, ◌++◌, codes}
use Rattle.memory_spans.specs.Memory.{bytes_at}
use Rattle.text_parts.specs.Bytes.{bytes_text}
use Rattle.text_parts.specs.Numbers.{value_text}

-- no byte from an address on, up to another, has changed
abbrev pub SameFrom : (ℕ → ℕ) → (ℕ → ℕ) → ℕ → ℕ → Type 0
SameFrom old new from to = (x : ℕ) → from ≤ x → x < to → old x ≡ new x

-- each byte from an address on, up to another, has changed
abbrev pub ChangedFrom : (ℕ → ℕ) → (ℕ → ℕ) → ℕ → ℕ → Type 0
ChangedFrom old new from to = (x : ℕ) → from ≤ x → x < to → old x ≡ new x → ⊥

-- no changed byte stands at the address
abbrev pub EndsRun : (ℕ → ℕ) → (ℕ → ℕ) → ℕ → Type 0
EndsRun old new at = (at ≡ 2 ^ 64) ⊎ (old at ≡ new at)

-- a piece: n changed bytes from an address on, 32 of them, or fewer where the run ends behind them
pub record IsPiece (old new : ℕ → ℕ) (at n : ℕ) : Type 0 where
  pub some : 0 < n
  pub few : n ≤ 32
  pub within : at + n ≤ 2 ^ 64
  pub changed : ChangedFrom old new at (at + n)
  pub whole : n < 32 → EndsRun old new (at + n)

-- The pieces from an address on, as addresses and numbers of bytes: in order, and no byte between or behind them has
-- changed. So a piece begins where a run does, or where a piece of 32 bytes ends.
abbrev pub ArePieces : (ℕ → ℕ) → (ℕ → ℕ) → ℕ → List (ℕ × ℕ) → Type 0
ArePieces old new from [] = SameFrom old new from (2 ^ 64)
ArePieces old new from (piece ∷ pieces) =
    (from ≤ piece.0) × SameFrom old new from piece.0 × IsPiece old new piece.0 piece.1
    × ArePieces old new (piece.0 + piece.1) pieces

-- the line of a piece: its address and its bytes in a memory
unfoldable pub piece_line : (ℕ → ℕ) → ℕ → ℕ → List ℕ
piece_line memory at n = codes "mem " ++ value_text at ++ codes " " ++ bytes_text (bytes_at memory at n) ++ codes "\n"

-- the lines of pieces, in their order
abbrev pub piece_lines : (ℕ → ℕ) → List (ℕ × ℕ) → List ℕ
piece_lines memory [] = []
piece_lines memory (piece ∷ pieces) = piece_line memory piece.0 piece.1 ++ piece_lines memory pieces
