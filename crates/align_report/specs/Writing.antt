-- What writing the lines of changed bytes appends to a text.
use Rattle.std.specs.Prelude.{◌≡◌, ℕ, ◌+◌, ◌^◌, ◌<◌, ◌≤◌, false, List, [], ◌∷◌, ◌++◌}
use Rattle.test_states.specs.declared.range.Range.{Range}
use Rattle.test_states.specs.Ranges.{is_covered}
use Rattle.align_report.specs.Changes.{ArePieces, IsPiece, SameFrom, piece_lines}

-- the pieces from an address on, up to another
abbrev pub ArePiecesTo : (ℕ → ℕ) → (ℕ → ℕ) → ℕ → List (ℕ × ℕ) → ℕ → Type 0
ArePiecesTo old new from [] to = (from ≤ to) × SameFrom old new from to
ArePiecesTo old new from (piece ∷ pieces) to =
    (from ≤ piece.0) × SameFrom old new from piece.0 × IsPiece old new piece.0 piece.1 × ArePiecesTo old new (piece.0 + piece.1) pieces to

-- the lines of the pieces from an address on, up to another, were appended
pub record AppendsPieces (old new : ℕ → ℕ) (from to : ℕ) (before after : List ℕ) : Type 0 where
  pub pieces : List (ℕ × ℕ)
  pub are : ArePiecesTo old new from pieces to
  pub lines : after ≡ before ++ piece_lines new pieces

-- the lines of all pieces were appended
pub record AppendsChanges (old new : ℕ → ℕ) (before after : List ℕ) : Type 0 where
  pub pieces : List (ℕ × ℕ)
  pub are : ArePieces old new 0 pieces
  pub lines : after ≡ before ++ piece_lines new pieces

-- each byte that lies in none of the ranges is the same
abbrev pub AreSameOutside : List Range → (ℕ → ℕ) → (ℕ → ℕ) → Type 0
AreSameOutside ranges old new = (x : ℕ) → x < 2 ^ 64 → is_covered ranges x ≡ false → old x ≡ new x
