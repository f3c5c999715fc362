-- The row that clears a place of all others.
use Rattle.std.specs.Prelude.{◌≡◌, ℕ, ◌*◌, ◌/◌, ◌%◌, ◌^◌, ◌<◌, List, length}
use Rattle.node_forms.specs.Sums.{SameWord}
use Rattle.linear_forms.specs.declared.pivot.Pivot.{Pivot}
use Rattle.linear_forms.specs.MatrixRows.{word}

-- the word at the place is 2^power times an odd number, whose inverse is kept
pub record IsPivot (p : Pivot) : Type 0 where
  pub power : p.power < 64
  pub place : p.place < length p.row
  pub multiple : word p.place p.row % 2 ^ p.power ≡ 0
  pub inverse : SameWord 64 (p.inverse * (word p.place p.row / 2 ^ p.power)) 1

-- a row as long as the pivot's, whose word at its place has the same power of two as a factor
abbrev pub CanBeCleared : Pivot → List ℕ → Type 0
CanBeCleared p row = (length row ≡ length p.row) × (word p.place row % 2 ^ p.power ≡ 0)
