-- What reading a file up to a limit gave.
use Rattle.std.specs.Prelude.{◌≡◌, ℕ, ◌<◌, ◌≤◌, List, length, Option, IfSome}
use Rattle.std.specs.Io.KnownBytes.{Consumes}
use Rattle.align_base.specs.declared.whole.Reading.{Reading}
use Rattle.align_base.specs.declared.whole.Reading.TheVariants.{Whole, Broken, Large, OutOfMemory}

-- a whole file is within the limit, and of a large one more than the limit was read
abbrev pub ReadWithin : ℕ → Reading → ℕ → Type 0
ReadWithin limit (Whole bytes) seen = (length bytes.items ≤ limit) × (seen ≡ length bytes.items)
ReadWithin limit Broken seen = Unit {0}
ReadWithin limit Large seen = limit < seen
ReadWithin limit OutOfMemory seen = Unit {0}

-- where it is known which bytes a reader has, they are what a whole file holds, and a large one has more than the limit
abbrev pub ReadsAll : Option (List ℕ) → ℕ → Reading → Type 0
ReadsAll known limit (Whole bytes) = IfSome known (λ all. bytes.items ≡ all)
ReadsAll known limit Broken = Unit {0}
ReadsAll known limit Large = IfSome known (λ all. limit < length all)
ReadsAll known limit OutOfMemory = Unit {0}

-- this many bytes were taken from a reader, whatever came of them
abbrev pub TakesCount : Option (List ℕ) → Option (List ℕ) → ℕ → Type 0
TakesCount known left seen = (taken : List ℕ) × Consumes known left taken × (seen ≡ length taken)
