-- What a list of names and files holds: of equal names the first.
use Rattle.std.specs.Prelude.{◌≡◌, ◌≢◌, ℕ, ◌+◌, ◌<◌, ◌≤◌, List, [], ◌∷◌, length, Option, Some, None, Vec, Result, Ok, Err, unwrap_or, bytes_eq, if◌then◌else◌}
use Rattle.std.specs.declared.alloc.Global.{Global}
use Rattle.align_base.specs.declared.shelf.TakeFault.{TakeFault}
use Rattle.align_base.specs.declared.shelf.TakeFault.TheVariants as take
use Rattle.align_base.specs.declared.shelf.PutFault.{PutFault}
use Rattle.align_base.specs.declared.shelf.PutFault.TheVariants as put

-- names and what they hold
abbrev pub Files : Type 0
Files = List (List ℕ × Vec ℕ Global)

-- what the first file of this name holds
abbrev pub first_held : Files → List ℕ → Option (List ℕ)
first_held [] name = None
first_held (file ∷ files) name = if bytes_eq file.0 name then Some file.1.items else first_held files name

-- the bytes, where they are within the limit, and Large exactly where they aren't, unless out of memory
abbrev pub CopiedWithin : List ℕ → ℕ → Result (Vec ℕ Global) TakeFault → Type 0
CopiedWithin bytes limit (Ok copy) = (copy.items ≡ bytes) × (length bytes ≤ limit)
CopiedWithin bytes limit (Err take.Failed) = ⊥
CopiedWithin bytes limit (Err (take.Large n)) = (n ≡ limit + 1) × (limit < length bytes)
CopiedWithin bytes limit (Err take.Memory) = length bytes ≤ limit

-- new holds these bytes under the name and otherwise what old holds; after an error all is as it was
abbrev pub PutFirst : {T : Type 0} → Files → Files → List ℕ → List ℕ → Result T PutFault → Type 0
PutFirst old new name bytes (Ok done) =
    (first_held new name ≡ Some bytes) × ((other : List ℕ) → other ≢ name → first_held new other ≡ first_held old other)
PutFirst old new name bytes (Err put.Failed) = ⊥
PutFirst old new name bytes (Err put.Memory) = new ≡ old

-- what is held where every name is held: one that no file has holds nothing
abbrev pub held_or_empty : Files → List ℕ → List ℕ
held_or_empty files name = unwrap_or (first_held files name) []
