-- What a shelf of files holds and was asked for, and what its calls say of it. `told` is what it holds under each name,
-- where it tells: an option of a function.
use Rattle.std.specs.Prelude.{◌≡◌, ◌≢◌, ℕ, ◌+◌, ◌<◌, List, length, Option, Some, None, IfSome, Result, Ok, Err}
use Rattle.align_base.specs.Causes.{Rose}
use Rattle.align_base.specs.declared.shelf.Call.{Call}
use Rattle.align_base.specs.declared.shelf.TakeFault.{TakeFault}
use Rattle.align_base.specs.declared.shelf.TakeFault.TheVariants as take
use Rattle.align_base.specs.declared.shelf.PutFault.{PutFault}
use Rattle.align_base.specs.declared.shelf.PutFault.TheVariants as put

-- what is held under each name: None where the name is not held
abbrev pub Holding : Type 0
Holding = List ℕ → Option (List ℕ)

-- the account of a shelf: what it holds, where it tells; how many calls it had and how many of them failed; the last one
-- that failed; and how many bytes its last take read
pub record ShelfAccount : Type 0 where
  pub holding : Option Holding
  pub calls : ℕ
  pub faults : ℕ
  pub last_failed : Option Call
  pub seen : ℕ

-- the account of a shelf that was just made
abbrev pub new_account : Option Holding → ShelfAccount
new_account told = record { holding = told; calls = 0; faults = 0; last_failed = None; seen = 0 }

-- where the shelf tells, it holds these bytes under the name
abbrev pub Holds : Option Holding → List ℕ → List ℕ → Type 0
Holds told name bytes = IfSome told (λ held. held name ≡ Some bytes)

-- where the shelf tells, it holds more than limit bytes under the name
abbrev pub HoldsMore : Option Holding → List ℕ → ℕ → Type 0
HoldsMore told name limit = IfSome told (λ held. (bytes : List ℕ) × (held name ≡ Some bytes) × (limit < length bytes))

-- where the shelf tells before and after, every name but this one holds what it held
abbrev pub OthersStay : List ℕ → Option Holding → Option Holding → Type 0
OthersStay name before after = IfSome before (λ old. IfSome after (λ new. (other : List ℕ) → other ≢ name → new other ≡ old other))

-- a take answers Large only of a name that holds more than the limit, after it read more
abbrev pub IfLarge : {T : Type 0} → Option Holding → List ℕ → ℕ → ℕ → Result T TakeFault → Type 0
IfLarge told name limit seen (Err (take.Large n)) = (n ≡ limit + 1) × (limit < seen) × HoldsMore told name limit
IfLarge told name limit seen (Ok bytes) = Unit {0}
IfLarge told name limit seen (Err take.Failed) = Unit {0}
IfLarge told name limit seen (Err take.Memory) = Unit {0}

-- no call failed: the count of faults and the last failed call stay as they were
abbrev pub NoneFailed : ShelfAccount → ShelfAccount → Type 0
NoneFailed before after = (after.faults ≡ before.faults) × (after.last_failed ≡ before.last_failed)

-- this call failed, and is the last one that did
abbrev pub CallFailed : Call → ShelfAccount → ShelfAccount → Type 0
CallFailed call before after = Rose before.faults after.faults × (after.last_failed ≡ Some call)

-- Failed raises the count and makes this the last failed call; no other answer changes either.
abbrev pub TakeCause : {T : Type 0} → Call → ShelfAccount → ShelfAccount → Result T TakeFault → Type 0
TakeCause call before after (Err take.Failed) = CallFailed call before after
TakeCause call before after (Ok bytes) = NoneFailed before after
TakeCause call before after (Err (take.Large n)) = NoneFailed before after
TakeCause call before after (Err take.Memory) = NoneFailed before after

-- the same of a put
abbrev pub PutCause : {T : Type 0} → Call → ShelfAccount → ShelfAccount → Result T PutFault → Type 0
PutCause call before after (Err put.Failed) = CallFailed call before after
PutCause call before after (Ok done) = NoneFailed before after
PutCause call before after (Err put.Memory) = NoneFailed before after
