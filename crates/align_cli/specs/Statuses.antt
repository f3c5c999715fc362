-- Statuses by what they have in common.
use Rattle.std.specs.Prelude.{◌≡◌, ◌⊎◌, List, [], ◌∷◌}
use Rattle.align_base.specs.declared.status.Status.{Status}
use Rattle.align_base.specs.declared.status.Status.TheVariants.{ShelfFault, SinkFault, NoMemory}

-- the status is one of these
abbrev pub IsOneOf : List Status → Status → Type 0
IsOneOf [] status = ⊥
IsOneOf (s ∷ rest) status = (status ≡ s) ⊎ IsOneOf rest status

-- the statuses of a call of the outside that failed and of memory that ran out, in which every command may end
abbrev pub interruptions : List Status
interruptions = ShelfFault ∷ SinkFault ∷ NoMemory ∷ []
