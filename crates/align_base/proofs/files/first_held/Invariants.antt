use Rattle.std.proofs.Common.{◌≡◌, length}
use Rattle.align_base.specs.Files.{first_held}
use Rattle.align_base.proofs.files.first_held.Given as goal

-- what is left holds what all hold
abbrev pub invariant-loop-rest : goal.invariant-loop-rest
invariant-loop-rest l = first_held l.rest l.name ≡ first_held l.files l.name

abbrev pub decreases-loop-rest : goal.decreases-loop-rest
decreases-loop-rest l = length l.rest
