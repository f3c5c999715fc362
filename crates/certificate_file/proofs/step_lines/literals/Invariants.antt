use Rattle.std.proofs.Common.{◌≡◌, length}
use Rattle.certificate_file.specs.StepReading.{lits_at}
use Rattle.certificate_file.proofs.Fronts.{with_front}
use Rattle.certificate_file.proofs.step_lines.literals.Given as goal

-- what was found, before what is read of the rest, is what is read of the whole
abbrev pub invariant-loop-found : goal.invariant-loop-found
invariant-loop-found l = with_front l.found.items (lits_at l.rest) ≡ lits_at l.fn.text

abbrev pub decreases-loop-found : goal.decreases-loop-found
decreases-loop-found l = length l.rest
