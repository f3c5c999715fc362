use Rattle.std.proofs.Common.{◌≡◌, suc, length}
use Rattle.text_codes.specs.Readers.{linked_at}
use Rattle.certificate_file.specs.StepReading.{pair_of_at}
use Rattle.certificate_file.proofs.Fronts.{with_front}
use Rattle.certificate_file.proofs.step_lines.pairs.Given as goal

-- what was found, before what is read of the rest, is what is read of the whole
abbrev pub invariant-loop-last : goal.invariant-loop-last
invariant-loop-last l =
    with_front l.found.items (linked_at pair_of_at (suc (length l.rest)) l.last l.rest) ≡ linked_at pair_of_at (suc (length l.fn.text)) l.fn.end l.fn.text

abbrev pub decreases-loop-last : goal.decreases-loop-last
decreases-loop-last l = length l.rest
