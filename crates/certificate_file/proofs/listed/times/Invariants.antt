use Rattle.std.proofs.Common.{◌≡◌}
use Rattle.text_codes.specs.Readers.{times_at}
use Rattle.certificate_file.proofs.Fronts.{with_front}
use Rattle.certificate_file.proofs.listed.times.Given as goal

-- what was found, before what is read of the rest, is what is read of the whole
abbrev pub invariant-loop-left : goal.invariant-loop-left
invariant-loop-left g l = with_front l.found.items (times_at g.T.Spelled.read_at l.left l.rest) ≡ times_at g.T.Spelled.read_at l.fn.count l.fn.text

abbrev pub decreases-loop-left : goal.decreases-loop-left
decreases-loop-left g l = l.left
