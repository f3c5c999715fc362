use Rattle.std.proofs.Common.{◌≡◌}
use Rattle.text_codes.specs.Readers.{line_at}
use Rattle.certificate_file.proofs.Fronts.{with_front}
use Rattle.certificate_file.proofs.listed.line.Given as goal

-- what was found, before what is read of the rest, is what is read of the whole
abbrev pub invariant-loop-left : goal.invariant-loop-left
invariant-loop-left g l = with_front l.found.items (line_at g.T.Ended.read_at l.left l.rest) ≡ line_at g.T.Ended.read_at l.fn.count l.fn.text

abbrev pub decreases-loop-left : goal.decreases-loop-left
decreases-loop-left g l = l.left
