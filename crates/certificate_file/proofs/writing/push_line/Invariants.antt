use Rattle.std.proofs.Common.{◌≡◌, ◌++◌, length}
use Rattle.text_codes.specs.Lists.{line_of}
use Rattle.certificate_file.proofs.writing.push_line.Given as goal

-- what is out and what is left to write is all that is to be out
abbrev pub invariant-loop-rest : goal.invariant-loop-rest
invariant-loop-rest g l = l.out.items ++ line_of g.T.WrittenEnded.text_of l.rest ≡ l.fn.out.items ++ line_of g.T.WrittenEnded.text_of l.fn.values

abbrev pub decreases-loop-rest : goal.decreases-loop-rest
decreases-loop-rest g l = length l.rest
