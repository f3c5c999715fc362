use Rattle.std.proofs.Common.{◌≡◌, ◌++◌, length}
use Rattle.text_codes.specs.Lists.{texts_of}
use Rattle.certificate_file.proofs.writing.push_all.Given as goal

-- what is out and what is left to write is all that is to be out
abbrev pub invariant-loop-rest : goal.invariant-loop-rest
invariant-loop-rest g l = l.out.items ++ texts_of g.T.Written.text_of l.rest ≡ l.fn.out.items ++ texts_of g.T.Written.text_of l.fn.values

abbrev pub decreases-loop-rest : goal.decreases-loop-rest
decreases-loop-rest g l = length l.rest
