use Rattle.std.proofs.Common.{◌≡◌, ◌++◌, length}
use Rattle.text_codes.specs.Lists.{until}
use Rattle.certificate_file.specs.Steps.{lit_text, no_literal}
use Rattle.certificate_file.proofs.written_lines.push_literals.Given as goal

-- what is out and what is left to write is all that is to be out
abbrev pub invariant-loop-rest : goal.invariant-loop-rest
invariant-loop-rest l = l.out.items ++ until lit_text no_literal l.rest ≡ l.fn.out.items ++ until lit_text no_literal l.fn.lits

abbrev pub decreases-loop-rest : goal.decreases-loop-rest
decreases-loop-rest l = length l.rest
