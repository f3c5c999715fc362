use Rattle.std.proofs.Common.{◌≡◌, length}
use Rattle.text_lines.specs.Bytes.{is_blank}
use Rattle.text_lines.specs.Words.{behind_prefix}
use Rattle.text_lines.proofs.words.behind_blanks.Given as goal

abbrev pub invariant-loop-rest : goal.invariant-loop-rest
invariant-loop-rest l = behind_prefix is_blank l.rest ≡ behind_prefix is_blank l.text

abbrev pub decreases-loop-rest : goal.decreases-loop-rest
decreases-loop-rest l = length l.rest
