use Rattle.std.proofs.Common.{◌-◌, length}
use Rattle.text_lines.specs.Words.{is_solid}
use Rattle.text_lines.proofs.Prefixes.{IsCutAt}
use Rattle.text_lines.proofs.words.split_word.Given as goal

abbrev pub invariant-loop-end : goal.invariant-loop-end
invariant-loop-end l = IsCutAt is_solid l.text l.end

abbrev pub decreases-loop-end : goal.decreases-loop-end
decreases-loop-end l = length l.text - l.end
