use Rattle.std.proofs.Common.{◌-◌, length}
use Rattle.text_lines.specs.Lines.{is_visible}
use Rattle.text_lines.proofs.Prefixes.{IsCutAt}
use Rattle.text_lines.proofs.cuts.visible_part.Given as goal

abbrev pub invariant-loop-end : goal.invariant-loop-end
invariant-loop-end l = IsCutAt is_visible l.line l.end

abbrev pub decreases-loop-end : goal.decreases-loop-end
decreases-loop-end l = length l.line - l.end
