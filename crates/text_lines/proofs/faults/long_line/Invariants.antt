use Rattle.std.proofs.Common.{◌≡◌, ◌≤◌, ◌+◌, length}
use Rattle.std.specs.Str.Lines.{lines}
use Rattle.text_lines.specs.Cutting.{long_line}
use Rattle.text_lines.proofs.faults.long_line.Given as goal

abbrev pub invariant-loop-here : goal.invariant-loop-here
invariant-loop-here l = (long_line (l.line + 1) (lines l.rest) ≡ long_line 1 (lines l.text)) × (l.line + length l.rest ≤ length l.text)

abbrev pub decreases-loop-here : goal.decreases-loop-here
decreases-loop-here l = length l.rest
