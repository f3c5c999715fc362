use Rattle.std.proofs.Common.{◌≡◌, ◌≤◌, ◌+◌, ◌++◌, map, length}
use Rattle.std.specs.Str.Lines.{lines}
use Rattle.text_lines.specs.Cutting.{items_at, items_of_text}
use Rattle.text_lines.specs.Views.{seen}
use Rattle.text_lines.proofs.items.items_in.Given as goal

-- the items so far and those of the lines that are left are all
abbrev pub invariant-loop-here : goal.invariant-loop-here
invariant-loop-here l =
    (map seen l.items.items ++ items_at (l.line + 1) (lines l.rest) ≡ items_of_text l.text)
    × (l.line + length (lines l.rest) ≡ length (lines l.text))
    × (l.line + length l.rest ≤ length l.text)

abbrev pub decreases-loop-here : goal.decreases-loop-here
decreases-loop-here l = length l.rest
