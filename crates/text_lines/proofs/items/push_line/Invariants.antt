use Rattle.std.proofs.Common.{◌≡◌, ◌++◌, map, length}
use Rattle.text_lines.specs.Cutting.{items_left}
use Rattle.text_lines.specs.Views.{seen}
use Rattle.text_lines.proofs.items.push_line.Given as goal

-- the items so far and those that are left are the old ones and those of the line
abbrev pub invariant-loop-name : goal.invariant-loop-name
invariant-loop-name l = map seen l.items.items ++ items_left l.line l.rest ≡ map seen l.initial.items.items ++ items_left l.line l.visible

abbrev pub decreases-loop-name : goal.decreases-loop-name
decreases-loop-name l = length l.rest
