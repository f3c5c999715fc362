use Rattle.std.proofs.Common.{◌≡◌, ◌↔◌, length, option_map}
use Rattle.std.specs.List.{AllByRecursion}
use Rattle.command_line.specs.Command.{IsArgument}
use Rattle.command_line.specs.Reading as reading
use Rattle.command_line.specs.View.{line_view, mode_view}
use Rattle.command_line.proofs.line.line_of.Given as goal

-- what is left are arguments exactly where all are, and the line of all is what was read and then the line of what is left
abbrev pub invariant-loop-rest : goal.invariant-loop-rest
invariant-loop-rest l =
    (AllByRecursion IsArgument l.arguments ↔ AllByRecursion IsArgument l.rest)
    × (reading.line_in reading.Usual l.arguments ≡ option_map (reading.joined (line_view l.line)) (reading.line_in (mode_view l.mode) l.rest))

abbrev pub decreases-loop-rest : goal.decreases-loop-rest
decreases-loop-rest l = length l.rest
