use Rattle.std.proofs.Common.{◌≡◌, ◌++◌, length, map}
use Rattle.std.specs.Prelude.{string_bytes}
use Rattle.command_line.specs.Parser.{joined_option}
use Rattle.command_line.specs.View.{option_view}
use Rattle.command_line.proofs.parser.push_options.Given as goal

-- the words so far, and those that are left
abbrev pub invariant-loop-rest : goal.invariant-loop-rest
invariant-loop-rest l =
    map string_bytes l.words.items ++ map (λ o. joined_option (option_view o)) l.rest ≡ map string_bytes l.fn.words.items ++ map (λ o. joined_option (option_view o)) l.options

abbrev pub decreases-loop-rest : goal.decreases-loop-rest
decreases-loop-rest l = length l.rest
