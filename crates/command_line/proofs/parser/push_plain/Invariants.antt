use Rattle.std.proofs.Common.{◌≡◌, ◌++◌, length, map}
use Rattle.std.specs.Prelude.{string_bytes}
use Rattle.command_line.proofs.parser.push_plain.Given as goal

-- the words so far, and those that are left
abbrev pub invariant-loop-rest : goal.invariant-loop-rest
invariant-loop-rest l =
    map string_bytes l.words.items ++ map (λ text. text.now) l.rest ≡ map string_bytes l.fn.words.items ++ map (λ text. text.now) l.plain

abbrev pub decreases-loop-rest : goal.decreases-loop-rest
decreases-loop-rest l = length l.rest
