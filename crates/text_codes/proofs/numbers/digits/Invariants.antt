use Rattle.std.proofs.Common.{◌≡◌, ◌+◌, ◌≤◌, length}
use Rattle.text_codes.specs.Endings.{may_end}
use Rattle.text_codes.specs.Numbers.{digits_at}
use Rattle.text_codes.proofs.numbers.digits.Given as goal

-- what is left is read as the whole is, and the number so far is in range
abbrev pub invariant-loop-rest : goal.invariant-loop-rest
invariant-loop-rest l =
    (digits_at (l.greatest + 1) (may_end l.ending) l.value l.rest ≡ digits_at (l.greatest + 1) (may_end l.ending) l.fn.n l.fn.text)
    × (l.value ≤ l.greatest) × (l.fn.n ≤ l.value)

abbrev pub decreases-loop-rest : goal.decreases-loop-rest
decreases-loop-rest l = length l.rest
