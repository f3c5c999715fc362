use Rattle.std.proofs.Common.{ℕ, ◌+◌, ◌<◌, ◌≤◌}
use Rattle.machine.specs.Difference.{SameByte}
use Rattle.machine.specs.Kept.{pure_of}
use Rattle.machine.proofs.state.State.first_in_span.Given as goal

-- no byte so far differs
abbrev pub invariant-loop-i : goal.invariant-loop-i
invariant-loop-i l = (x : ℕ) → l.span.at ≤ x → x < l.span.at + l.i → SameByte l.scratch (pure_of l.self) (pure_of l.other) x
