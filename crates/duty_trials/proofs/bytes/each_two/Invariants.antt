use Rattle.std.proofs.Common.{◌≡◌, ◌++◌, drop}
use Rattle.duty_claims.specs.Needs.{each_two}
use Rattle.duty_trials.proofs.bytes.each_two.Given as goal

abbrev pub invariant-loop-i : goal.invariant-loop-i
invariant-loop-i l = l.two.items ++ each_two (drop l.i l.numbers) ≡ each_two l.numbers
