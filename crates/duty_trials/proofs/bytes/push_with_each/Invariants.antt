use Rattle.std.proofs.Common.{◌≡◌, ◌++◌, take}
use Rattle.std.specs.Prelude.{map}
use Rattle.duty_trials.proofs.bytes.push_with_each.Given as goal

abbrev pub invariant-loop-n : goal.invariant-loop-n
invariant-loop-n l = l.two.items ≡ l.initial.two.items ++ map (λ n. (l.m, n)) (take l.n-index l.numbers)
