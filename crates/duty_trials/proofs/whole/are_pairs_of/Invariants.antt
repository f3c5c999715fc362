use Rattle.std.proofs.Common.{◌≡◌, take}
use Rattle.std.specs.Prelude.{map}
use Rattle.duty_trials.proofs.whole.are_pairs_of.Given as goal

abbrev pub invariant-loop-i : goal.invariant-loop-i
invariant-loop-i l = map (λ p. (p.m.0, p.n.0)) (take l.i l.pairs) ≡ take l.i l.two
