use Rattle.std.proofs.Common.{take}
use Rattle.std.specs.List.{AllByRecursion}
use Rattle.duty_claims.specs.Whole.{IsWholePair}
use Rattle.duty_trials.proofs.whole.are_whole_pairs.Given as goal

abbrev pub invariant-loop-pair : goal.invariant-loop-pair
invariant-loop-pair l = AllByRecursion (IsWholePair l.built.sheet l.scratch) (take l.pair-index l.pairs)
