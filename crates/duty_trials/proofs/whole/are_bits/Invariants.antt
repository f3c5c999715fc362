use Rattle.std.proofs.Common.{take}
use Rattle.std.specs.List.{AllByRecursion}
use Rattle.duty_claims.specs.Whole.{IsNodeOf}
use Rattle.duty_trials.proofs.whole.are_bits.Given as goal

abbrev pub invariant-loop-node : goal.invariant-loop-node
invariant-loop-node l = AllByRecursion (IsNodeOf l.built.sheet 1) (take l.node-index l.nodes)
