use Rattle.std.proofs.Common.{take}
use Rattle.std.specs.List.{AllByRecursion}
use Rattle.duty_claims.specs.Whole.{IsLine}
use Rattle.duty_trials.proofs.whole.are_lines.Given as goal

abbrev pub invariant-loop-line : goal.invariant-loop-line
invariant-loop-line l = AllByRecursion (IsLine l.built.sheet) (take l.line-index l.scratch)
