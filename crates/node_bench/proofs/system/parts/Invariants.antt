use Rattle.std.specs.List.{AllByRecursion}
use Rattle.linear_forms.specs.Combinations.{IsAt}
use Rattle.node_bench.proofs.system.parts.Given as goal

abbrev pub invariant-loop-i : goal.invariant-loop-i
invariant-loop-i l = AllByRecursion (IsAt 64) l.parts.items
