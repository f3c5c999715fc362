use Rattle.std.specs.List.{AllByRecursion}
use Rattle.linear_forms.specs.Combinations.{IsAt}
use Rattle.node_tests.proofs.systems.forms.Given as goal

abbrev pub invariant-loop-words : goal.invariant-loop-words
invariant-loop-words l = AllByRecursion (IsAt l.w) l.forms.items
