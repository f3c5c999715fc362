use Rattle.std.specs.List.{AllByRecursion}
use Rattle.linear_forms.specs.Combinations.{IsAt}
use Rattle.node_tests.proofs.systems.weighted_forms.Given as goal

abbrev pub invariant-loop-weight : goal.invariant-loop-weight
invariant-loop-weight l = AllByRecursion (λ p. IsAt l.w p.1) l.parts.items
