use Rattle.std.proofs.Common.{◌+◌, drop}
use Rattle.node_forms.specs.Sums.{SameWord}
use Rattle.linear_forms.specs.Combinations.{weighted}
use Rattle.linear_forms.specs.Places.{word_at}
use Rattle.linear_forms.proofs.combining.weighted_sum.Given as goal

abbrev pub invariant-loop-weight : goal.invariant-loop-weight
invariant-loop-weight l =
    SameWord 64 (l.sum + weighted (word_at l.place) (drop l.weight-index l.parts)) (weighted (word_at l.place) l.parts)
