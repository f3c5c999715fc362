use Rattle.std.proofs.Common.{take}
use Rattle.std.specs.List.{AllByRecursion}
use Rattle.node_forms.specs.Sums.{SameWord}
use Rattle.linear_forms.specs.Combinations.{weighted}
use Rattle.linear_forms.specs.Places.{word_at}
use Rattle.linear_forms.proofs.combining.combines.Given as goal

abbrev pub invariant-loop-place : goal.invariant-loop-place
invariant-loop-place l =
    AllByRecursion (λ place. SameWord l.target.w (weighted (word_at place) l.parts) (word_at place l.target))
    (take l.place-index l.place-items)
