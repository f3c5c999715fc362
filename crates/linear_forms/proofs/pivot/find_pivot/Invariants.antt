use Rattle.std.proofs.Common.{take}
use Rattle.std.specs.List.{AllByRecursion}
use Rattle.linear_forms.specs.MatrixRows.{IsEven}
use Rattle.linear_forms.proofs.pivot.find_pivot.Given as goal

abbrev pub invariant-loop-at : goal.invariant-loop-at
invariant-loop-at l = AllByRecursion (IsEven l.n l.power) (take l.at l.rows)
