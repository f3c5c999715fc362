use Rattle.linear_forms.specs.MatrixRows.{IsEven}
use Rattle.linear_forms.proofs.matrix_row.odd_place.Given as goal

abbrev pub invariant-loop-place : goal.invariant-loop-place
invariant-loop-place l = IsEven l.place l.power l.words
