use Rattle.linear_forms.specs.MatrixRows.{IsMultiple}
use Rattle.linear_forms.proofs.elimination.is_multiple.Given as goal

abbrev pub invariant-loop-place : goal.invariant-loop-place
invariant-loop-place l = IsMultiple l.place l.w l.words
