use Rattle.std.proofs.Common.{◌≡◌, take, drop}
use Rattle.std.specs.List.{AllZip}
use Rattle.linear_forms.specs.MatrixRows.{IsCleared}
use Rattle.linear_forms.proofs.pivot.Pivot.clear_all.Given as goal

abbrev pub invariant-loop-row : goal.invariant-loop-row
invariant-loop-row l = record {
  cleared : AllZip (IsCleared l.self.row l.self.place) (take l.row-index l.initial.rows) (take l.row-index l.rows);
  left : drop l.row-index l.rows ≡ drop l.row-index l.initial.rows;
}
