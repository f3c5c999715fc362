use Rattle.std.proofs.Common.{◌+◌, ◌-◌, ◌≤◌, length}
use Rattle.linear_forms.specs.MatrixRows.{IsReduced}
use Rattle.linear_forms.proofs.elimination.eliminate.Given as goal

abbrev pub invariant-loop-power : goal.invariant-loop-power
invariant-loop-power l = record {
  power : l.power ≤ l.w;
  reduced : IsReduced l.w l.n l.power l.initial.rows.items l.initial.target l.rows.items l.target;
}

abbrev pub decreases-loop-power : goal.decreases-loop-power
decreases-loop-power l = (l.w - l.power) + length l.rows.items
