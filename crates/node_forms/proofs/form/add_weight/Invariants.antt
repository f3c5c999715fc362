use Rattle.std.proofs.Common.{◌≡◌, ◌++◌, take, drop}
use Rattle.node_forms.specs.Sums.{with_weight}
use Rattle.node_forms.proofs.form.add_weight.Given as goal

abbrev pub invariant-loop-at : goal.invariant-loop-at
invariant-loop-at l = record {
  same : l.pending.items ≡ l.initial.pending.items;
  passed : with_weight l.w l.a l.q l.pending.items ≡ take l.at l.pending.items ++ with_weight l.w l.a l.q (drop l.at l.pending.items);
}
