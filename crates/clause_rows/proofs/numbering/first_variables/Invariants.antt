use Rattle.std.proofs.Common.{◌≡◌, ◌+◌, ◌*◌, ◌≤◌}
use Rattle.std.specs.Prelude.{map}
use Rattle.std.specs.List.{range_with_len}
use Rattle.clause_rows.specs.Numbering.{HaveRowRoom, first_variable}
use Rattle.clause_rows.proofs.numbering.first_variables.Given as goal

abbrev pub invariant-loop-i : goal.invariant-loop-i
invariant-loop-i l = record {
  firsts : l.firsts.items ≡ map (first_variable l.duty) (range_with_len 0 l.i);
  next : l.next ≡ first_variable l.duty l.i;
  few : l.next ≤ 1 + 12416 * l.i;
  all : l.next ≤ 1 + 12416 * 65536;
  room : HaveRowRoom l.firsts.items;
}
