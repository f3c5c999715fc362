use Rattle.std.proofs.Common.{◌≡◌, ℕ, ◌<◌, true, length}
use Rattle.std.specs.Prelude.{slice_index}
use Rattle.node_reach.specs.Reached.{is_marked}
use Rattle.node_values.specs.Nodes.{AreWordWidths}
use Rattle.node_values.specs.Sheets.{width_at}
use Rattle.clause_rows.proofs.numbering.reach_widths.Given as goal

abbrev pub invariant-loop-i : goal.invariant-loop-i
invariant-loop-i l = record {
  len : length l.widths.items ≡ l.i;
  marked : (k : ℕ) → k < l.i → is_marked l.reach k ≡ true → slice_index l.widths.items k ≡ width_at l.duty.sheet.now k;
  words : AreWordWidths l.widths.items;
}
