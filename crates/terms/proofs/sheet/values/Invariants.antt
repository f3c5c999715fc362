use Rattle.std.proofs.Common.{◌≡◌, ℕ, ◌<◌, length}
use Rattle.std.specs.Prelude.{slice_index}
use Rattle.node_values.specs.Environments.{environment_of}
use Rattle.node_values.specs.Sheets.{value_at}
use Rattle.terms.proofs.sheet.values.Given as goal

abbrev pub invariant-loop-i : goal.invariant-loop-i
invariant-loop-i l = record {
  len : length l.values.items ≡ l.i;
  each : (i : ℕ) → i < l.i → slice_index l.values.items i ≡ value_at (environment_of l.env) l.nodes i;
}
