use Rattle.std.proofs.Common.{◌≡◌, ◌<◌, length}
use Rattle.node_values.specs.Sheets.{width_at}
use Rattle.node_bench.proofs.chain.full_sheet.Given as goal

abbrev pub invariant-loop-v : goal.invariant-loop-v
invariant-loop-v l = record {
  place : l.last.0 < length l.sheet;
  width : width_at l.sheet l.last.0 ≡ 64;
}
