use Rattle.std.proofs.Common.{◌≡◌}
use Rattle.std.specs.List.{filter, range_with_len}
use Rattle.node_values.specs.Sheets.{node_at}
use Rattle.duty_claims.specs.Needs.{is_start}
use Rattle.duty_trials.proofs.bytes.bytes_of.Given as goal

abbrev pub invariant-loop-i : goal.invariant-loop-i
invariant-loop-i l = l.bytes.items ≡ filter (λ i. is_start (node_at l.built.sheet i)) (range_with_len 0 l.i)
