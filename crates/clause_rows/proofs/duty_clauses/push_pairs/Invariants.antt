use Rattle.std.proofs.Common.{◌≡◌, ◌++◌, take}
use Rattle.std.specs.Prelude.{slice_index}
use Rattle.std.specs.List.{flat_map}
use Rattle.clause_gates.specs.NormalForms.{normal_clauses}
use Rattle.clause_rows.specs.DutyClauses.{pair_row}
use Rattle.clause_rows.proofs.duty_clauses.push_pairs.Given as goal

abbrev pub invariant-loop-pair : goal.invariant-loop-pair
invariant-loop-pair l =
    l.list ≡ l.initial.list ++ normal_clauses (flat_map (pair_row (slice_index l.firsts)) (take l.pair-index l.pairs))
