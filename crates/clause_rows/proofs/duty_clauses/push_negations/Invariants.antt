use Rattle.std.proofs.Common.{◌≡◌, ◌++◌, [], ◌∷◌, take}
use Rattle.std.specs.Prelude.{map, slice_index}
use Rattle.clause_gates.specs.Gates.{negation}
use Rattle.clause_gates.specs.NormalForms.{normal_clauses}
use Rattle.clause_rows.specs.DutyClauses.{lowest_bit}
use Rattle.clause_rows.proofs.duty_clauses.push_negations.Given as goal

abbrev pub invariant-loop-node : goal.invariant-loop-node
invariant-loop-node l =
    l.list ≡ l.initial.list ++ normal_clauses (map (λ node. negation (lowest_bit (slice_index l.firsts) node) ∷ []) (take l.node-index l.nodes))
