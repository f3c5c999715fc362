use Rattle.std.proofs.Common.{◌≡◌, ◌++◌}
use Rattle.clause_gates.specs.NormalForms.{normal_clauses}
use Rattle.clause_words.specs.Rows.{columns}
use Rattle.clause_rows.specs.DutyClauses.{reach_row}
use Rattle.clause_rows.proofs.duty_clauses.push_nodes.Given as goal

abbrev pub invariant-loop-i : goal.invariant-loop-i
invariant-loop-i l = l.list ≡ l.initial.list ++ normal_clauses (columns (reach_row l.duty) l.i)
