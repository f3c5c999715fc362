use Rattle.std.proofs.Common.{◌≡◌, ◌++◌}
use Rattle.clause_gates.specs.NormalForms.{normal_clauses}
use Rattle.clause_words.specs.Rows.{column, columns}
use Rattle.clause_words.proofs.row.push_row.Given as goal

abbrev pub invariant-loop-k : goal.invariant-loop-k
invariant-loop-k l = l.list ≡ l.initial.list ++ normal_clauses (columns (column l.row) l.k)
