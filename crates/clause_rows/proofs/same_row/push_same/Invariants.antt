use Rattle.std.proofs.Common.{◌≡◌, ◌++◌}
use Rattle.clause_gates.specs.NormalForms.{normal_clauses}
use Rattle.clause_words.specs.Rows.{columns}
use Rattle.clause_rows.specs.SameRows.{same_column}
use Rattle.clause_rows.proofs.same_row.push_same.Given as goal

abbrev pub invariant-loop-k : goal.invariant-loop-k
invariant-loop-k l = l.list ≡ l.initial.list ++ normal_clauses (columns (same_column l.same_at l.scratch l.m l.n) l.k)
