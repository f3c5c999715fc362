use Rattle.std.proofs.Common.{◌≡◌, ◌+◌, ◌*◌, ◌≤◌, ◌++◌}
use Rattle.clause_gates.specs.NormalForms.{normal_clauses}
use Rattle.clause_words.specs.Products.{stage_clauses, stage_start, sum_start}
use Rattle.clause_words.specs.Rows.{columns}
use Rattle.clause_words.proofs.product.push_stages.Given as goal

abbrev pub invariant-loop-k : goal.invariant-loop-k
invariant-loop-k l = record {
  clauses : l.list ≡ l.initial.list ++ normal_clauses (columns (stage_clauses l.w l.a l.b l.h) l.k);
  sum : l.sum ≡ sum_start l.w l.h l.k;
  start : l.start ≡ stage_start l.w l.h l.k;
  sum_room : l.sum + 1 ≤ l.h + 64 + 191 * l.k;
  room : l.start ≤ l.h + 64 + 191 * l.k;
}
