use Rattle.std.proofs.Common.{◌≡◌, ◌+◌, ◌*◌, ◌≤◌, ◌++◌}
use Rattle.clause_gates.specs.Gates.{copy_gate, positive}
use Rattle.clause_gates.specs.NormalForms.{normal_clauses}
use Rattle.clause_words.specs.Products.{stage_start, sum_start}
use Rattle.clause_words.specs.Rows.{bit, columns}
use Rattle.clause_words.proofs.product.push_copies.Given as goal

abbrev pub invariant-loop-k : goal.invariant-loop-k
invariant-loop-k l = record {
  clauses : l.list ≡ l.fn.list ++ normal_clauses (columns (λ k. copy_gate (bit l.r k) (positive (sum_start l.w l.h k))) (l.k + 1));
  start : l.start ≡ stage_start l.w l.h l.k;
  room : l.start ≤ l.h + 64 + 191 * l.k;
}
