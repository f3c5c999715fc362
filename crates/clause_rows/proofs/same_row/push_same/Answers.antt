use Rattle.std.proofs.Common.{◌≡◌, ◌∙◌, ◌++◌, ap, arith}
use Rattle.clause_gates.specs.NormalForms.{normal_clauses}
use Rattle.clause_words.specs.Rows.{columns}
use Rattle.clause_words.proofs.Columns.{pushed_column}
use Rattle.clause_rows.specs.SameRows.{same_column}
use Rattle.clause_rows.proofs.same_row.push_same.Goals as goal

pub loop-k-preserved : goal.loop-k-preserved
loop-k-preserved c =
    pushed_column c.args.list.now c.loop-k.list c.push_column.new.list (same_column c.args.same_at c.args.scratch c.args.m c.args.n)
    c.loop-k.k c.loop-k.invariant c.in_ok-push_column.ensures

pub returns : goal.returns
returns c =
    let e : c.loop-k.k ≡ 8 = omega arith in
    c.loop-k.invariant
    ∙ ap (λ k. c.args.list.now ++ normal_clauses (columns (same_column c.args.same_at c.args.scratch c.args.m c.args.n) k)) e
