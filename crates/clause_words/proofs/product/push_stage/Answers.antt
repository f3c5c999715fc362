use Rattle.std.proofs.Common.{◌+◌}
use Rattle.std.proofs.lemmas.Result.{on_ok_weaker}
use Rattle.clause_gates.proofs.Forms.{pushed_parts}
use Rattle.clause_words.specs.Rows.{row_clauses}
use Rattle.clause_words.specs.declared.row.Row.TheVariants.{Sum, Times}
use Rattle.clause_words.proofs.product.push_stage.Goals as goal

pub returns : goal.returns
returns c =
    on_ok_weaker c.push_row-2.result
    (pushed_parts c.args.list.now c.push_row.new.list c.push_row-2.new.list
    (row_clauses c.args.n (Times c.args.start c.args.a c.args.b))
    (row_clauses c.args.n (Sum c.args.n (c.args.start + c.args.n) c.args.sum c.args.start (c.args.start + c.args.n + c.args.n)))
    c.in_ok-push_row.ensures)
    c.push_row-2.ensures
