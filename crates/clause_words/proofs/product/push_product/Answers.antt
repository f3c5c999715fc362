use Rattle.std.proofs.Common.{◌-◌}
use Rattle.std.proofs.lemmas.Result.{on_ok_weaker}
use Rattle.clause_gates.specs.Gates.{copy_gate, positive}
use Rattle.clause_words.specs.Products.{stage_clauses, sum_start}
use Rattle.clause_words.specs.Rows.{bit, columns, row_clauses}
use Rattle.clause_words.specs.declared.row.Row.TheVariants.{Times}
use Rattle.clause_words.proofs.Columns.{pushed_three}
use Rattle.clause_words.proofs.product.push_product.Goals as goal

pub returns : goal.returns
returns c =
    on_ok_weaker c.push_copies.result
    (pushed_three c.args.list.now c.push_row.new.list c.push_stages.new.list c.push_copies.new.list
    (row_clauses c.args.w (Times c.args.h c.args.a c.args.b))
    (columns (stage_clauses c.args.w c.args.a c.args.b c.args.h) (c.args.w - 1))
    (columns (λ k. copy_gate (bit c.args.r k) (positive (sum_start c.args.w c.args.h k))) c.args.w)
    c.in_ok-push_row.ensures c.in_ok-push_stages.ensures)
    c.push_copies.ensures
