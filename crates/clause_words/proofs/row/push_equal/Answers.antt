use Rattle.std.proofs.Common.{[], ◌∷◌}
use Rattle.std.proofs.lemmas.Result.{on_ok_weaker}
use Rattle.clause_words.specs.Rows.{all_alike, row_clauses}
use Rattle.clause_words.specs.declared.row.Row.TheVariants.{Alike, Each}
use Rattle.clause_words.proofs.Columns.{pushed_three}
use Rattle.clause_words.proofs.row.push_equal.Goals as goal

pub returns : goal.returns
returns c =
    on_ok_weaker c.push_all_alike.result
    (pushed_three c.args.list.now c.push_row.new.list c.push_row-2.new.list c.push_all_alike.new.list
    (row_clauses c.args.w (Alike c.args.alike c.args.a c.args.b)) (row_clauses c.args.w (Each c.args.r c.args.alike))
    (all_alike c.args.w c.args.r c.args.alike ∷ []) c.in_ok-push_row.ensures c.in_ok-push_row-2.ensures)
    c.push_all_alike.ensures
