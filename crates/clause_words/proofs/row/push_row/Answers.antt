use Rattle.clause_words.specs.Rows.{column}
use Rattle.clause_words.proofs.Columns.{pushed_column}
use Rattle.clause_words.proofs.row.push_row.Goals as goal

pub loop-k-preserved : goal.loop-k-preserved
loop-k-preserved c =
    pushed_column c.args.list.now c.loop-k.list c.push_column.new.list (column c.args.row.now) c.loop-k.k
    c.loop-k.invariant c.in_ok-push_column.ensures
