use Rattle.row_values.proofs.RowNumbers.{rows_say}
use Rattle.row_values.proofs.laws.rows_say_their_values.Goals as goal

pub returns : goal.returns
returns c = rows_say
