use Rattle.terms.proofs.Built.{row_has_value}
use Rattle.terms.proofs.laws.rows_have_their_values.Goals as goal

pub returns : goal.returns
returns c = row_has_value
