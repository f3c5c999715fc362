use Rattle.row_values.proofs.Places.{rows_stay}
use Rattle.row_values.proofs.laws.rows_stay_in_place.Goals as goal

pub returns : goal.returns
returns c = rows_stay
