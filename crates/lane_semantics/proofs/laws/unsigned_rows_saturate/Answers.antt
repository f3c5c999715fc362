use Rattle.lane_semantics.proofs.RowLaws.{paddus_is, psubus_is}
use Rattle.lane_semantics.proofs.laws.unsigned_rows_saturate.Goals as goal

pub returns-clause-sums : goal.returns-clause-sums
returns-clause-sums c = paddus_is

pub returns-clause-differences : goal.returns-clause-differences
returns-clause-differences c = psubus_is
