use Rattle.lane_semantics.proofs.SignedSaturation.{padds_is, psubs_is}
use Rattle.lane_semantics.proofs.laws.signed_rows_saturate.Goals as goal

pub returns-clause-sums : goal.returns-clause-sums
returns-clause-sums c = padds_is

pub returns-clause-differences : goal.returns-clause-differences
returns-clause-differences c = psubs_is
