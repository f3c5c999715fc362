use Rattle.lane_semantics.proofs.RowLaws.{pavg_is}
use Rattle.lane_semantics.proofs.laws.averages_round_up.Goals as goal

pub returns : goal.returns
returns c = pavg_is
