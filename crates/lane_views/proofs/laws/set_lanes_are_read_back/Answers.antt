use Rattle.lane_views.proofs.Settings.{lane_set}
use Rattle.lane_views.proofs.laws.set_lanes_are_read_back.Goals as goal

pub returns : goal.returns
returns c = lane_set
