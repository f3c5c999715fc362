use Rattle.lane_semantics.proofs.RowLaws.{pcmpeq_is}
use Rattle.lane_semantics.proofs.laws.equal_lanes_give_ones.Goals as goal

pub returns : goal.returns
returns c = pcmpeq_is
