use Rattle.lane_semantics.proofs.RowLaws.{high_first, high_second, low_first, low_second}
use Rattle.lane_semantics.proofs.laws.unpacked_lanes_stand_in_turn.Goals as goal

pub returns-clause-low_first : goal.returns-clause-low_first
returns-clause-low_first c = low_first

pub returns-clause-low_second : goal.returns-clause-low_second
returns-clause-low_second c = low_second

pub returns-clause-high_first : goal.returns-clause-high_first
returns-clause-high_first c = high_first

pub returns-clause-high_second : goal.returns-clause-high_second
returns-clause-high_second c = high_second
