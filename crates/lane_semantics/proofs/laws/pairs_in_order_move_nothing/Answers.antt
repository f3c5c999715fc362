use Rattle.lane_semantics.proofs.RowLaws.{pshufd_in_order}
use Rattle.lane_semantics.proofs.laws.pairs_in_order_move_nothing.Goals as goal

pub returns : goal.returns
returns c = pshufd_in_order
