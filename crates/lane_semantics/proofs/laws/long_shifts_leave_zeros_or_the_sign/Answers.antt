use Rattle.lane_semantics.proofs.RowLaws.{psll_long, psra_long, psrl_long}
use Rattle.lane_semantics.proofs.laws.long_shifts_leave_zeros_or_the_sign.Goals as goal

pub returns-clause-left : goal.returns-clause-left
returns-clause-left c = psll_long

pub returns-clause-right : goal.returns-clause-right
returns-clause-right c = psrl_long

pub returns-clause-by_sign : goal.returns-clause-by_sign
returns-clause-by_sign c = psra_long
