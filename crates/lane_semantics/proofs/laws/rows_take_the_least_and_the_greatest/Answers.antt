use Rattle.lane_semantics.proofs.RowLaws.{pmaxs_is, pmaxu_is, pmins_is, pminu_is}
use Rattle.lane_semantics.proofs.laws.rows_take_the_least_and_the_greatest.Goals as goal

pub returns-clause-least : goal.returns-clause-least
returns-clause-least c = pminu_is

pub returns-clause-greatest : goal.returns-clause-greatest
returns-clause-greatest c = pmaxu_is

pub returns-clause-signed_least : goal.returns-clause-signed_least
returns-clause-signed_least c = pmins_is

pub returns-clause-signed_greatest : goal.returns-clause-signed_greatest
returns-clause-signed_greatest c = pmaxs_is
