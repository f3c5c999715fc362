use Rattle.form_sums.proofs.Constants.{constant_of_sum}
use Rattle.form_sums.proofs.laws.sums_have_their_constant.Goals as goal

pub returns : goal.returns
returns c = constant_of_sum
