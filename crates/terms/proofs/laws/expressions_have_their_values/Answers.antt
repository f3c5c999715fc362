use Rattle.terms.proofs.Built.{has_value}
use Rattle.terms.proofs.laws.expressions_have_their_values.Goals as goal

pub returns : goal.returns
returns c = has_value
