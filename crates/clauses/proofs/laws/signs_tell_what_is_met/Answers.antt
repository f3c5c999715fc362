use Rattle.clauses.proofs.Signs.{met_of_sign, sign_of_met}
use Rattle.clauses.proofs.laws.signs_tell_what_is_met.Goals as goal

pub returns : goal.returns
returns c = λ v ls h. (sign_of_met v ls h, λ found. met_of_sign v ls found.0 found.1)
