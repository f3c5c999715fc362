use Rattle.clause_words.proofs.Equalities.{equal_law}
use Rattle.clause_words.proofs.laws.equalities.Goals as goal

pub returns : goal.returns
returns c = equal_law
