use Rattle.clauses.proofs.Signs.{resolvent_met}
use Rattle.clauses.proofs.laws.resolvents_are_met.Goals as goal

pub returns : goal.returns
returns c = resolvent_met
