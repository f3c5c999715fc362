use Rattle.clause_gates.proofs.GateLaws.{choice_says, majority_says, xor_says}
use Rattle.clause_gates.proofs.laws.gates_are_their_connectives.Goals as goal

pub returns-clause-xor : goal.returns-clause-xor
returns-clause-xor c = xor_says

pub returns-clause-majority : goal.returns-clause-majority
returns-clause-majority c = majority_says

pub returns-clause-choice : goal.returns-clause-choice
returns-clause-choice c = choice_says
