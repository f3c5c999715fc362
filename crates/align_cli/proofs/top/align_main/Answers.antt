use Rattle.align_cli.proofs.Ending.{tells-answer, tells-finish, tells-refusal}
use Rattle.align_cli.proofs.top.align_main.Goals as goal

pub returns-in-Ok-give-clause-must_refuse : goal.returns-in-Ok-give-clause-must_refuse
returns-in-Ok-give-clause-must_refuse g c = λ command is. tells-refusal _ _ _ _ command is c.in-Ok.answer.status c.in-Ok.ensures.ok

pub returns-in-Ok-give-clause-must_finish : goal.returns-in-Ok-give-clause-must_finish
returns-in-Ok-give-clause-must_finish g c = λ command is. tells-finish _ _ _ _ command is c.in-Ok.answer.status c.in-Ok.ensures.ok

pub returns-in-Ok-give-clause-must_answer : goal.returns-in-Ok-give-clause-must_answer
returns-in-Ok-give-clause-must_answer g c = λ command owed is. tells-answer _ _ _ _ command is owed c.in-Ok.answer.status c.in-Ok.ensures.ok
