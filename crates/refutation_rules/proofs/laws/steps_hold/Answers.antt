use Rattle.refutation_rules.proofs.Steps.{step_holds}
use Rattle.refutation_rules.proofs.laws.steps_hold.Goals as goal

pub returns : goal.returns
returns c = λ e v s k step reads held h. step_holds e v s reads k step held h
