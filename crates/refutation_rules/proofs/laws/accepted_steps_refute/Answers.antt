use Rattle.std.proofs.Common.{false, refl}
use Rattle.std.proofs.lemmas.Bool.{both_ways}
use Rattle.refutation_rules.proofs.Steps.{none_accepted}
use Rattle.refutation_rules.proofs.laws.accepted_steps_refute.Goals as goal

pub returns : goal.returns
returns c = λ e v s k steps reads held h. none_accepted e v s reads k false steps held (λ t. both_ways false refl t) h
