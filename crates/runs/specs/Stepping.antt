-- What the code of a step has done, in terms of the step.
use Rattle.std.specs.Prelude.{◌≡◌}
use Rattle.runs.specs.Run.{Step, Goes, Returns, Faults, MeetsUnset}
use Rattle.runs.specs.declared.ends.StepEnd.{StepEnd}
use Rattle.runs.specs.declared.ends.StepEnd.TheVariants.{Next, Return, Fault, Unset}

-- The state goes on where the step does, and stays where the step ends the run.
abbrev pub StepsAs : {S : Type 0} → Step S → S → StepEnd → S → Type 0
StepsAs (Goes next) old end new = (end ≡ Next) × (new ≡ next)
StepsAs Returns old end new = (end ≡ Return) × (new ≡ old)
StepsAs Faults old end new = (end ≡ Fault) × (new ≡ old)
StepsAs MeetsUnset old end new = (end ≡ Unset) × (new ≡ old)
