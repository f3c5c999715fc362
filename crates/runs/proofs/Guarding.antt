-- A step under tests, and the free step that it is where it goes.
use Rattle.std.proofs.Common.{◌≡◌, Bool, true, false, refl}
use Rattle.runs.specs.Run.{Step, Goes, Returns, Faults, MeetsUnset, guarded, tested}
use Rattle.runs.specs.Stepping.{StepsAs}
use Rattle.runs.specs.declared.ends.StepEnd.{StepEnd}

tested-goes : {S : Type 0} (holds : Bool) (p : Step S) (t : S) → tested holds p ≡ Goes t → (holds ≡ true) × (p ≡ Goes t)
tested-goes true p t h = (refl, h)
tested-goes false (Goes u) t h = absurd (cc)
tested-goes false Returns t h = absurd (cc)
tested-goes false Faults t h = absurd (cc)
tested-goes false MeetsUnset t h = absurd (cc)

-- Where a step under tests goes, its test holds, and it is the free step.
pub guarded-goes : {S : Type 0} (allows : S → Bool) (free : S → Step S) (s t : S) → guarded allows free s ≡ Goes t → (allows s ≡ true) × (free s ≡ Goes t)
guarded-goes allows free s t h = tested-goes (allows s) (free s) t h

-- A step whose test fails leaves the state.
pub failed_stays : {S : Type 0} (p : Step S) (s t : S) (end : StepEnd) → StepsAs (tested false p) s end t → t ≡ s
failed_stays (Goes next) s t end h = h.1
failed_stays Returns s t end h = h.1
failed_stays Faults s t end h = h.1
failed_stays MeetsUnset s t end h = h.1
