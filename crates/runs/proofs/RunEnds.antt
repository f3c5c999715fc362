-- How a run goes on or ends by one step of the code.
use Rattle.std.proofs.Common.{◌≡◌, ℕ, suc, ◌+◌, ◌<◌, refl, sym, ◌∙◌, add-one, arith}
use Rattle.runs.specs.Run.{Step, Goes, Returns, Faults, MeetsUnset, IsOver, run_of}
use Rattle.runs.specs.Stepping.{StepsAs}
use Rattle.runs.specs.declared.ends.RunEnd.{RunEnd}
use Rattle.runs.specs.declared.ends.RunEnd.TheVariants.{Returned, Faulted, Unset, Running}
use Rattle.runs.specs.declared.ends.StepEnd.{StepEnd}
use Rattle.runs.specs.declared.ends.StepEnd.TheVariants as ends
use Rattle.runs.proofs.Runs.{one_more, stays_over}

-- the end of a run whose n-th step ends so
abbrev pub end_after : StepEnd → ℕ → RunEnd
end_after ends.Next n = Running
end_after ends.Return n = Returned n
end_after ends.Fault n = Faulted n
end_after ends.Unset n = Unset n

taken : {S : Type 0} (step : S → Step S) (s t u : S) (end : StepEnd) (i : ℕ) (p : Step S) → run_of step s i ≡ (t, Running) → step t ≡ p
    → StepsAs p t end u → run_of step s (suc i) ≡ (u, end_after end (suc i))
taken step s t u end i (Goes next) h is k = one_more step s t i (Goes next) h is ∙ (λ j. (sym k.1 j, end_after (sym k.0 j) (suc i)))
taken step s t u end i Returns h is k = one_more step s t i Returns h is ∙ (λ j. (sym k.1 j, end_after (sym k.0 j) (suc i)))
taken step s t u end i Faults h is k = one_more step s t i Faults h is ∙ (λ j. (sym k.1 j, end_after (sym k.0 j) (suc i)))
taken step s t u end i MeetsUnset h is k = one_more step s t i MeetsUnset h is ∙ (λ j. (sym k.1 j, end_after (sym k.0 j) (suc i)))

-- A run that goes on, and one more step of the code: where it has come to.
pub run-step : {S : Type 0} (step : S → Step S) (s t u : S) (end : StepEnd) (i : ℕ) → run_of step s i ≡ (t, Running) → StepsAs (step t) t end u
    → run_of step s (i + 1) ≡ (u, end_after end (i + 1))
run-step step s t u end i h k = rw add-one (taken step s t u end i (step t) h refl k)

-- Where that step ends it, it has ended so after any more.
pub run-over : {S : Type 0} (step : S → Step S) (s t u : S) (end : StepEnd) (i n : ℕ) → IsOver (end_after end (i + 1))
    → run_of step s i ≡ (t, Running) → StepsAs (step t) t end u → i < n → run_of step s n ≡ (u, end_after end (i + 1))
run-over step s t u end i n over h k lt = stays_over step s u (end_after end (i + 1)) (i + 1) n over (omega arith) (run-step step s t u end i h k)
