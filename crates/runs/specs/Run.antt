-- Steps and runs, over states of any kind.
use Rattle.std.specs.Prelude.{ℕ, zero, suc, ◌+◌, Bool, true, false}
use Rattle.runs.specs.declared.ends.RunEnd.{RunEnd}
use Rattle.runs.specs.declared.ends.RunEnd.TheVariants.{Returned, Faulted, Unset, Running}

-- what one step does
pub data Step (S : Type 0) : Type 0 where
  Goes : S → Step S
  Returns : Step S
  Faults : Step S
  MeetsUnset : Step S

-- An unset flag is met before a test that fails.
abbrev pub tested : {S : Type 0} → Bool → Step S → Step S
tested true step = step
tested false (Goes next) = Faults
tested false Returns = Faults
tested false Faults = Faults
tested false MeetsUnset = MeetsUnset

-- a step where each test must hold
abbrev pub guarded : {S : Type 0} → (S → Bool) → (S → Step S) → S → Step S
guarded allows free s = tested (allows s) (free s)

-- where a run has come to, and how it has ended, if it has
abbrev pub Run : Type 0 → Type 0
Run S = S × RunEnd

-- A step as the n-th of a run: where it ends the run, the state stays.
abbrev pub ended_by : {S : Type 0} → S → ℕ → Step S → Run S
ended_by s n (Goes next) = (next, Running)
ended_by s n Returns = (s, Returned n)
ended_by s n Faults = (s, Faulted n)
ended_by s n MeetsUnset = (s, Unset n)

-- A run goes on by one more step, unless it is over.
abbrev pub stepped : {S : Type 0} → (S → Step S) → ℕ → Run S → Run S
stepped step n (s, Running) = ended_by s n (step s)
stepped step n (s, Returned k) = (s, Returned k)
stepped step n (s, Faulted k) = (s, Faulted k)
stepped step n (s, Unset k) = (s, Unset k)

-- the run of at most n steps
abbrev pub run_of : {S : Type 0} → (S → Step S) → S → ℕ → Run S
run_of step s zero = (s, Running)
run_of step s (suc n) = stepped step (suc n) (run_of step s n)

-- how it ends within n steps
abbrev pub end_of : {S : Type 0} → (S → Step S) → S → ℕ → RunEnd
end_of step s n = (run_of step s n).1

-- the run has ended
abbrev pub IsOver : RunEnd → Type 0
IsOver (Returned i) = Unit {0}
IsOver (Faulted i) = Unit {0}
IsOver (Unset i) = Unit {0}
IsOver Running = ⊥

-- a run that begins l steps later
abbrev pub later : {S : Type 0} → ℕ → Run S → Run S
later l (s, Returned i) = (s, Returned (l + i))
later l (s, Faulted i) = (s, Faulted (l + i))
later l (s, Unset i) = (s, Unset (l + i))
later l (s, Running) = (s, Running)
