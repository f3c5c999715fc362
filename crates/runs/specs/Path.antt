-- What a run does along a path of places and on into the next place, over states of any kind.
use Rattle.std.specs.Prelude.{◌≡◌, ℕ, suc, ◌==◌, ◌<◌, ◌≤◌, Bool, true, false, ◌&&◌, List, [], ◌∷◌, length, Option, Some, None, if◌then◌else◌}
use Rattle.runs.specs.Run.{Step, Goes, Returns, Faults, MeetsUnset, run_of, guarded}
use Rattle.runs.specs.declared.ends.RunEnd.TheVariants.{Faulted, Running}

-- what a run does along a path and on into the next place
pub data Way (S : Type 0) : Type 0 where
  Through : S → Way S  -- each step of the path was taken, and it stands at the next place
  Back : S → Way S  -- it returned at the path's last place, and no place follows
  Fell : Way S  -- it faulted at one of the path's places
  Off : Way S  -- none of these

-- the end of a path
abbrev pub rested : {S : Type 0} → (S → ℕ) → Option ℕ → S → Way S
rested place None s = Off
rested place (Some n) s = if place s == n then Through s else Off

-- a return with these places of the path left
abbrev pub returned_at : {S : Type 0} → S → List ℕ → Option ℕ → Way S
returned_at s [] None = Back s
returned_at s [] (Some n) = Off
returned_at s (p ∷ ps) next = Off

-- one step of a path, and what follows it
abbrev pub walked : {S : Type 0} → Step S → S → List ℕ → Option ℕ → (S → Way S) → Way S
walked (Goes t) s left next rest = rest t
walked Returns s left next rest = returned_at s left next
walked Faults s left next rest = Fell
walked MeetsUnset s left next rest = Off

-- what a run does along a path of places, and on into the next place, where there is one; it is off where it is not at a place's turn
abbrev pub way : {S : Type 0} → (S → ℕ) → (S → Step S) → List ℕ → Option ℕ → S → Way S
way place step [] next s = rested place next s
way place step (p ∷ ps) next s = if place s == p then walked (step s) s ps next (way place step ps next) else Off

-- the tests of the steps along a path, from the state on by the free step
abbrev pub allowed_after : {S : Type 0} → Step S → (S → Bool) → Bool
allowed_after (Goes t) rest = rest t
allowed_after Returns rest = true
allowed_after Faults rest = true
allowed_after MeetsUnset rest = true

-- each test along a path holds, by the states of the free steps
abbrev pub allowed_along : {S : Type 0} → (S → Bool) → (S → Step S) → List ℕ → S → Bool
allowed_along allows free [] s = true
allowed_along allows free (p ∷ ps) s = allows s && allowed_after (free s) (allowed_along allows free ps)

-- the way goes through or back
abbrev pub Arrived : {S : Type 0} → Way S → Type 0
Arrived (Through t) = Unit {0}
Arrived (Back t) = Unit {0}
Arrived Fell = ⊥
Arrived Off = ⊥

-- the run faults by one of its first n steps
pub record FallsWithin {S : Type 0} (step : S → Step S) (s : S) (n : ℕ) : Type 0 where
  pub at : S
  pub number : ℕ
  pub within : number ≤ n
  pub run : run_of step s number ≡ (at, Faulted number)

-- The run under the tests faults at the first step of a path whose test fails: the steps before it are those of the free
-- run, and their tests hold.
pub record FallsAtFirst {S : Type 0} (allows : S → Bool) (free : S → Step S) (path : List ℕ) (s : S) : Type 0 where
  pub steps : ℕ
  pub on_path : steps < length path
  pub at : S
  pub before : run_of free s steps ≡ (at, Running)
  pub allowed : (k : ℕ) → k < steps → allows (run_of free s k).0 ≡ true
  pub forbidden : allows at ≡ false
  pub run : run_of (guarded allows free) s (suc steps) ≡ (at, Faulted (suc steps))
