-- Paths over states of any kind: what a way says of the run, and what the tests make of a way of the free step.
use Rattle.std.proofs.Common.{◌≡◌, ℕ, zero, suc, ◌+◌, ◌==◌, ◌<◌, Bool, true, false, ◌&&◌, List, [], ◌∷◌, length, Option, None, Some, if◌then◌else◌, refl, sym, ◌∙◌, ap, eqb-true, arith}
use Rattle.runs.specs.Path.{Arrived, FallsAtFirst, FallsWithin, Way, Through, Back, Fell, Off, allowed_after, allowed_along, rested, walked, way}
use Rattle.runs.specs.Run.{Run, Step, Goes, Returns, Faults, MeetsUnset, ended_by, later, run_of, guarded, tested}
use Rattle.runs.specs.declared.ends.RunEnd.{RunEnd}
use Rattle.runs.specs.declared.ends.RunEnd.TheVariants.{Returned, Faulted, Unset, Running}
use Rattle.runs.proofs.Runs.{run-goes}

-- A way that begins at its first place, and one that begins elsewhere, which is off.
at_first : {S : Type 0} (b : Bool) (w v : Way S) → (if b then w else Off) ≡ v → (v ≡ Off → ⊥) → (b ≡ true) × (w ≡ v)
at_first true w v h on = (refl, h)
at_first false w v h on = absurd (on (sym h))

-- where the free run arrives, the run is it where every test holds, and falls otherwise
abbrev by_test : {S : Type 0} → Bool → Way S → Way S
by_test holds w = if holds then w else Fell

-- one step of a path under the test: the rest of it is as by the free step, or falls
guarded-walked : {S : Type 0} (holds : Bool) (p : Step S) (s : S) (left : List ℕ) (next : Option ℕ) (rest free_rest : S → Way S) (after : S → Bool)
    → ((t : S) → Arrived (free_rest t) → rest t ≡ by_test (after t) (free_rest t))
    → Arrived (walked p s left next free_rest)
    → walked (tested holds p) s left next rest ≡ by_test (holds && allowed_after p after) (walked p s left next free_rest)
guarded-walked true (Goes t) s left next rest free_rest after more h = more t h
guarded-walked true Returns s left next rest free_rest after more h = refl
guarded-walked true Faults s left next rest free_rest after more h = absurd h
guarded-walked true MeetsUnset s left next rest free_rest after more h = absurd h
guarded-walked false (Goes t) s left next rest free_rest after more h = refl
guarded-walked false Returns s left next rest free_rest after more h = refl
guarded-walked false Faults s left next rest free_rest after more h = absurd h
guarded-walked false MeetsUnset s left next rest free_rest after more h = absurd h

guarded-first : {S : Type 0} (b holds : Bool) (w v : Way S) → (Arrived v → w ≡ by_test holds v) → Arrived (if b then v else Off)
    → (if b then w else Off) ≡ by_test holds (if b then v else Off)
guarded-first true holds w v more h = more h
guarded-first false holds w v more h = absurd h

-- Where the free run arrives, the run is it where every test holds, and falls otherwise.
way-guarded : {S : Type 0} (place : S → ℕ) (allows : S → Bool) (free : S → Step S) (path : List ℕ) (next : Option ℕ) (s : S)
    → Arrived (way place free path next s)
    → way place (guarded allows free) path next s ≡ by_test (allowed_along allows free path s) (way place free path next s)
way-guarded place allows free [] next s h = refl
way-guarded place allows free (p ∷ ps) next s h =
    guarded-first (place s == p) (allowed_along allows free (p ∷ ps) s)
    (walked (guarded allows free s) s ps next (way place (guarded allows free) ps next))
    (walked (free s) s ps next (way place free ps next))
    (guarded-walked (allows s) (free s) s ps next (way place (guarded allows free) ps next) (way place free ps next) (allowed_along allows free ps)
    (λ t. way-guarded place allows free ps next t))
    h

-- where it arrives and each test holds, the run is the free run
pub way-allowed : {S : Type 0} (place : S → ℕ) (allows : S → Bool) (free : S → Step S) (path : List ℕ) (next : Option ℕ) (s : S)
    → Arrived (way place free path next s) → allowed_along allows free path s ≡ true
    → way place (guarded allows free) path next s ≡ way place free path next s
way-allowed place allows free path next s h holds =
    way-guarded place allows free path next s h ∙ ap (λ (b : Bool). by_test b (way place free path next s)) holds

-- where it arrives and a test fails, the run falls,
pub way-falls : {S : Type 0} (place : S → ℕ) (allows : S → Bool) (free : S → Step S) (path : List ℕ) (next : Option ℕ) (s : S)
    → Arrived (way place free path next s) → allowed_along allows free path s ≡ false
    → way place (guarded allows free) path next s ≡ Fell
way-falls place allows free path next s h fails =
    way-guarded place allows free path next s h ∙ ap (λ (b : Bool). by_test b (way place free path next s)) fails

later-state : {S : Type 0} (l : ℕ) (s : S) (e : RunEnd) → (later l (s, e)).0 ≡ s
later-state l s (Returned i) = refl
later-state l s (Faulted i) = refl
later-state l s (Unset i) = refl
later-state l s Running = refl

allowed-after : {S : Type 0} (allows : S → Bool) (free : S → Step S) (s t : S) (n : ℕ) → allows s ≡ true → free s ≡ Goes t
    → ((k : ℕ) → k < n → allows (run_of free t k).0 ≡ true) → (k : ℕ) → k < suc n → allows (run_of free s k).0 ≡ true
allowed-after allows free s t n holds is more zero h = holds
allowed-after allows free s t n holds is more (suc k) h =
    ap (λ (r : Run _). allows r.0) (run-goes free s t k is)
    ∙ ap allows (later-state 1 (run_of free t k).0 (run_of free t k).1)
    ∙ more k (omega (arith, h))

-- after one allowed step, the first test that fails is the first from there on
first-after : {S : Type 0} (allows : S → Bool) (free : S → Step S) (p : ℕ) (ps : List ℕ) (s t : S)
    → allows s ≡ true → free s ≡ Goes t → FallsAtFirst allows free ps t → FallsAtFirst allows free (p ∷ ps) s
first-after allows free p ps s t holds is there =
    let taken : guarded allows free s ≡ Goes t = ap (λ (b : Bool). tested b (free s)) holds ∙ is in
    let count : 1 + suc there.steps ≡ suc (suc there.steps) = omega arith in
    record {
      steps = suc there.steps;
      on_path = omega (arith, there.on_path);
      at = there.at;
      before = run-goes free s t there.steps is ∙ ap (later 1) there.before;
      allowed = allowed-after allows free s t there.steps holds is there.allowed;
      forbidden = there.forbidden;
      run = run-goes (guarded allows free) s t (suc there.steps) taken ∙ ap (later 1) there.run ∙ (λ j. (there.at, Faulted (count j)));
    }

-- the first step is the one whose test fails
first-here : {S : Type 0} (allows : S → Bool) (free : S → Step S) (p : ℕ) (ps : List ℕ) (s : S)
    → allows s ≡ false → tested false (free s) ≡ Faults → FallsAtFirst allows free (p ∷ ps) s
first-here allows free p ps s fails faults = record {
  steps = 0;
  on_path = omega arith;
  at = s;
  before = refl;
  allowed = λ k h. absurd (omega (arith, h));
  forbidden = fails;
  run = ap (ended_by s 1) (ap (λ (b : Bool). tested b (free s)) fails ∙ faults);
}

first-walked : {S : Type 0} (allows : S → Bool) (free : S → Step S) (holds : Bool) (q : Step S) (p : ℕ) (ps : List ℕ) (next : Option ℕ) (s : S)
    (rest : S → Way S) → ((t : S) → Arrived (rest t) → allowed_along allows free ps t ≡ false → FallsAtFirst allows free ps t)
    → allows s ≡ holds → free s ≡ q → Arrived (walked q s ps next rest) → (holds && allowed_after q (allowed_along allows free ps)) ≡ false
    → FallsAtFirst allows free (p ∷ ps) s
first-walked allows free true (Goes t) p ps next s rest more holds is h fails = first-after allows free p ps s t holds is (more t h fails)
first-walked allows free true Returns p ps next s rest more holds is h fails = absurd (cc)
first-walked allows free true Faults p ps next s rest more holds is h fails = absurd h
first-walked allows free true MeetsUnset p ps next s rest more holds is h fails = absurd h
first-walked allows free false (Goes t) p ps next s rest more holds is h fails = first-here allows free p ps s holds (ap (tested false) is)
first-walked allows free false Returns p ps next s rest more holds is h fails = first-here allows free p ps s holds (ap (tested false) is)
first-walked allows free false Faults p ps next s rest more holds is h fails = absurd h
first-walked allows free false MeetsUnset p ps next s rest more holds is h fails = absurd h

arrived-first : {S : Type 0} (b : Bool) (w : Way S) → Arrived (if b then w else Off) → Arrived w
arrived-first true w h = h
arrived-first false w h = absurd h

-- and it faults at the first test that fails.
pub way-falls_at_first : {S : Type 0} (place : S → ℕ) (allows : S → Bool) (free : S → Step S) (path : List ℕ) (next : Option ℕ) (s : S)
    → Arrived (way place free path next s) → allowed_along allows free path s ≡ false → FallsAtFirst allows free path s
way-falls_at_first place allows free [] next s h fails = absurd (cc)
way-falls_at_first place allows free (p ∷ ps) next s h fails =
    first-walked allows free (allows s) (free s) p ps next s (way place free ps next) (λ t. way-falls_at_first place allows free ps next t) refl refl
    (arrived-first (place s == p) (walked (free s) s ps next (way place free ps next)) h)
    fails

-- How a way begins that is not off: its first step goes on, returns at the end of the path where no place follows, or faults.
data Begins {S : Type 0} (step : S → Step S) (ps : List ℕ) (next : Option ℕ) (rest : S → Way S) (s : S) (v : Way S) : Type 0 where
  Onward : (u : S) → step s ≡ Goes u → rest u ≡ v → Begins step ps next rest s v
  Home : step s ≡ Returns → ps ≡ [] → v ≡ Back s → Begins step ps next rest s v
  Down : step s ≡ Faults → v ≡ Fell → Begins step ps next rest s v

walked-begins : {S : Type 0} (step : S → Step S) (p : Step S) (s : S) (ps : List ℕ) (next : Option ℕ) (rest : S → Way S) (v : Way S)
    → step s ≡ p → walked p s ps next rest ≡ v → (v ≡ Off → ⊥) → Begins step ps next rest s v
walked-begins step (Goes u) s ps next rest v is h on = Onward u is h
walked-begins step Returns s [] None rest v is h on = Home is refl (sym h)
walked-begins step Returns s [] (Some n) rest v is h on = absurd (on (sym h))
walked-begins step Returns s (q ∷ ps) next rest v is h on = absurd (on (sym h))
walked-begins step Faults s ps next rest v is h on = Down is (sym h)
walked-begins step MeetsUnset s ps next rest v is h on = absurd (on (sym h))

way-begins : {S : Type 0} (place : S → ℕ) (step : S → Step S) (p : ℕ) (ps : List ℕ) (next : Option ℕ) (s : S) (v : Way S)
    → way place step (p ∷ ps) next s ≡ v → (v ≡ Off → ⊥) → Begins step ps next (way place step ps next) s v
way-begins place step p ps next s v h on =
    let first = at_first (place s == p) (walked (step s) s ps next (way place step ps next)) v h on in
    walked-begins step (step s) s ps next (way place step ps next) v refl first.1 on

-- At the end of a path, a way that is not off is through, at the next place.
rested-through : {S : Type 0} (place : S → ℕ) (next : Option ℕ) (s : S) (v : Way S) → rested place next s ≡ v → (v ≡ Off → ⊥)
    → (v ≡ Through s) × (Some (place s) ≡ next)
rested-through place None s v h on = absurd (on (sym h))
rested-through place (Some n) s v h on =
    let first = at_first (place s == n) (Through s) v h on in (sym first.1, ap Some (eqb-true (place s) n first.0))

-- a fault that comes one step later
falls-later : {S : Type 0} (step : S → Step S) (s t : S) (n : ℕ) → step s ≡ Goes t → FallsWithin step t n → FallsWithin step s (suc n)
falls-later step s t n is there =
    let count : 1 + there.number ≡ suc there.number = omega arith in
    record {
      at = there.at;
      number = suc there.number;
      within = omega (arith, there.within);
      run = run-goes step s t there.number is ∙ ap (later 1) there.run ∙ (λ j. (there.at, Faulted (count j)));
    }

-- A way that fell is a run that faulted by one of as many steps as the path has places.
pub way-fell : {S : Type 0} (place : S → ℕ) (step : S → Step S) (path : List ℕ) (next : Option ℕ) (s : S)
    → way place step path next s ≡ Fell → FallsWithin step s (length path)
way-fell place step [] next s h = let through = (rested-through place next s Fell h (λ e. cc)).0 in absurd (cc)
way-fell place step (p ∷ ps) next s h =
    elim (way-begins place step p ps next s Fell h (λ e. cc)) [
      | Onward u is more ↦ falls-later step s u (length ps) is (way-fell place step ps next u more)
      | Home is end back ↦ absurd (cc)
      | Down is fell ↦ record { at = s; number = 1; within = omega arith; run = ap (ended_by s 1) is }
    ]

-- A way that is through is a run that still goes on after as many steps as the path has places,
pub way-through : {S : Type 0} (place : S → ℕ) (step : S → Step S) (path : List ℕ) (next : Option ℕ) (s t : S)
    → way place step path next s ≡ Through t → run_of step s (length path) ≡ (t, Running)
way-through place step [] next s t h =
    let through = (rested-through place next s (Through t) h (λ e. cc)).0 in let same : s ≡ t = cc in (λ j. (same j, Running))
way-through place step (p ∷ ps) next s t h =
    elim (way-begins place step p ps next s (Through t) h (λ e. cc)) [
      | Onward u is more ↦ run-goes step s u (length ps) is ∙ ap (later 1) (way-through place step ps next u t more)
      | Home is end back ↦ absurd (cc)
      | Down is fell ↦ absurd (cc)
    ]

-- and it stands at the next place.
pub way-stands : {S : Type 0} (place : S → ℕ) (step : S → Step S) (path : List ℕ) (next : Option ℕ) (s t : S)
    → way place step path next s ≡ Through t → Some (place t) ≡ next
way-stands place step [] next s t h =
    let at_end = rested-through place next s (Through t) h (λ e. cc) in let same : t ≡ s = cc in ap (λ (u : _). Some (place u)) same ∙ at_end.1
way-stands place step (p ∷ ps) next s t h =
    elim (way-begins place step p ps next s (Through t) h (λ e. cc)) [
      | Onward u is more ↦ way-stands place step ps next u t more
      | Home is end back ↦ absurd (cc)
      | Down is fell ↦ absurd (cc)
    ]

-- A way that is back is a run that returned by its last step.
pub way-back : {S : Type 0} (place : S → ℕ) (step : S → Step S) (path : List ℕ) (next : Option ℕ) (s t : S)
    → way place step path next s ≡ Back t → run_of step s (length path) ≡ (t, Returned (length path))
way-back place step [] next s t h = let through = (rested-through place next s (Back t) h (λ e. cc)).0 in absurd (cc)
way-back place step (p ∷ ps) next s t h =
    elim (way-begins place step p ps next s (Back t) h (λ e. cc)) [
      | Onward u is more ↦
          let count : 1 + length ps ≡ suc (length ps) = omega arith in
          run-goes step s u (length ps) is ∙ ap (later 1) (way-back place step ps next u t more) ∙ (λ j. (t, Returned (count j)))
      | Home is end back ↦
          let same : s ≡ t = cc in rw end (ap (ended_by s 1) is ∙ (λ j. (same j, Returned 1)))
      | Down is fell ↦ absurd (cc)
    ]
