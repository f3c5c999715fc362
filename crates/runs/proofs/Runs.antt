-- Runs over states of any kind: a run that is over stays, and two runs of one start have one end.
use Rattle.std.proofs.Common.{◌≡◌, ℕ, zero, suc, ◌+◌, ◌-◌, ◌≤◌, refl, sym, ◌∙◌, ap, subst, add-zero, add-suc, add_comm, arith}
use Rattle.runs.specs.Run.{Step, Goes, Returns, Faults, MeetsUnset, IsOver, Run, end_of, ended_by, later, run_of, stepped}
use Rattle.runs.specs.declared.ends.RunEnd.{RunEnd}
use Rattle.runs.specs.declared.ends.RunEnd.TheVariants.{Returned, Faulted, Unset, Running}

over_stays : {S : Type 0} (step : S → Step S) (t : S) (n : ℕ) (e : RunEnd) → IsOver e → stepped step n (t, e) ≡ (t, e)
over_stays step t n (Returned i) over = refl
over_stays step t n (Faulted i) over = refl
over_stays step t n (Unset i) over = refl
over_stays step t n Running over = absurd over

-- a run that is over is the same after more steps
pub stays : {S : Type 0} (step : S → Step S) (s t : S) (e : RunEnd) (n k : ℕ) → IsOver e → run_of step s n ≡ (t, e) → run_of step s (n + k) ≡ (t, e)
stays step s t e n zero over h = rw add-zero h
stays step s t e n (suc k) over h =
    rw add-suc (ap (stepped step (suc (n + k))) (stays step s t e n k over h) ∙ over_stays step t (suc (n + k)) e over)

-- the same by an order
pub stays_over : {S : Type 0} (step : S → Step S) (s t : S) (e : RunEnd) (n m : ℕ) → IsOver e → n ≤ m → run_of step s n ≡ (t, e) → run_of step s m ≡ (t, e)
stays_over step s t e n m over le h =
    let more : n + (m - n) ≡ m = omega arith in
    subst (λ (k : ℕ). run_of step s k ≡ (t, e)) more (stays step s t e n (m - n) over h)

-- a run that has returned stays as it is
pub returned_stays : {S : Type 0} (step : S → Step S) (s t : S) (i n m : ℕ) → n ≤ m → run_of step s n ≡ (t, Returned i) → run_of step s m ≡ (t, Returned i)
returned_stays step s t i n m le h = stays_over step s t (Returned i) n m tt le h

-- a run that has faulted stays as it is
pub faulted_stays : {S : Type 0} (step : S → Step S) (s t : S) (i n m : ℕ) → n ≤ m → run_of step s n ≡ (t, Faulted i) → run_of step s m ≡ (t, Faulted i)
faulted_stays step s t i n m le h = stays_over step s t (Faulted i) n m tt le h

-- a run that has met an unset flag stays as it is
pub unset_stays : {S : Type 0} (step : S → Step S) (s t : S) (i n m : ℕ) → n ≤ m → run_of step s n ≡ (t, Unset i) → run_of step s m ≡ (t, Unset i)
unset_stays step s t i n m le h = stays_over step s t (Unset i) n m tt le h

-- two runs of one start that are over have ended in the same way
pub same_end_of_both : {S : Type 0} (step : S → Step S) (s t u : S) (d e : RunEnd) (n m : ℕ) → IsOver d → IsOver e
    → run_of step s n ≡ (t, d) → run_of step s m ≡ (u, e) → (t ≡ u) × (d ≡ e)
same_end_of_both step s t u d e n m over_d over_e h k =
    let here = stays step s t d n m over_d h in
    let there = subst (λ (x : ℕ). run_of step s x ≡ (u, e)) (add_comm m n) (stays step s u e m n over_e k) in
    let both = sym here ∙ there in
    (ap (λ (r : Run _). r.0) both, ap (λ (r : Run _). r.1) both)

-- two runs of one start that have both returned have returned in the same state at the same step
pub both_returned : {S : Type 0} (step : S → Step S) (s t u : S) (i j n m : ℕ)
    → run_of step s n ≡ (t, Returned i) → run_of step s m ≡ (u, Returned j) → (t ≡ u) × (i ≡ j)
both_returned step s t u i j n m h k =
    let both = same_end_of_both step s t u (Returned i) (Returned j) n m tt tt h k in
    let same : Returned i ≡ Returned j = both.1 in
    (both.0, cc)

-- a run by its end
pub run_by_end : {S : Type 0} (step : S → Step S) (s : S) (n : ℕ) (e : RunEnd) → end_of step s n ≡ e → run_of step s n ≡ ((run_of step s n).0, e)
run_by_end step s n e h = λ i. ((run_of step s n).0, h i)

-- one more step of a run that goes on
pub one_more : {S : Type 0} (step : S → Step S) (s t : S) (n : ℕ) (p : Step S) → run_of step s n ≡ (t, Running) → step t ≡ p
    → run_of step s (suc n) ≡ ended_by t (suc n) p
one_more step s t n p h k = ap (stepped step (suc n)) h ∙ ap (ended_by t (suc n)) k

ended-later : {S : Type 0} (s : S) (l n : ℕ) (p : Step S) → ended_by s (suc (l + n)) p ≡ later l (ended_by s (suc n) p)
ended-later s l n (Goes next) = refl
ended-later s l n Returns = λ j. (s, Returned (sym (add-suc l n) j))
ended-later s l n Faults = λ j. (s, Faulted (sym (add-suc l n) j))
ended-later s l n MeetsUnset = λ j. (s, Unset (sym (add-suc l n) j))

stepped-later : {S : Type 0} (step : S → Step S) (s : S) (l n : ℕ) (e : RunEnd) → stepped step (suc (l + n)) (later l (s, e)) ≡ later l (stepped step (suc n) (s, e))
stepped-later step s l n (Returned i) = refl
stepped-later step s l n (Faulted i) = refl
stepped-later step s l n (Unset i) = refl
stepped-later step s l n Running = ended-later s l n (step s)

-- A run of l + m steps is a run of l steps, and from where it has come to one of m.
pub run-from : {S : Type 0} (step : S → Step S) (s t : S) (l m : ℕ) → run_of step s l ≡ (t, Running) → run_of step s (l + m) ≡ later l (run_of step t m)
run-from step s t l zero h = rw add-zero h
run-from step s t l (suc m) h =
    rw add-suc
    (ap (stepped step (suc (l + m))) (run-from step s t l m h) ∙ stepped-later step (run_of step t m).0 l m (run_of step t m).1)

-- a run of one step and then of more
pub run-goes : {S : Type 0} (step : S → Step S) (s t : S) (m : ℕ) → step s ≡ Goes t → run_of step s (suc m) ≡ later 1 (run_of step t m)
run-goes step s t m h =
    let one : run_of step s (suc zero) ≡ (t, Running) = ap (ended_by s 1) h in
    let count : 1 + m ≡ suc m = omega arith in
    subst (λ (n : ℕ). run_of step s n ≡ later 1 (run_of step t m)) count (run-from step s t 1 m one)

kept-by : {S : Type 0} (step : S → Step S) (R : S → S → Type 0) → ((s t : S) → step s ≡ Goes t → R s t) → ((s t u : S) → R s t → R t u → R s u)
    → (s t : S) (n : ℕ) (p : Step S) → step t ≡ p → R s t → R s (ended_by t n p).0
kept-by step R each joined s t n (Goes next) is h = joined s t next h (each t next is)
kept-by step R each joined s t n Returns is h = h
kept-by step R each joined s t n Faults is h = h
kept-by step R each joined s t n MeetsUnset is h = h

one-kept : {S : Type 0} (step : S → Step S) (R : S → S → Type 0) → ((s t : S) → step s ≡ Goes t → R s t) → ((s t u : S) → R s t → R t u → R s u)
    → (s t : S) (n : ℕ) (e : RunEnd) → R s t → R s (stepped step n (t, e)).0
one-kept step R each joined s t n (Returned i) h = h
one-kept step R each joined s t n (Faulted i) h = h
one-kept step R each joined s t n (Unset i) h = h
one-kept step R each joined s t n Running h = kept-by step R each joined s t n (step t) refl h

-- What relates each state to itself, and a state to the next, and is carried from step to step, relates a start to each end.
pub run_keeps : {S : Type 0} (step : S → Step S) (R : S → S → Type 0) → ((s : S) → R s s) → ((s t u : S) → R s t → R t u → R s u)
    → ((s t : S) → step s ≡ Goes t → R s t) → (s : S) (n : ℕ) → R s (run_of step s n).0
run_keeps step R same joined each s zero = same s
run_keeps step R same joined each s (suc n) =
    let here = run_keeps step R same joined each s n in
    let t = (run_of step s n).0 in
    one-kept step R each joined s t (suc n) (run_of step s n).1 here
