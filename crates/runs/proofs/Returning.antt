-- Functions over states of any kind that return from a start state: all their other ends are this one.
use Rattle.std.proofs.Common.{◌≡◌, ◌≢◌, ℕ, ◌+◌, ◌*◌, ◌≤◌, sym, ap, subst, arith}
use Rattle.runs.specs.Equivalent.{Follows, AreEquivalent}
use Rattle.runs.specs.Run.{Step, Run, run_of, end_of}
use Rattle.runs.specs.declared.ends.RunEnd.TheVariants.{Returned, Faulted, Unset}
use Rattle.runs.proofs.Runs.{both_returned, returned_stays, run_by_end, same_end_of_both}

-- A run that returns has no other return,
pub returned_only : {S : Type 0} (step : S → Step S) (s t : S) (i n : ℕ) → run_of step s n ≡ (t, Returned i)
    → (m j : ℕ) → end_of step s m ≡ Returned j → ((run_of step s m).0 ≡ t) × (j ≡ i)
returned_only step s t i n h m j k = both_returned step s (run_of step s m).0 t j i m n (run_by_end step s m (Returned j) k) h

-- no fault,
pub never_faulted : {S : Type 0} (step : S → Step S) (s t : S) (i n : ℕ) → run_of step s n ≡ (t, Returned i) → (m j : ℕ) → end_of step s m ≢ Faulted j
never_faulted step s t i n h m j k =
    let both = same_end_of_both step s t (run_of step s m).0 (Returned i) (Faulted j) n m tt tt h (run_by_end step s m (Faulted j) k) in
    let same : Returned i ≡ Faulted j = both.1 in
    cc

-- and meets no unset flag.
pub never_unset : {S : Type 0} (step : S → Step S) (s t : S) (i n : ℕ) → run_of step s n ≡ (t, Returned i) → (m j : ℕ) → end_of step s m ≢ Unset j
never_unset step s t i n h m j k =
    let both = same_end_of_both step s t (run_of step s m).0 (Returned i) (Unset j) n m tt tt h (run_by_end step s m (Unset j) k) in
    let same : Returned i ≡ Unset j = both.1 in
    cc

-- Where both return, g within k steps, g follows f.
pub returning_follows : {S : Type 0} (f g : S → Step S) (s t u : S) (i j n m k : ℕ) → run_of f s n ≡ (t, Returned i) → run_of g s m ≡ (u, Returned j) → m ≤ k
    → Follows k f g s
returning_follows f g s t u i j n m k h_f h_g le = record {
  returned = λ x y h.
      let within : m ≤ k * (x + 1) = omega arith in
      (j, ap (λ (r : Run _). r.1) (returned_stays g s u j m (k * (x + 1)) within h_g));
  faulted = λ x y h. absurd (never_faulted f s t i n h_f x y h);
  no_unset = λ x y h. never_unset f s t i n h_f x y h;
}

-- Two functions that return from each start state, within k steps and with the same end, are equivalent.
pub returning_equivalent : {S : Type 0} (starts : S → Type 0) (same_end : S → S → Type 0) (f g : S → Step S) (f_end g_end : S → S) (n m k : ℕ)
    → ((s : S) → starts s → run_of f s n ≡ (f_end s, Returned n)) → ((s : S) → starts s → run_of g s m ≡ (g_end s, Returned m)) → n ≤ k → m ≤ k
    → ((s : S) → starts s → same_end (f_end s) (g_end s)) → AreEquivalent starts same_end k f g
returning_equivalent starts same_end f g f_end g_end n m k h_f h_g le_f le_g same = record {
  left = λ s start. returning_follows f g s (f_end s) (g_end s) n m n m k (h_f s start) (h_g s start) le_g;
  right = λ s start. returning_follows g f s (g_end s) (f_end s) m n m n k (h_g s start) (h_f s start) le_f;
  same = λ s start x y i j h_x h_y.
      let at_f = returned_only f s (f_end s) n n (h_f s start) x i h_x in
      let at_g = returned_only g s (g_end s) m m (h_g s start) y j h_y in
      subst (λ (t : _). same_end t (run_of g s y).0) (sym at_f.0) (subst (λ (u : _). same_end (f_end s) u) (sym at_g.0) (same s start));
}
