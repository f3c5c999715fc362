-- Two functions are equivalent within a bound, by the steps of each, over states of any kind.
use Rattle.std.specs.Prelude.{◌≡◌, ◌≢◌, ℕ, ◌+◌, ◌*◌}
use Rattle.runs.specs.Run.{Step, run_of, end_of}
use Rattle.runs.specs.declared.ends.RunEnd.TheVariants.{Returned, Faulted, Unset}

-- From this state, where f returns or faults within n steps, g does the same within k * (n + 1), and f meets no unset
-- flag.
pub record Follows {S : Type 0} (k : ℕ) (f g : S → Step S) (s : S) : Type 0 where
  pub returned : (n i : ℕ) → end_of f s n ≡ Returned i → (j : ℕ) × (end_of g s (k * (n + 1)) ≡ Returned j)
  pub faulted : (n i : ℕ) → end_of f s n ≡ Faulted i → (j : ℕ) × (end_of g s (k * (n + 1)) ≡ Faulted j)
  pub no_unset : (n i : ℕ) → end_of f s n ≢ Unset i

-- From each start state each follows the other, and where both return they have the same end.
pub record AreEquivalent {S : Type 0} (starts : S → Type 0) (same_end : S → S → Type 0) (k : ℕ) (f g : S → Step S)
    : Type 0 where
  pub left : (s : S) → starts s → Follows k f g s
  pub right : (s : S) → starts s → Follows k g f s
  pub same : (s : S) → starts s → (n m i j : ℕ) → end_of f s n ≡ Returned i → end_of g s m ≡ Returned j
      → same_end (run_of f s n).0 (run_of g s m).0
