-- The sharper bound, over states of any kind.
use Rattle.std.specs.Prelude.{◌≡◌, ℕ, ◌*◌}
use Rattle.runs.specs.Run.{Step, end_of}
use Rattle.runs.specs.declared.ends.RunEnd.TheVariants.{Returned, Faulted}

-- From this state, where f returns or faults within n steps, g does the same within k * n.
pub record KeepsPace {S : Type 0} (k : ℕ) (f g : S → Step S) (s : S) : Type 0 where
  pub returned : (n i : ℕ) → end_of f s n ≡ Returned i → (j : ℕ) × (end_of g s (k * n) ≡ Returned j)
  pub faulted : (n i : ℕ) → end_of f s n ≡ Faulted i → (j : ℕ) × (end_of g s (k * n) ≡ Faulted j)
