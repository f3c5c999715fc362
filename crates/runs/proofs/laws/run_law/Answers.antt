use Rattle.runs.proofs.Runs.{run-from, stays}
use Rattle.runs.proofs.laws.run_law.Goals as goal

pub returns : goal.returns
returns g c = record { over = stays; parts = run-from }
