use Rattle.std.proofs.Common.{◌≡◌, ◌<◌, length}
use Rattle.machine.specs.Kept.{pure_of}
use Rattle.runs.specs.Run.{run_of}
use Rattle.machine.specs.Step.{step_of}
use Rattle.runs.specs.declared.ends.RunEnd.TheVariants.{Running}
use Rattle.machine.proofs.state.State.run.Given as goal

-- the run has come this far, and stands at a place of the function
abbrev pub invariant-loop-i : goal.invariant-loop-i
invariant-loop-i l = (run_of (step_of l.f.insns l.f.pool) (pure_of l.fn.self) l.i ≡ (pure_of l.self, Running)) × (l.self.place < length l.f.insns)
