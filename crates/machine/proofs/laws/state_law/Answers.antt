use Rattle.machine.proofs.Closed.{closed-runnable}
use Rattle.machine.proofs.StateRanges.{free_ranged, free_run_ranged, run_ranged, step_ranged}
use Rattle.machine.proofs.laws.state_law.Goals as goal

pub returns : goal.returns
returns c = record {
  step = λ insns pool s t closed. step_ranged insns pool s t (closed-runnable insns closed);
  run = λ insns pool s n closed. run_ranged insns pool s n (closed-runnable insns closed);
  free_step = λ insns pool s t closed. free_ranged insns pool s t (closed-runnable insns closed);
  free_run = λ insns pool s n closed. free_run_ranged insns pool s n (closed-runnable insns closed);
}
