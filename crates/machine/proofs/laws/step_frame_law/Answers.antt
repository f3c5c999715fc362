use Rattle.machine.proofs.Frames.{free_frame, free_memory, free_run_frame, run_frame, run_memory, step_frame, step_memory}
use Rattle.machine.proofs.VectorFrames.{free_run_vectors, free_vectors, run_vectors, step_vectors}
use Rattle.machine.proofs.laws.step_frame_law.Goals as goal

pub returns : goal.returns
returns c = record {
  step = step_frame;
  step_memory = step_memory;
  run = run_frame;
  run_memory = λ insns pool s n closed. run_memory insns pool closed s n;
  free_step = free_frame;
  free_step_memory = free_memory;
  free_run = free_run_frame;
  step_vectors = step_vectors;
  run_vectors = run_vectors;
  free_step_vectors = free_vectors;
  free_run_vectors = free_run_vectors;
}
