use Rattle.machine.specs.Step.{step_of}
use Rattle.runs.proofs.Paths.{way-back, way-fell, way-stands, way-through}
use Rattle.machine.proofs.laws.way_law.Goals as goal

pub returns : goal.returns
returns c = record {
  through = λ insns pool path next s t h.
      (way-through (λ u. u.place) (step_of insns pool) path next s t h, way-stands (λ u. u.place) (step_of insns pool) path next s t h);
  back = λ insns pool. way-back (λ u. u.place) (step_of insns pool);
  fell = λ insns pool. way-fell (λ u. u.place) (step_of insns pool);
}
