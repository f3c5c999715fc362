use Rattle.machine.specs.Step.{allows_step, free_step}
use Rattle.runs.proofs.Paths.{way-allowed, way-falls, way-falls_at_first}
use Rattle.machine.proofs.laws.path_law.Goals as goal

pub returns : goal.returns
returns c = record {
  holds = λ insns pool. way-allowed (λ u. u.place) (allows_step insns) (free_step insns pool);
  falls = λ insns pool path next s arrived fails. (
    way-falls (λ u. u.place) (allows_step insns) (free_step insns pool) path next s arrived fails,
    way-falls_at_first (λ u. u.place) (allows_step insns) (free_step insns pool) path next s arrived fails,
  );
}
