use Rattle.runs.proofs.Paths.{way-allowed, way-falls, way-falls_at_first}
use Rattle.runs.proofs.laws.path_law.Goals as goal

pub returns : goal.returns
returns g c = record {
  holds = way-allowed;
  falls = λ place allows free path next s arrived fails. (
    way-falls place allows free path next s arrived fails,
    way-falls_at_first place allows free path next s arrived fails,
  );
}
