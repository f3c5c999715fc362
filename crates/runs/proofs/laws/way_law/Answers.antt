use Rattle.runs.proofs.Paths.{way-back, way-fell, way-stands, way-through}
use Rattle.runs.proofs.laws.way_law.Goals as goal

pub returns : goal.returns
returns g c = record {
  through = λ place step path next s t h. (way-through place step path next s t h, way-stands place step path next s t h);
  back = way-back;
  fell = way-fell;
}
