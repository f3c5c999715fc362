use Rattle.tracer.proofs.Flowing.{run-path}
use Rattle.tracer.proofs.laws.path_of_run_law.Goals as goal

pub returns : goal.returns
returns c = λ insns pool s n places closed at goes are. run-path insns pool s n places closed at goes are
