use Rattle.machine.specs.Step.{step_of}
use Rattle.runs.proofs.Runs.{run-from, stays}
use Rattle.machine.proofs.laws.run_law.Goals as goal

pub returns : goal.returns
returns c = record { over = λ insns pool. stays (step_of insns pool); parts = λ insns pool. run-from (step_of insns pool) }
