use Rattle.machine.specs.Kept.{pure_of}
use Rattle.machine.specs.Step.{step_of}
use Rattle.runs.specs.declared.ends.StepEnd.TheVariants as ends
use Rattle.runs.proofs.RunEnds.{run-over, run-step}
use Rattle.machine.proofs.state.State.run.Goals as goal

pub returns-in-Return-clause-runs : goal.returns-in-Return-clause-runs
returns-in-Return-clause-runs c =
    run-over (step_of c.args.f.now.insns c.args.f.now.pool) (pure_of c.args.self.now) (pure_of c.loop-i.self) (pure_of c.step.new.self) ends.Return c.loop-i.i
    c.args.n tt c.loop-i.invariant.0 (rw c.in-Return.is at c.step.ensures.steps) c.loop-i-test.true

pub returns-in-Fault-clause-runs : goal.returns-in-Fault-clause-runs
returns-in-Fault-clause-runs c =
    run-over (step_of c.args.f.now.insns c.args.f.now.pool) (pure_of c.args.self.now) (pure_of c.loop-i.self) (pure_of c.step.new.self) ends.Fault c.loop-i.i
    c.args.n tt c.loop-i.invariant.0 (rw c.in-Fault.is at c.step.ensures.steps) c.loop-i-test.true

pub returns-in-Unset-clause-runs : goal.returns-in-Unset-clause-runs
returns-in-Unset-clause-runs c =
    run-over (step_of c.args.f.now.insns c.args.f.now.pool) (pure_of c.args.self.now) (pure_of c.loop-i.self) (pure_of c.step.new.self) ends.Unset c.loop-i.i
    c.args.n tt c.loop-i.invariant.0 (rw c.in-Unset.is at c.step.ensures.steps) c.loop-i-test.true

pub loop-i-preserved : goal.loop-i-preserved
loop-i-preserved c = (
  run-step (step_of c.args.f.now.insns c.args.f.now.pool) (pure_of c.args.self.now) (pure_of c.loop-i.self) (pure_of c.step.new.self) ends.Next c.loop-i.i
      c.loop-i.invariant.0 (rw c.in-Next.is at c.step.ensures.steps),
  c.step.ensures.inside,
)
