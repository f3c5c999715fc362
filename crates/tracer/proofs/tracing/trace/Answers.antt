use Rattle.std.proofs.Common.{ℕ, ◌+◌, Some, inr, refl, sym, ◌∙◌, ap}
use Rattle.machine.specs.Kept.{pure_of}
use Rattle.machine.specs.Step.{step_of}
use Rattle.runs.specs.declared.ends.RunEnd.TheVariants.{Returned, Faulted}
use Rattle.runs.specs.declared.ends.StepEnd.TheVariants as ends
use Rattle.runs.proofs.RunEnds.{run-over, run-step}
use Rattle.tracer.specs.declared.traces.TraceRefusal.TheVariants as refusals
use Rattle.tracer.proofs.Traced.{finished, recorded, refused-at}
use Rattle.tracer.proofs.tracing.trace.Goals as goal
use Rattle.tracer.proofs.tracing.trace.Goals.{in-Return, in-Fault}

pub loop-step-preserved : goal.loop-step-preserved
loop-step-preserved c =
    let f = c.args.f.now in
    let now = recorded f (pure_of c.args.start.now) c.args.g.now (pure_of c.loop-step.state) c.loop-step.step c.loop-step.record c.add.new.self
    c.requires.graph c.loop-step.invariant.0 c.in_ok-add.ensures c.loop-step.invariant.2 c.loop-step.invariant.3 in (
      run-step (step_of f.insns f.pool) (pure_of c.args.start.now) (pure_of c.loop-step.state) (pure_of c.step.new.self) ends.Next c.loop-step.step
          c.loop-step.invariant.0 c.in-Next.ensures.steps,
      c.step.ensures.inside,
      now.0,
      now.1,
    )

pub returns-in-Unset-clause-refused : goal.returns-in-Unset-clause-refused
returns-in-Unset-clause-refused c =
    let f = c.args.f.now in
    let run = run-over (step_of f.insns f.pool) (pure_of c.args.start.now) (pure_of c.loop-step.state) (pure_of c.step.new.self) ends.Unset
    c.loop-step.step c.args.n tt c.loop-step.invariant.0 c.in-Unset.ensures.steps c.loop-step-test.true in
    inr (refused-at f (pure_of c.args.start.now) c.args.n (c.loop-step.step + 1) (pure_of c.step.new.self) run
    ∙ ap (λ (place : ℕ). Some (refusals.Unset place)) (sym c.place.ensures))

pub returns-in-loop-step-clause-traced : goal.returns-in-loop-step-clause-traced
returns-in-loop-step-clause-traced c =
    let f = c.args.f.now in
    let start = pure_of c.args.start.now in
    let s = pure_of c.loop-step.state in
    let t = pure_of c.step.new.self in
    let k = c.loop-step.step in
    let now = recorded f start c.args.g.now s k c.loop-step.record c.add.new.self c.requires.graph c.loop-step.invariant.0 c.in_ok-add.ensures
    c.loop-step.invariant.2 c.loop-step.invariant.3 in
    elim c.match-step.branch [
      | in-Return w ↦
          finished f start c.args.n k t (Returned (k + 1)) _
          (run-over (step_of f.insns f.pool) start s t ends.Return k c.args.n tt c.loop-step.invariant.0 w.in-Return.ensures.steps c.loop-step-test.true)
          (λ place. refl) refl c.entry_registers-entry.ensures now.0 now.1 w.end-is
      | in-Fault w ↦
          finished f start c.args.n k t (Faulted (k + 1)) _
          (run-over (step_of f.insns f.pool) start s t ends.Fault k c.args.n tt c.loop-step.invariant.0 w.in-Fault.ensures.steps c.loop-step-test.true)
          (λ place. refl) refl c.entry_registers-entry.ensures now.0 now.1 w.end-is
    ]
