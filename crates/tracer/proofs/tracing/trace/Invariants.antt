use Rattle.std.proofs.Common.{◌≡◌, ◌<◌, length}
use Rattle.flow_graph.specs.Flows.{flows_of}
use Rattle.machine.specs.Kept.{pure_of}
use Rattle.machine.specs.Step.{step_of}
use Rattle.runs.specs.declared.ends.RunEnd.TheVariants.{Running}
use Rattle.runs.specs.Run.{run_of}
use Rattle.tracer.specs.Traces.{ArePlaces, AreVisits, state_after}
use Rattle.tracer.proofs.tracing.trace.Given as goal

-- the run goes on, and its steps so far are recorded
abbrev pub invariant-loop-step : goal.invariant-loop-step
invariant-loop-step l =
    (run_of (step_of l.f.insns l.f.pool) (pure_of l.start) l.step ≡ (pure_of l.state, Running))
    × (l.state.place < length l.f.insns)
    × ArePlaces (state_after l.f (pure_of l.start)) l.step l.record.places.items
    × AreVisits (flows_of l.f.insns) (state_after l.f (pure_of l.start)) l.step l.record.visits.items
