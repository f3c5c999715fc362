-- The trace of a run: the places of its steps, its visits of heads, and its end.
use Rattle.std.specs.Prelude.{◌≡◌, ℕ, ◌<◌, All, List, length, map, Option, Some, None, slice_get}
use Rattle.flow_graph.specs.declared.control.Flow.{Flow}
use Rattle.flow_graph.specs.Flows.{IsHead, ListsInOrder, flows_of}
use Rattle.insn_table.specs.declared.insn.Function.{Function}
use Rattle.machine.specs.Machine.{Machine}
use Rattle.machine.specs.Step.{step_of}
use Rattle.runs.specs.Run.{end_of, run_of}
use Rattle.runs.specs.declared.ends.RunEnd.{RunEnd}
use Rattle.runs.specs.declared.ends.RunEnd.TheVariants.{Returned, Faulted, Unset, Running}
use Rattle.tracer.specs.declared.recording.Visit.{Visit}
use Rattle.tracer.specs.declared.traces.Trace.{Trace}
use Rattle.tracer.specs.declared.traces.TraceRefusal.{TraceRefusal}
use Rattle.tracer.specs.declared.traces.TraceRefusal.TheVariants as refusals
use Rattle.tracer.specs.Recording.{HasRegisters, Shows}

-- the state that a run of a function has come to behind k steps, and so before the next one
abbrev pub state_after : Function → Machine → ℕ → Machine
state_after f s k = (run_of (step_of f.insns f.pool) s k).0

-- how a run of a function ends within n steps
abbrev pub end_within : Function → ℕ → Machine → RunEnd
end_within f n s = end_of (step_of f.insns f.pool) s n

-- the number of the step that ended a run
abbrev pub steps_of : RunEnd → ℕ
steps_of (Returned n) = n
steps_of (Faulted n) = n
steps_of (Unset n) = n
steps_of Running = 0

-- why a run has no trace that ends so at a place: it has not ended, or it met an unset flag there
abbrev pub refusal_of : RunEnd → ℕ → Option TraceRefusal
refusal_of Running place = Some refusals.TooLong
refusal_of (Unset n) place = Some (refusals.Unset place)
refusal_of (Returned n) place = None
refusal_of (Faulted n) place = None

-- the places where the first n of these states stand, in order
pub record ArePlaces (states : ℕ → Machine) (n : ℕ) (places : List ℕ) : Type 0 where
  pub count : length places ≡ n
  pub each : (k : ℕ) → k < n → slice_get places k ≡ Some (states k).place

-- The visits of the first n steps, which begin in these states: one of each step at a head, in order, with what the
-- registers and vectors held before it.
pub record AreVisits (flows : List Flow) (states : ℕ → Machine) (n : ℕ) (visits : List Visit) : Type 0 where
  pub steps : ListsInOrder (λ k. (k < n) × IsHead flows (states k).place) (map (λ visit. visit.step) visits)
  pub each : All (λ visit. Shows (states visit.step) visit.step visit) visits

-- the trace of a run of a function from a state to this end
pub record IsTrace (f : Function) (start : Machine) (end : RunEnd) (t : Trace) : Type 0 where
  pub entry : HasRegisters start.entry t.entry
  pub places : ArePlaces (state_after f start) (steps_of end) t.places.items
  pub visits : AreVisits (flows_of f.insns) (state_after f start) (steps_of end) t.visits.items
  pub ended : t.end ≡ end
