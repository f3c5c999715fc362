-- A trace, step by step and at its end.
use Rattle.std.proofs.Common.{◌≡◌, ℕ, ◌+◌, Some, None, sym, ◌∙◌, ap, subst}
use Rattle.flow_graph.specs.declared.control.Flow.{Flow}
use Rattle.flow_graph.specs.Flows.{flows_of}
use Rattle.insn_table.specs.declared.insn.Function.{Function}
use Rattle.machine.specs.Machine.{Machine}
use Rattle.machine.specs.Step.{step_of}
use Rattle.runs.specs.declared.ends.RunEnd.{RunEnd}
use Rattle.runs.specs.declared.ends.RunEnd.TheVariants.{Running, Unset}
use Rattle.runs.specs.Run.{Run, run_of}
use Rattle.std.specs.Prelude.{List}
use Rattle.tracer.specs.declared.recording.Record.{Record}
use Rattle.tracer.specs.declared.traces.Trace.{Trace}
use Rattle.tracer.specs.declared.traces.TraceRefusal.TheVariants as refusals
use Rattle.tracer.specs.Recording.{HasRegisters, Records, Visits}
use Rattle.tracer.specs.Traces.{ArePlaces, AreVisits, IsTrace, end_within, refusal_of, state_after, steps_of}
use Rattle.tracer.proofs.Recorded.{places-more, visits-more}

-- one step more is recorded
pub recorded : (f : Function) (start : Machine) (flows : List Flow) (s : Machine) (k : ℕ) (old new : Record) → flows ≡ flows_of f.insns
    → run_of (step_of f.insns f.pool) start k ≡ (s, Running) → Records flows s k old new
    → ArePlaces (state_after f start) k old.places.items → AreVisits (flows_of f.insns) (state_after f start) k old.visits.items
    → ArePlaces (state_after f start) (k + 1) new.places.items × AreVisits (flows_of f.insns) (state_after f start) (k + 1) new.visits.items
recorded f start flows s k old new same run adds places visits =
    let here : s ≡ state_after f start k = sym (ap (λ (r : Run Machine). r.0) run) in (
      places-more (state_after f start) k old.places.items new.places.items s here adds.places places,
      visits-more (flows_of f.insns) (state_after f start) k s old.visits.items new.visits.items here
          (subst (λ (fs : List Flow). Visits fs s k old.visits.items new.visits.items) same adds.visits) visits,
    )

-- a run that has met an unset flag is refused with its place
pub refused-at : (f : Function) (start : Machine) (n i : ℕ) (u : Machine) → run_of (step_of f.insns f.pool) start n ≡ (u, Unset i)
    → refusal_of (end_within f n start) (state_after f start n).place ≡ Some (refusals.Unset u.place)
refused-at f start n i u run = ap (λ (r : Run Machine). refusal_of r.1 r.0.place) run

-- a run that has ended otherwise has its trace
pub finished : (f : Function) (start : Machine) (n k : ℕ) (u : Machine) (e : RunEnd) (t : Trace) → run_of (step_of f.insns f.pool) start n ≡ (u, e)
    → ((place : ℕ) → refusal_of e place ≡ None) → steps_of e ≡ k + 1 → HasRegisters start.entry t.entry
    → ArePlaces (state_after f start) (k + 1) t.places.items → AreVisits (flows_of f.insns) (state_after f start) (k + 1) t.visits.items → t.end ≡ e
    → (refusal_of (end_within f n start) (state_after f start n).place ≡ None) × IsTrace f start (end_within f n start) t
finished f start n k u e t run none steps entry places visits end =
    let ended : end_within f n start ≡ e = ap (λ (r : Run Machine). r.1) run in (
      ap (λ (x : RunEnd). refusal_of x (state_after f start n).place) ended ∙ none (state_after f start n).place,
      subst (λ (x : RunEnd). IsTrace f start x t) (sym ended) (record {
        entry = entry;
        places = subst (λ (m : ℕ). ArePlaces (state_after f start) m t.places.items) (sym steps) places;
        visits = subst (λ (m : ℕ). AreVisits (flows_of f.insns) (state_after f start) m t.visits.items) (sym steps) visits;
        ended = end;
      }),
    )
