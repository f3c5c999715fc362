-- What a visit shows of a state, and what is recorded of a step.
use Rattle.std.specs.Prelude.{◌≡◌, ℕ, ◌<◌, List, [], ◌∷◌, ◌++◌, map, slice_get, slice_index}
use Rattle.flow_graph.specs.declared.control.Flow.{Flow}
use Rattle.flow_graph.specs.Flows.{IsHead}
use Rattle.lane_views.specs.declared.Bytes32.{Bytes32}
use Rattle.machine.specs.Machine.{Machine}
use Rattle.tracer.specs.declared.recording.Record.{Record}
use Rattle.tracer.specs.declared.recording.Visit.{Visit}

-- each of the sixteen registers is as it is here
abbrev pub HasRegisters : List ℕ → List ℕ → Type 0
HasRegisters here regs = (n : ℕ) → n < 16 → slice_index regs n ≡ slice_index here n

-- each of the sixteen vectors is as it is here
abbrev pub HasVectors : List (List ℕ) → List Bytes32 → Type 0
HasVectors here vecs = (n : ℕ) → n < 16 → slice_get (map (λ (v : Bytes32). v.bytes) vecs) n ≡ slice_get here n

-- the visit shows this state, so many steps having been done
pub record Shows (s : Machine) (steps : ℕ) (visit : Visit) : Type 0 where
  pub step : visit.step ≡ steps
  pub place : visit.place ≡ s.place
  pub regs : HasRegisters s.regs visit.regs
  pub vecs : HasVectors s.vecs visit.vecs

-- one visit more, where the state stands at a head, and none else
pub data Visits (flows : List Flow) (s : Machine) (steps : ℕ) (old new : List Visit) : Type 0 where
  AtHead : IsHead flows s.place → (visit : Visit) → Shows s steps visit → new ≡ old ++ visit ∷ []
      → Visits flows s steps old new
  Elsewhere : (IsHead flows s.place → ⊥) → new ≡ old → Visits flows s steps old new

-- a step that begins in this state is recorded
pub record Records (flows : List Flow) (s : Machine) (steps : ℕ) (old new : Record) : Type 0 where
  pub places : new.places.items ≡ old.places.items ++ s.place ∷ []
  pub visits : Visits flows s steps old.visits.items new.visits.items
