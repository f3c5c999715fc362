-- What a graph keeps true of the places that it has marked.
use Rattle.std.specs.Prelude.{◌↔◌, ℕ, List, Contains}
use Rattle.std.specs.List.Sorted.{IsStrictlyIncreasing}
use Rattle.flow_graph.specs.declared.control.Flow.{Flow}
use Rattle.flow_graph.specs.Flows.{IsCut, IsHead, ListsInOrder}

-- the lists are those of the cut points and of the heads
pub record HasMarks (flows : List Flow) (cuts heads : List ℕ) : Type 0 where
  pub of_cuts : ListsInOrder (IsCut flows) cuts
  pub of_heads : ListsInOrder (IsHead flows) heads

-- the same places in order, each once
pub record IsInOrderOf (places ordered : List ℕ) : Type 0 where
  pub rising : IsStrictlyIncreasing ordered
  pub same : (place : ℕ) → Contains ordered place ↔ Contains places place
