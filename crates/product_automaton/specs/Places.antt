-- The places of a product's nodes, and paths between them.
use Rattle.std.specs.Prelude.{◌≡◌, ℕ, ◌==◌, ◌-◌, List, length, Option, None, Some, IfSome, option_map, slice_get, if◌then◌else◌}
use Rattle.std.specs.Option.{option_or}
use Rattle.flow_graph.specs.declared.control.Flow.{Flow}
use Rattle.flow_graph.specs.declared.control.Flow.TheVariants.{Return}
use Rattle.flow_graph.specs.Flows.{Follows, IsPath}
use Rattle.product_automaton.specs.declared.product.PNode.{PNode}

-- the left place of the node of this number
abbrev pub left_place : List PNode → ℕ → Option ℕ
left_place nodes number = option_map (λ node. node.left) (slice_get nodes number)

-- the right place of the node of this number
abbrev pub right_place : List PNode → ℕ → Option ℕ
right_place nodes number = option_map (λ node. node.right) (slice_get nodes number)

-- the left place that follows a path into the node: none follows one into the exit, which ends with a return
abbrev pub left_next : List PNode → ℕ → Option ℕ
left_next nodes number = if number == 1 then None else left_place nodes number

-- the right place that follows a path into the node: none follows one into the exit, which ends with a return
abbrev pub right_next : List PNode → ℕ → Option ℕ
right_next nodes number = if number == 1 then None else right_place nodes number

-- the place is followed by the next one, or returns where there is none
abbrev pub GoesOn : List Flow → ℕ → Option ℕ → Type 0
GoesOn flows place None = slice_get flows place ≡ Some Return
GoesOn flows place (Some next) = Follows flows place next

-- A path of the graph leads from one place to the next, or to a return where there is no next one. An empty path leads from a
-- place to itself. As nothing follows a return, no other place of the path is one.
pub record LeadsBetween (flows : List Flow) (path : List ℕ) (from next : Option ℕ) : Type 0 where
  pub is_path : IsPath flows path
  pub begins : option_or (slice_get path 0) next ≡ from
  pub ends : IfSome (slice_get path (length path - 1)) (λ place. GoesOn flows place next)
