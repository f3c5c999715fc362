-- Ways on from a node of a product, over states of any kind: both runs follow an edge's paths into the relation of the
-- node that it leads to, or both fault within them. Node 1 is the exit, where both have returned.
use Rattle.std.specs.Prelude.{◌≡◌, ◌≢◌, ◌⊎◌, ℕ, ◌==◌, ◌<◌, Contains, List, length, Option, None, option_map, slice_get, if◌then◌else◌}
use Rattle.runs.specs.Run.{Step}
use Rattle.runs.specs.Path.{Way, Through, Back, Fell, way}
use Rattle.product_automaton.specs.declared.product.PEdge.{PEdge}
use Rattle.product_automaton.specs.declared.product.PNode.{PNode}
use Rattle.product_automaton.specs.declared.product.Product.{Product}

-- the left place of the node of this number
abbrev pub left_place : List PNode → ℕ → Option ℕ
left_place nodes number = option_map (λ node. node.left) (slice_get nodes number)

-- the right place of the node of this number
abbrev pub right_place : List PNode → ℕ → Option ℕ
right_place nodes number = option_map (λ node. node.right) (slice_get nodes number)

-- the left place that follows a path which leads to the node: none follows one that leads to the exit
abbrev pub left_next : Product → ℕ → Option ℕ
left_next p node = if node == 1 then None else left_place p.nodes node

-- the right place that follows a path which leads to the node
abbrev pub right_next : Product → ℕ → Option ℕ
right_next p node = if node == 1 then None else right_place p.nodes node

-- how a run comes to the node: it has returned at the exit, and goes on at any other
abbrev pub arrival : {S : Type 0} → ℕ → S → Way S
arrival node end = if node == 1 then Back end else Through end

-- both runs follow the edge's paths into the relation of the node that it leads to
pub record BothFollow {S : Type 0} (place : S → ℕ) (f g : S → Step S) (p : Product) (related : ℕ → S → S → Type 0)
    (e : PEdge) (a b : S) : Type 0 where
  pub left_end : S
  pub right_end : S
  pub left : way place f e.left (left_next p e.to) a ≡ arrival e.to left_end
  pub right : way place g e.right (right_next p e.to) b ≡ arrival e.to right_end
  pub into : related e.to left_end right_end

-- both runs fault within the edge's paths
pub record BothFault {S : Type 0} (place : S → ℕ) (f g : S → Step S) (p : Product) (e : PEdge) (a b : S) : Type 0 where
  pub left : way place f e.left (left_next p e.to) a ≡ Fell
  pub right : way place g e.right (right_next p e.to) b ≡ Fell

-- the edge is a way on for the two states
abbrev pub IsWayOn : {S : Type 0} → (S → ℕ) → (f g : S → Step S) → Product → (ℕ → S → S → Type 0) → PEdge → S → S → Type 0
IsWayOn place f g p related e a b = BothFollow place f g p related e a b ⊎ BothFault place f g p e a b

-- an edge from the node is a way on for the two states
pub record LeadsOn {S : Type 0} (place : S → ℕ) (f g : S → Step S) (p : Product) (related : ℕ → S → S → Type 0)
    (node : ℕ) (a b : S) : Type 0 where
  pub edge : PEdge
  pub is_edge : Contains p.edges edge
  pub from : edge.from ≡ node
  pub is_way : IsWayOn place f g p related edge a b

-- each two states in the relation of a node but the exit have a way on
abbrev pub EdgesLead : {S : Type 0} → (S → ℕ) → (f g : S → Step S) → Product → (ℕ → S → S → Type 0) → Type 0
EdgesLead {S} place f g p related =
    (node : ℕ) → node < length p.nodes → node ≢ 1 → (a b : S) → related node a b → LeadsOn place f g p related node a b
