-- Three small products, which show what the premises of the law are for. A state is the place where it stands.
use Rattle.std.specs.Prelude.{◌≡◌, ℕ, zero, suc, List, [], ◌∷◌}
use Rattle.runs.specs.Run.{Step, Goes, Returns}
use Rattle.product_automaton.specs.declared.product.PEdge.{PEdge}
use Rattle.product_automaton.specs.declared.product.PNode.{PNode}
use Rattle.product_automaton.specs.declared.product.Product.{Product}

-- returns by its first step
abbrev pub quick_step : ℕ → Step ℕ
quick_step s = Returns

-- goes from place 0 to place 2, and returns there by its third step
abbrev pub slow_step : ℕ → Step ℕ
slow_step zero = Goes 1
slow_step (suc zero) = Goes 2
slow_step (suc (suc s)) = Returns

-- goes from place 0 to place 4, and returns there by its fifth step
abbrev pub slower_step : ℕ → Step ℕ
slower_step zero = Goes 1
slower_step (suc zero) = Goes 2
slower_step (suc (suc zero)) = Goes 3
slower_step (suc (suc (suc zero))) = Goes 4
slower_step (suc (suc (suc (suc s)))) = Returns

-- stays where it stands, and never ends
abbrev pub endless_step : ℕ → Step ℕ
endless_step s = Goes s

-- a node with these places and this left rank
abbrev pub product_node : (left right rank : ℕ) → PNode
product_node left right rank = record { left = left; right = right; invs = []; rank_left = rank; rank_right = 0 }

-- an edge with these paths
abbrev pub product_edge : (from to : ℕ) → (left right : List ℕ) → PEdge
product_edge from to left right = record { from = from; to = to; left = left; right = right }

-- The right function goes on along three edges, the left one along the last alone.
abbrev pub waiting_product : Product
waiting_product = record {
  nodes = product_node 0 0 2 ∷ product_node 0 0 0 ∷ product_node 0 1 1 ∷ product_node 0 2 0 ∷ [];
  edges = product_edge 0 2 [] (0 ∷ []) ∷ product_edge 2 3 [] (1 ∷ []) ∷ product_edge 3 1 (0 ∷ []) (2 ∷ []) ∷ [];
}

-- two states stand at these places
pub record AtPlaces (left right a b : ℕ) : Type 0 where
  pub left_place : a ≡ left
  pub right_place : b ≡ right

-- any two states that have returned have the same end here
abbrev pub AnyEnd : ℕ → ℕ → Type 0
AnyEnd a b = Unit {0}

-- stands at place 0
abbrev pub IsAtEntry : ℕ → Type 0
IsAtEntry s = s ≡ 0

-- which places are related at the nodes of the product in which one side waits
abbrev pub WaitingRelated : ℕ → ℕ → ℕ → Type 0
WaitingRelated zero a b = AtPlaces 0 0 a b
WaitingRelated (suc zero) a b = AnyEnd a b
WaitingRelated (suc (suc zero)) a b = AtPlaces 0 1 a b
WaitingRelated (suc (suc (suc zero))) a b = AtPlaces 0 2 a b
WaitingRelated (suc (suc (suc (suc k)))) a b = ⊥

-- One edge leads from the entry to the exit, along one place of the left function and five of the right one.
abbrev pub leaping_product : Product
leaping_product = record {
  nodes = product_node 0 0 0 ∷ product_node 0 0 0 ∷ [];
  edges = product_edge 0 1 (0 ∷ []) (0 ∷ 1 ∷ 2 ∷ 3 ∷ 4 ∷ []) ∷ [];
}

-- which places are related at its two nodes
abbrev pub LeapingRelated : ℕ → ℕ → ℕ → Type 0
LeapingRelated zero a b = AtPlaces 0 0 a b
LeapingRelated (suc zero) a b = AnyEnd a b
LeapingRelated (suc (suc k)) a b = ⊥

-- Along its last edge, whose rank does not fall, the right function goes on for ever and the left one does not.
abbrev pub standing_product : List PEdge → Product
standing_product edges = record { nodes = product_node 0 0 1 ∷ product_node 0 0 0 ∷ product_node 0 0 0 ∷ []; edges = edges }

-- the edge from the entry, along which the right function goes on alone
abbrev pub entry_edge : PEdge
entry_edge = product_edge 0 2 [] (0 ∷ [])

-- the edge from node 2 to itself, along which the right function goes on alone
abbrev pub circle_edge : PEdge
circle_edge = product_edge 2 2 [] (0 ∷ [])

-- which places are related at the nodes of that product
abbrev pub StandingRelated : ℕ → ℕ → ℕ → Type 0
StandingRelated zero a b = AtPlaces 0 0 a b
StandingRelated (suc zero) a b = AnyEnd a b
StandingRelated (suc (suc zero)) a b = AtPlaces 0 0 a b
StandingRelated (suc (suc (suc k))) a b = ⊥
