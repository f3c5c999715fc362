-- The longest path of a product and its bound, and ranks that fall.
use Rattle.std.specs.Prelude.{◌≡◌, ℕ, ◌*◌, ◌<◌, All, List, [], ◌∷◌, length, max, slice_get}
use Rattle.std.specs.Option.{option_map_or}
use Rattle.product_automaton.specs.declared.product.PEdge.{PEdge}
use Rattle.product_automaton.specs.declared.product.PNode.{PNode}
use Rattle.product_automaton.specs.declared.product.Product.{Product}

-- the length of the longest path of any of the edges, on either side
abbrev pub longest_path : List PEdge → ℕ
longest_path [] = 0
longest_path (e ∷ es) = max (max (length e.left) (length e.right)) (longest_path es)

-- the number of nodes times the length of the longest path
abbrev pub bound_of : Product → ℕ
bound_of p = length p.nodes * longest_path p.edges

-- the left rank of the node of this number, 0 where there is none
abbrev pub left_rank : List PNode → ℕ → ℕ
left_rank nodes number = option_map_or (λ node. node.rank_left) (slice_get nodes number) 0

-- the right rank of the node of this number, 0 where there is none
abbrev pub right_rank : List PNode → ℕ → ℕ
right_rank nodes number = option_map_or (λ node. node.rank_right) (slice_get nodes number) 0

-- both ranks of the node are below the limit
pub record HasLowRanks (limit : ℕ) (node : PNode) : Type 0 where
  pub left : node.rank_left < limit
  pub right : node.rank_right < limit

-- the edge leads to a node, and an empty path lowers the rank of its side
pub record LowersRanks (nodes : List PNode) (e : PEdge) : Type 0 where
  pub target : e.to < length nodes
  pub left : e.left ≡ [] → left_rank nodes e.to < left_rank nodes e.from
  pub right : e.right ≡ [] → right_rank nodes e.to < right_rank nodes e.from

-- There are an entry and an exit, ranks are below the number of nodes, and an empty path lowers the rank of its side. So no
-- cycle stands still on a side.
pub record RanksFall (p : Product) : Type 0 where
  pub two : 1 < length p.nodes
  pub low : All (HasLowRanks (length p.nodes)) p.nodes
  pub lowers : All (LowersRanks p.nodes) p.edges
