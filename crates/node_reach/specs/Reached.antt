-- Which nodes some nodes need.
use Rattle.std.specs.Prelude.{◌≡◌, ℕ, ◌==◌, ◌||◌, Bool, false, List, slice_index_or}
use Rattle.std.specs.List.{list_any}
use Rattle.node_values.specs.declared.node.Node.{Node}
use Rattle.node_values.specs.declared.node.NodeId.{NodeId}
use Rattle.duty_claims.specs.Needs.{is_needed_by}

-- whether some of these nodes need node k
abbrev pub is_needed : List Node → List NodeId → ℕ → Bool
is_needed ns roots k = list_any (λ n. is_needed_by ns k n.0) roots

-- whether node k is marked
abbrev pub is_marked : List Bool → ℕ → Bool
is_marked marks k = slice_index_or marks k false

-- these nodes are marked besides
abbrev pub MarksBesides : List Bool → List Bool → List ℕ → Type 0
MarksBesides old new nodes = (k : ℕ) → is_marked new k ≡ (is_marked old k || list_any (λ j. j == k) nodes)
