-- What building a node makes of a sheet.
use Rattle.std.specs.Prelude.{ℕ, ◌<◌, ◌≤◌, Bool, List, [], ◌∷◌, ◌++◌, length, if◌then◌else◌}
use Rattle.std.specs.List.{list_any, position_or_len}
use Rattle.node_values.specs.contracts.node.NodePartialEq.TheImpl.{eq-value}
use Rattle.node_values.specs.declared.node.Node.{Node}
use Rattle.node_values.specs.declared.node.Node.TheVariants.{Eq}
use Rattle.node_values.specs.declared.node.NodeId.{NodeId}
use Rattle.terms.specs.declared.rules.Reduced.{Reduced}
use Rattle.terms.specs.declared.rules.Reduced.TheVariants.{Old, New}
use Rattle.terms.specs.Rules.{reduced}

-- the test of two nodes
abbrev pub is_same_node : Node → Node → Bool
is_same_node = (eq-value).it

-- a sheet, and the number of a node in it
pub record Made : Type 0 where
  pub nodes : List Node
  pub id : NodeId

-- the node stays where it stands, or goes last
abbrev pub with_node : List Node → Node → List Node
with_node ns n = if list_any (is_same_node n) ns then ns else ns ++ n ∷ []

-- the number of a node: where it stands, or the next one
abbrev pub node_number : List Node → Node → ℕ
node_number ns n = position_or_len (is_same_node n) ns

-- a sheet with a node that is there, or with a new one
abbrev pub placed : List Node → Reduced → Made
placed ns (Old a) = record { nodes = ns; id = a }
placed ns (New n) = record { nodes = with_node ns n; id = record { 0 = node_number ns n } }

-- the sheet after a node is built by the rules, and its number
unfoldable pub made : List Node → Node → Made
made ns n = placed ns (reduced ns n)

-- a later sheet has more nodes, and room for all of them
abbrev pub GrowsInRoom : List Node → List Node → Type 0
GrowsInRoom ns later = (length ns < length later) × (length later ≤ 65536)

-- an equality: its forms take memory before it is known which node it is
abbrev pub IsEquality : Node → Type 0
IsEquality (Eq a b) = Unit {0}
IsEquality _ = ⊥
