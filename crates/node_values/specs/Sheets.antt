-- Lists of nodes over earlier ones: the widths of their nodes, and their values in an environment.
use Rattle.std.specs.Prelude.{◌≡◌, ℕ, zero, suc, ◌+◌, ◌<◌, List, ◌++◌, length, slice_index_or}
use Rattle.node_values.specs.declared.node.Node.{Node}
use Rattle.node_values.specs.declared.node.Node.TheVariants.{Const}
use Rattle.node_values.specs.Nodes.{IsNode, node_width}
use Rattle.node_values.specs.Values.{Environment, node_value}

-- what number i has where it is made from what lower numbers have, through this many numbers
unfoldable pub through : {X : Type 0} → X → ((ℕ → X) → ℕ → X) → ℕ → ℕ → X
through none make zero i = none
through none make (suc depth) i = make (through none make depth) i

-- what number i has where it is made from what lower numbers have
abbrev pub from_lower : {X : Type 0} → X → ((ℕ → X) → ℕ → X) → ℕ → X
from_lower none make i = through none make (suc i) i

-- node i of a list; past its end the constant of no bits
abbrev pub node_at : List Node → ℕ → Node
node_at ns i = slice_index_or ns i (Const 0 0)

-- the width of node i
unfoldable pub width_at : List Node → ℕ → ℕ
width_at ns i = from_lower 0 (λ widths j. node_width widths (node_at ns j)) i

-- the value of node i in an environment
unfoldable pub value_at : Environment → List Node → ℕ → ℕ
value_at e ns i = from_lower 0 (λ values j. node_value e (width_at ns) values (node_at ns j)) i

-- each node is one over the nodes before it
abbrev pub IsSheet : List Node → Type 0
IsSheet ns = (i : ℕ) → i < length ns → IsNode (width_at ns) i (node_at ns i)

-- this many bits for each node
abbrev pub AreWidths : List Node → List ℕ → Type 0
AreWidths ns widths = (length widths ≡ length ns) × ((i : ℕ) → i < length ns → slice_index_or widths i 0 ≡ width_at ns i)

-- the list with more nodes behind
abbrev pub Extends : List Node → List Node → Type 0
Extends ns later = (more : List Node) × (later ≡ ns ++ more)
