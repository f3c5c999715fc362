-- What a node needs: itself, its arguments, theirs, and so on.
use Rattle.std.specs.Prelude.{ℕ, ◌==◌, ◌||◌, Bool, true, false, List, [], ◌∷◌, ◌++◌, IsTrue, length, map}
use Rattle.std.specs.List.{filter, list_any, range_with_len}
use Rattle.insn_ops.specs.declared.side.Side.{Side}
use Rattle.insn_ops.specs.declared.side.Side.TheVariants.{Left}
use Rattle.node_values.specs.declared.node.Node.{Node}
use Rattle.node_values.specs.declared.node.Node.TheVariants.{Start}
use Rattle.node_values.specs.Nodes.{arguments}
use Rattle.node_values.specs.Sheets.{from_lower, node_at}

-- whether a node needs node k: it is node k, or an argument of it needs node k
unfoldable pub is_needed_by : List Node → ℕ → ℕ → Bool
is_needed_by ns k i = from_lower false (λ needed j. (j == k) || list_any needed (arguments (node_at ns j))) i

-- node i needs node k
abbrev pub Needs : List Node → ℕ → ℕ → Type 0
Needs ns i k = IsTrue (is_needed_by ns k i)

-- whether a node is a byte of memory
abbrev pub is_start : Node → Bool
is_start (Start side at) = true
is_start _ = false

-- the side whose memory a byte of memory is of
abbrev pub side_of : Node → Side
side_of (Start side at) = side
side_of _ = Left

-- the node of the address of a byte of memory
abbrev pub address_of : Node → ℕ
address_of (Start side at) = at.0
address_of _ = 0

-- the bytes of memory of a sheet, by number
abbrev pub start_nodes : List Node → List ℕ
start_nodes ns = filter (λ i. is_start (node_at ns i)) (range_with_len 0 (length ns))

-- each two of a list, the earlier one first, in order
abbrev pub each_two : List ℕ → List (ℕ × ℕ)
each_two [] = []
each_two (m ∷ ms) = map (λ n. (m, n)) ms ++ each_two ms
