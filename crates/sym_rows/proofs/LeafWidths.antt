-- Leaves of one width, in a sheet and in a later one.
use Rattle.std.proofs.Common.{◌≡◌, ℕ, ◌<◌, ◌≤◌, List, length, sym, ◌∙◌, arith}
use Rattle.node_values.specs.declared.node.Node.{Node}
use Rattle.node_values.specs.declared.node.NodeId.{NodeId}
use Rattle.node_values.specs.Nodes.{AreAlike}
use Rattle.node_values.specs.Sheets.{width_at}
use Rattle.sym_rows.specs.Leaves.{AreLeaves}

-- two leaves are of one width
pub alike : (w : ℕ) (ns : List Node) (leaves : ℕ → NodeId) → AreLeaves w ns leaves → (i j : ℕ)
    → AreAlike (width_at ns) (length ns) (leaves i).0 (leaves j).0
alike w ns leaves are i j = (are.inside i, are.inside j, are.widths i ∙ sym (are.widths j))

-- a leaf is of the width of another node of w bits
pub alike_leaf : (w : ℕ) (ns : List Node) (leaves : ℕ → NodeId) → AreLeaves w ns leaves → (i : ℕ) (a : NodeId)
    → a.0 < length ns → width_at ns a.0 ≡ w → AreAlike (width_at ns) (length ns) (leaves i).0 a.0
alike_leaf w ns leaves are i a inside width = (are.inside i, inside, are.widths i ∙ sym width)

-- leaves stay leaves
pub later_leaves : (w : ℕ) (ns later : List Node) (leaves : ℕ → NodeId) → AreLeaves w ns leaves → length ns ≤ length later
    → ((i : ℕ) → i < length ns → width_at later i ≡ width_at ns i) → AreLeaves w later leaves
later_leaves w ns later leaves are longer kept = record {
  inside = λ i. omega (arith, are.inside i, longer);
  widths = λ i. kept (leaves i).0 (are.inside i) ∙ are.widths i;
}
