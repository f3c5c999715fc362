-- Sheets with their widths, and what stands for a node.
use Rattle.std.specs.Prelude.{◌≡◌, ℕ, ◌<◌, List, length}
use Rattle.node_values.specs.declared.node.Node.{Node}
use Rattle.node_values.specs.Nodes.{IsNode, node_width}
use Rattle.node_values.specs.Values.{Environment, node_value}
use Rattle.node_values.specs.Sheets.{AreWidths, IsSheet, value_at, width_at}
use Rattle.terms.specs.declared.rules.Reduced.{Reduced}
use Rattle.terms.specs.declared.rules.Reduced.TheVariants.{Old, New}

-- a sheet and the widths of its nodes
abbrev pub IsWidthList : List Node → List ℕ → Type 0
IsWidthList ns widths = IsSheet ns × AreWidths ns widths

-- A node of the list, or a new one, stands for a node: it may stand there, has its width, and has its value in every
-- environment.
abbrev pub Stands : List Node → Node → Reduced → Type 0
Stands ns n (Old a) =
    (a.0 < length ns) × (width_at ns a.0 ≡ node_width (width_at ns) n)
    × ((e : Environment) → value_at e ns a.0 ≡ node_value e (width_at ns) (value_at e ns) n)
Stands ns n (New m) =
    IsNode (width_at ns) (length ns) m × (node_width (width_at ns) m ≡ node_width (width_at ns) n)
    × ((e : Environment) → node_value e (width_at ns) (value_at e ns) m ≡ node_value e (width_at ns) (value_at e ns) n)
