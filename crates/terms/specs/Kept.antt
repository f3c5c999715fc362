-- What a sheet keeps: nodes over earlier ones, each once, their widths, and at most 65,536.
use Rattle.std.specs.Prelude.{◌≡◌, ℕ, ◌<◌, ◌≤◌, List, length}
use Rattle.node_values.specs.declared.node.Node.{Node}
use Rattle.node_values.specs.Sheets.{AreWidths, IsSheet, node_at}

-- each node stands once: two numbers of equal nodes are equal
abbrev pub HasEachNodeOnce : List Node → Type 0
HasEachNodeOnce ns = (i j : ℕ) → i < length ns → j < length ns → node_at ns i ≡ node_at ns j → i ≡ j

-- what the code keeps of a sheet: its nodes, at most 65,536, each once, and their widths
pub record IsKeptSheet (ns : List Node) (bits : List ℕ) : Type 0 where
  pub sheet : IsSheet ns
  pub distinct : HasEachNodeOnce ns
  pub widths : AreWidths ns bits
  pub room : length ns ≤ 65536
