-- The nodes that are the leaves of an expression, by number.
use Rattle.std.specs.Prelude.{◌≡◌, ℕ, zero, suc, ◌<◌, List, length}
use Rattle.node_values.specs.Sheets.{width_at}
use Rattle.node_values.specs.declared.node.Node.{Node}
use Rattle.node_values.specs.declared.node.NodeId.{NodeId}
use Rattle.sym_rows.specs.declared.operands.RowNodes.{RowNodes}
use Rattle.sym_rows.specs.declared.operands.FlagNodes.{FlagNodes}
use Rattle.sym_rows.specs.declared.operands.ConditionNodes.{ConditionNodes}

-- of a row: the destination, the source, and the condition at every other number
abbrev pub row_leaf : RowNodes → ℕ → NodeId
row_leaf over zero = over.destination
row_leaf over (suc zero) = over.source
row_leaf over (suc (suc i)) = over.condition

-- of a flag: the result, the left operand, and the right operand at every other number
abbrev pub flag_leaf : FlagNodes → ℕ → NodeId
flag_leaf over zero = over.result
flag_leaf over (suc zero) = over.left
flag_leaf over (suc (suc i)) = over.right

-- of a condition: carry, parity, zero, sign, and the overflow flag at every other number
abbrev pub condition_leaf : ConditionNodes → ℕ → NodeId
condition_leaf over zero = over.carry
condition_leaf over (suc zero) = over.parity
condition_leaf over (suc (suc zero)) = over.zero
condition_leaf over (suc (suc (suc zero))) = over.sign
condition_leaf over (suc (suc (suc (suc i)))) = over.overflow

-- each leaf is a node of a sheet, of w bits
pub record AreLeaves (w : ℕ) (ns : List Node) (leaves : ℕ → NodeId) : Type 0 where
  pub inside : (i : ℕ) → (leaves i).0 < length ns
  pub widths : (i : ℕ) → width_at ns (leaves i).0 ≡ w
