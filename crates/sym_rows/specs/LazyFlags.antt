-- Flags that are built only where they are read: which node a flag is, and its value.
use Rattle.std.specs.Prelude.{◌≡◌, ℕ, ◌<◌, ◌≤◌, List, length, if◌then◌else◌}
use Rattle.insn_ops.specs.declared.op.Op.{Op}
use Rattle.insn_semantics.specs.Exprs.{value}
use Rattle.insn_semantics.specs.FlagRules.{Rule, Keeps, Unsets, Sets}
use Rattle.insn_semantics.specs.FormedRows.{HasRowWidth}
use Rattle.insn_semantics.specs.OperationGroups.{is_shift}
use Rattle.node_values.specs.declared.node.Node.{Node}
use Rattle.node_values.specs.declared.node.NodeId.{NodeId}
use Rattle.node_values.specs.Sheets.{value_at, width_at}
use Rattle.node_values.specs.Values.{Environment}
use Rattle.terms.specs.Building.{built}
use Rattle.terms.specs.Made.{Made}
use Rattle.terms.specs.Rules.{number_at}
use Rattle.sym_rows.specs.declared.operands.Flag.{Flag}
use Rattle.sym_rows.specs.declared.operands.FlagNodes.{FlagNodes}
use Rattle.sym_rows.specs.declared.lazy_flags.SymFlag.{SymFlag}
use Rattle.sym_rows.specs.declared.lazy_flags.SymFlag.TheVariants.{Unset, From, Built}
use Rattle.sym_rows.specs.FlagExprs.{flag_expr, flag_rule}
use Rattle.sym_rows.specs.Leaves.{AreLeaves, flag_leaf}

-- the count of a shift, whose right operand is a constant; 0 of the other operations
abbrev pub shift_count : List Node → Op → NodeId → ℕ
shift_count ns op right = if is_shift op then number_at ns right.0 else 0

-- the rule sets the flag
abbrev pub IsSetting : Rule → Type 0
IsSetting Keeps = ⊥
IsSetting Unsets = ⊥
IsSetting (Sets x) = Unit {0}

-- an operation at w bits that sets a flag, over nodes of a sheet
pub record SetsFlag (ns : List Node) (which : Flag) (op : Op) (w : ℕ) (over : FlagNodes) : Type 0 where
  pub leaves : AreLeaves w ns (flag_leaf over)
  pub row : HasRowWidth op w (shift_count ns op over.right)
  pub byte : 8 ≤ w
  pub word : w ≤ 64
  pub sets : IsSetting (flag_rule which op w (shift_count ns op over.right))

-- a flag that is set: a node of one bit, or by an operation that sets it
abbrev pub IsSetFlag : List Node → Flag → SymFlag → Type 0
IsSetFlag ns which Unset = ⊥
IsSetFlag ns which (From op w over) = SetsFlag ns which op w over
IsSetFlag ns which (Built id) = (id.0 < length ns) × (width_at ns id.0 ≡ 1)

-- the sheet after a flag is read, and the flag's node
abbrev pub built_read : List Node → Flag → SymFlag → Made
built_read ns which Unset = record { nodes = ns; id = record { 0 = 0 } }
built_read ns which (From op w over) = built ns (flag_leaf over) (flag_expr which op w (shift_count ns op over.right))
built_read ns which (Built id) = record { nodes = ns; id = id }

-- the value of a flag in an environment, as a word of one bit
abbrev pub flag_word : Environment → List Node → Flag → SymFlag → ℕ
flag_word e ns which Unset = 0
flag_word e ns which (From op w over) =
    value (λ i. value_at e ns (flag_leaf over i).0) (flag_expr which op w (shift_count ns op over.right))
flag_word e ns which (Built id) = value_at e ns id.0

-- a flag that is set is set in a later sheet too, with the same word in every environment
pub record StaysSet (ns : List Node) (which : Flag) (f : SymFlag) (later : List Node) : Type 0 where
  pub set : IsSetFlag later which f
  pub word : (e : Environment) → flag_word e later which f ≡ flag_word e ns which f
