-- What the nodes of a general instruction are worth: the word that it writes, its condition, and its flags.
use Rattle.std.specs.Prelude.{◌≡◌, ℕ, Bool, true, false, ◌&&◌, List, [], ◌∷◌, map, Option, Some, None, if◌then◌else◌}
use Rattle.std.specs.List.{AllByRecursion}
use Rattle.insn_ops.specs.declared.op.Cond.{Cond}
use Rattle.insn_ops.specs.declared.op.Op.{Op}
use Rattle.insn_ops.specs.declared.op.Op.TheVariants as ops
use Rattle.insn_semantics.specs.Exprs.{value}
use Rattle.insn_semantics.specs.FlagRules.{flags_after}
use Rattle.insn_semantics.specs.Rows.{row_expr}
use Rattle.insn_table.specs.declared.insn.Insn.{Insn}
use Rattle.machine.specs.Access.{writes}
use Rattle.machine.specs.Family.{condition_of}
use Rattle.machine.specs.Step.{operand_leaves}
use Rattle.node_values.specs.declared.node.Node.{Node}
use Rattle.node_values.specs.declared.node.NodeId.{NodeId}
use Rattle.node_values.specs.Sheets.{Extends, IsSheet, value_at}
use Rattle.node_values.specs.Values.{Environment}
use Rattle.address_nodes.specs.Multiples.{IsOfWidth}
use Rattle.sym_rows.specs.declared.lazy_flags.SymFlag.{SymFlag}
use Rattle.sym_general.specs.Applied.{Applied, computes_word}
use Rattle.sym_general.specs.Operands.{HoldWords}
use Rattle.sym_general.specs.PathFlags.{AreFlags, condition_word, flags_in}

-- an operation of general registers
abbrev pub IsGeneral : Op → Type 0
IsGeneral (ops.Vector op) = ⊥
IsGeneral _ = Unit {0}

-- PUSH and POP
abbrev pub is_stack_op : Op → Bool
is_stack_op ops.Push = true
is_stack_op ops.Pop = true
is_stack_op _ = false

-- the word of an operation at w bits, of the destination d and the source s, and of its condition's word; none where
-- it writes none
abbrev pub words_of : Op → ℕ → ℕ → ℕ → ℕ → List ℕ
words_of op w d s c = if computes_word op && writes op then value (operand_leaves d s c) (row_expr op w s) ∷ [] else []

-- the nodes of the result have the row's words, whatever the environment and whatever words the operands hold there
abbrev pub HaveWords : Op → ℕ → List NodeId → List SymFlag → List Node → List Node → List NodeId → Type 0
HaveWords op w args path ns later values =
    (e : Environment) (d s : ℕ) → HoldWords e ns op args d s
    → map (λ (v : NodeId). value_at e later v.0) values ≡ words_of op w d s (condition_word e ns path (condition_of op))

-- the flags are those that the instruction leaves of the flags before
abbrev pub HaveFlags : Op → ℕ → List NodeId → List SymFlag → List Node → List Node → List SymFlag → Type 0
HaveFlags op w args path ns later path_later =
    (e : Environment) (d s : ℕ) → HoldWords e ns op args d s
    → flags_in e later path_later ≡ flags_after op w d s (flags_in e ns path)

-- a node of one bit with the condition's word, or no node where there is no condition
abbrev pub IsCondition : Option Cond → List SymFlag → List Node → List Node → Option NodeId → Type 0
IsCondition None path ns later None = Unit {0}
IsCondition None path ns later (Some id) = ⊥
IsCondition (Some c) path ns later None = ⊥
IsCondition (Some c) path ns later (Some id) =
    IsOfWidth later 1 id × ((e : Environment) → value_at e later id.0 ≡ condition_word e ns path (Some c))

-- What an instruction makes of a sheet: older nodes stay, each node is of its width, and is worth what its row says.
pub record IsGeneralMade (ns : List Node) (i : Insn) (args : List NodeId) (path : List SymFlag) (a : Applied) : Type 0 where
  pub extends : Extends ns a.nodes
  pub sheet : IsSheet a.nodes
  pub words : HaveWords i.op i.w args path ns a.nodes a.values
  pub widths : AllByRecursion (IsOfWidth a.nodes i.w) a.values
  pub cond : IsCondition (condition_of i.op) path ns a.nodes a.cond
  pub flags : AreFlags a.nodes a.flags
  pub left : HaveFlags i.op i.w args path ns a.nodes a.flags
