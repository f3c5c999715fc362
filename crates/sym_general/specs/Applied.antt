-- What a general instruction builds, in order: the flags that its condition reads, the condition, the row, and the
-- constants that its flags are over.
use Rattle.std.specs.Prelude.{ℕ, ◌≤◌, Bool, true, false, List, [], ◌∷◌, Option, Some, None, if◌then◌else◌}
use Rattle.insn_ops.specs.declared.op.Op.{Op}
use Rattle.insn_ops.specs.declared.op.Op.TheVariants as ops
use Rattle.insn_semantics.specs.FlagRules.{Rule, Keeps, Unsets, Sets}
use Rattle.insn_semantics.specs.Rows.{row_expr}
use Rattle.machine.specs.Access.{writes}
use Rattle.machine.specs.Family.{condition_of}
use Rattle.node_values.specs.declared.node.Node.{Node}
use Rattle.node_values.specs.declared.node.Node.TheVariants.{Const}
use Rattle.node_values.specs.declared.node.NodeId.{NodeId}
use Rattle.terms.specs.Building.{built}
use Rattle.terms.specs.Made.{Made, made}
use Rattle.sym_rows.specs.declared.operands.Flag.TheVariants as flags
use Rattle.sym_rows.specs.declared.operands.FlagNodes.{FlagNodes}
use Rattle.sym_rows.specs.declared.operands.RowNodes.{RowNodes}
use Rattle.sym_rows.specs.declared.lazy_flags.SymFlag.{SymFlag}
use Rattle.sym_rows.specs.declared.lazy_flags.SymFlag.TheVariants.{Unset, From}
use Rattle.sym_rows.specs.FlagExprs.{flag_rule}
use Rattle.sym_rows.specs.LazyFlags.{shift_count}
use Rattle.sym_rows.specs.Leaves.{row_leaf}
use Rattle.sym_general.specs.Operands.{node_of, row_nodes, source_at}
use Rattle.sym_general.specs.PathFlags.{WithCondition, condition_made, flag_of}

-- a sheet after an instruction: what it writes, the flags, and its condition, where it reads one
pub record Applied : Type 0 where
  pub nodes : List Node
  pub values : List NodeId
  pub flags : List SymFlag
  pub cond : Option NodeId

-- the operation computes a word
abbrev pub computes_word : Op → Bool
computes_word (ops.Jump c) = false
computes_word ops.Jmp = false
computes_word ops.Push = false
computes_word ops.Pop = false
computes_word ops.Ret = false
computes_word ops.Nop = false
computes_word ops.Endbr64 = false
computes_word (ops.Vector op) = false
computes_word _ = true

-- a sheet after a row, and the nodes that its flags are over
pub record WithRow : Type 0 where
  pub nodes : List Node
  pub over : FlagNodes

-- the left operand of the sum, the difference or the shift is a constant: 0 of `neg`
abbrev pub left_constant : Op → Option ℕ
left_constant ops.Neg = Some 0
left_constant _ = None

-- so is the right operand: 1 of `inc` and `dec`
abbrev pub right_constant : Op → Option ℕ
right_constant ops.Inc = Some 1
right_constant ops.Dec = Some 1
right_constant _ = None

-- the right operand, where it is no constant: of `neg` the destination
abbrev pub right_node : Op → RowNodes → NodeId
right_node ops.Neg over = over.destination
right_node _ over = over.source

-- such a constant is 0 or 1
abbrev pub IsBit : Option ℕ → Type 0
IsBit None = Unit {0}
IsBit (Some v) = v ≤ 1

-- a constant of w bits, or else a node of the sheet
abbrev pub constant_or : Option ℕ → ℕ → NodeId → List Node → Made
constant_or None w id ns = record { nodes = ns; id = id }
constant_or (Some v) w id ns = made ns (Const w v)

-- the row of an operation at w bits, a shift by k, and then the constants that its flags are over
unfoldable pub row_made : Op → ℕ → ℕ → RowNodes → List Node → WithRow
row_made op w k over ns =
    let result = built ns (row_leaf over) (row_expr op w k) in
    let left = constant_or (left_constant op) w over.destination result.nodes in
    let right = constant_or (right_constant op) w (right_node op over) left.nodes in
    record { nodes = right.nodes; over = record { result = result.id; left = left.id; right = right.id } }

-- a flag by its rule: as it was, unset, or by the operation
abbrev pub flag_by : Rule → SymFlag → SymFlag → SymFlag
flag_by Keeps before new = before
flag_by Unsets before new = Unset
flag_by (Sets x) before new = new

-- the five flags by their rules
abbrev pub flags_by : Op → ℕ → ℕ → List SymFlag → SymFlag → List SymFlag
flags_by op w k before new =
    flag_by (flag_rule flags.Carry op w k) (flag_of before 0) new ∷
    flag_by (flag_rule flags.Parity op w k) (flag_of before 1) new ∷
    flag_by (flag_rule flags.Zero op w k) (flag_of before 2) new ∷
    flag_by (flag_rule flags.Sign op w k) (flag_of before 3) new ∷
    flag_by (flag_rule flags.Overflow op w k) (flag_of before 4) new ∷ []

-- the one node of a result, where there is one
abbrev pub listed : Option NodeId → List NodeId
listed None = []
listed (Some id) = id ∷ []

-- a row that computes a word, after its condition: what it writes is the word, but of comparisons nothing
abbrev pub row_applied : Op → ℕ → List NodeId → WithCondition → Applied
row_applied op w values test =
    let k = shift_count test.nodes op (node_of values (source_at op)) in
    let row = row_made op w k (row_nodes op values test.cond) test.nodes in
    record {
      nodes = row.nodes;
      values = if writes op then row.over.result ∷ [] else [];
      flags = flags_by op w k test.flags (From op w row.over);
      cond = test.cond;
    }

-- a general operation at w bits over its operands and the flags of a path
unfoldable pub general_applied : Op → ℕ → List NodeId → List SymFlag → List Node → Applied
general_applied op w values path ns =
    let test = condition_made (condition_of op) path ns in
    if computes_word op
    then row_applied op w values test
    else record { nodes = test.nodes; values = []; flags = test.flags; cond = test.cond }
