-- The operands whose nodes a general instruction is given, and where each stands among them.
use Rattle.std.specs.Prelude.{◌≡◌, ℕ, ◌+◌, Bool, true, false, not, ◌&&◌, List, length, Option, slice_index_or, unwrap_or, if◌then◌else◌}
use Rattle.insn_ops.specs.declared.op.Op.{Op}
use Rattle.insn_ops.specs.declared.op.Op.TheVariants as ops
use Rattle.insn_semantics.specs.FormedRows.{source_leaf_width}
use Rattle.insn_semantics.specs.OperationGroups.{is_shift}
use Rattle.insn_table.specs.declared.insn.Insn.{Insn}
use Rattle.insn_table.specs.declared.insn.Operand.TheVariants.{Imm}
use Rattle.machine.specs.Operands.{operand}
use Rattle.node_values.specs.declared.node.Node.{Node}
use Rattle.node_values.specs.declared.node.Node.TheVariants.{Const}
use Rattle.node_values.specs.declared.node.NodeId.{NodeId}
use Rattle.node_values.specs.Sheets.{node_at, value_at}
use Rattle.node_values.specs.Values.{Environment}
use Rattle.address_nodes.specs.Multiples.{IsOfWidth}
use Rattle.sym_rows.specs.declared.operands.RowNodes.{RowNodes}

-- the row names its destination's old value
abbrev pub reads_destination : Op → Bool
reads_destination ops.Add = true
reads_destination ops.Sub = true
reads_destination ops.Cmp = true
reads_destination ops.Test = true
reads_destination ops.And = true
reads_destination ops.Or = true
reads_destination ops.Xor = true
reads_destination ops.Inc = true
reads_destination ops.Dec = true
reads_destination ops.Neg = true
reads_destination ops.Not = true
reads_destination ops.Shl = true
reads_destination ops.Shr = true
reads_destination ops.Sar = true
reads_destination ops.Imul = true
reads_destination (ops.Cmov c) = true
reads_destination _ = false

-- the row names its source; that of a shift is its count
abbrev pub reads_source : Op → Bool
reads_source ops.Mov = true
reads_source ops.Movabs = true
reads_source ops.Add = true
reads_source ops.Sub = true
reads_source ops.Cmp = true
reads_source ops.Test = true
reads_source ops.And = true
reads_source ops.Or = true
reads_source ops.Xor = true
reads_source ops.Shl = true
reads_source ops.Shr = true
reads_source ops.Sar = true
reads_source ops.Imul = true
reads_source ops.Lea = true
reads_source (ops.Movzx m) = true
reads_source (ops.Movsx m) = true
reads_source ops.Cltq = true
reads_source (ops.Cmov c) = true
reads_source _ = false

-- a move by condition names its source first
abbrev pub names_source_first : Op → Bool
names_source_first (ops.Cmov c) = true
names_source_first _ = false

-- the operands stand in the order in which the row names them: the place of the destination
abbrev pub destination_at : Op → ℕ
destination_at op = if names_source_first op then 1 else 0

-- the place of the source
abbrev pub source_at : Op → ℕ
source_at op = if reads_destination op && not (names_source_first op) then 1 else 0

-- how many operands there are
abbrev pub operand_count : Op → ℕ
operand_count op = (if reads_destination op then 1 else 0) + (if reads_source op then 1 else 0)

-- a node of the list; where there is none, node 0
abbrev pub node_of : List NodeId → ℕ → NodeId
node_of values place = slice_index_or values place (record { 0 = 0 })

-- the nodes of a row, with its condition's, where it reads one
abbrev pub row_nodes : Op → List NodeId → Option NodeId → RowNodes
row_nodes op values cond =
    record {
      destination = node_of values (destination_at op);
      source = node_of values (source_at op);
      condition = unwrap_or cond (record { 0 = 0 });
    }

-- of a shift the count is k
abbrev pub HasCountOf : Insn → ℕ → Type 0
HasCountOf i k = is_shift i.op ≡ true → operand i 0 ≡ Imm k

-- The nodes of the operands that a general instruction reads, and no others: the destination has the width of the form, the
-- source that of the row's source, and the count of a shift is a constant.
pub record AreOperands (ns : List Node) (i : Insn) (values : List NodeId) : Type 0 where
  pub count : length values ≡ operand_count i.op
  pub destination : reads_destination i.op ≡ true → IsOfWidth ns i.w (node_of values (destination_at i.op))
  pub source : reads_source i.op ≡ true → IsOfWidth ns (source_leaf_width i.op i.w) (node_of values (source_at i.op))
  pub shift : is_shift i.op ≡ true → (k : ℕ) → operand i 0 ≡ Imm k
      → node_at ns (node_of values (source_at i.op)).0 ≡ Const i.w k

-- what the operands are in an environment: the destination d and the source s, where they are read
pub record HoldWords (e : Environment) (ns : List Node) (op : Op) (values : List NodeId) (d s : ℕ) : Type 0 where
  pub destination : reads_destination op ≡ true → value_at e ns (node_of values (destination_at op)).0 ≡ d
  pub source : reads_source op ≡ true → value_at e ns (node_of values (source_at op)).0 ≡ s
