-- The node of a row over operands, and the nodes that its flags are over.
use Rattle.std.proofs.Common.{◌≡◌, ℕ, ◌<◌, ◌≤◌, true, List, length, refl, ◌∙◌, ap, arith, Option, Some, None}
use Rattle.std.specs.Prelude.{is_some}
use Rattle.std.proofs.lemmas.Bool.{false≢true}
use Rattle.insn_ops.specs.declared.op.Op.{Op}
use Rattle.insn_ops.specs.declared.op.Op.TheVariants as ops
use Rattle.insn_semantics.specs.Exprs.{leaves_of, value}
use Rattle.insn_semantics.specs.FlagRules.{left_operand, right_operand}
use Rattle.insn_semantics.specs.FormedRows.{HasRowWidth, row_widths, source_leaf_width}
use Rattle.insn_semantics.specs.OperationGroups.{is_shift, sets_flags}
use Rattle.insn_semantics.specs.Rows.{row_expr}
use Rattle.insn_semantics.proofs.FormedLaws.{rows_formed}
use Rattle.insn_semantics.proofs.FormedLeaves.{formed_by_leaves}
use Rattle.machine.specs.Family.{condition_of}
use Rattle.node_values.specs.declared.node.Node.{Node}
use Rattle.node_values.specs.declared.node.Node.TheVariants.{Const}
use Rattle.node_values.specs.declared.node.NodeId.{NodeId}
use Rattle.node_values.specs.Sheets.{Extends, IsSheet, value_at, width_at}
use Rattle.node_values.specs.Values.{Environment}
use Rattle.std.specs.List.{AllByRecursion}
use Rattle.terms.specs.Building.{HasValue, built}
use Rattle.terms.specs.Made.{Made, made}
use Rattle.terms.proofs.Built.{row_has_value}
use Rattle.terms.proofs.MadeLaws.{IsBuilt, made_built}
use Rattle.address_nodes.specs.Multiples.{IsOfWidth}
use Rattle.address_nodes.proofs.Growing.{extends_trans, later_value, made_extends, same_extends, stays, still_longer}
use Rattle.sym_rows.specs.declared.operands.RowNodes.{RowNodes}
use Rattle.sym_rows.specs.Leaves.{row_leaf}
use Rattle.sym_rows.proofs.Widths.{small_word}
use Rattle.sym_general.specs.Applied.{IsBit, WithRow, computes_word, constant_or, left_constant, right_constant, right_node, row_made}
use Rattle.sym_general.specs.Operands.{reads_destination, reads_source}
use Rattle.sym_general.proofs.NamedLeaves.{named_leaves}

-- the nodes of a row have the widths of its leaves, where it names them; all are in the sheet
pub record AreRowNodes (ns : List Node) (op : Op) (w : ℕ) (over : RowNodes) : Type 0 where
  pub inside : (i : ℕ) → (row_leaf over i).0 < length ns
  pub destination : reads_destination op ≡ true → width_at ns over.destination.0 ≡ w
  pub source : reads_source op ≡ true → width_at ns over.source.0 ≡ source_leaf_width op w
  pub condition : is_some (condition_of op) ≡ true → width_at ns over.condition.0 ≡ 1

-- a word of w bits that is worth v in each environment
pub record IsWorth (ns : List Node) (w : ℕ) (id : NodeId) (v : Environment → ℕ) : Type 0 where
  pub width : IsOfWidth ns w id
  pub value : (e : Environment) → value_at e ns id.0 ≡ v e

-- it stays so
pub worth_later : (ns later : List Node) → IsSheet ns → Extends ns later → (w : ℕ) (id : NodeId) (v : Environment → ℕ) → IsWorth ns w id v → IsWorth later w id v
worth_later ns later sheet ext w id v h = record {
  width = stays ns sheet later ext w id h.width;
  value = λ e. later_value ns sheet later ext e id.0 h.width.0 ∙ h.value e;
}

-- a row over its nodes, in the sheet behind its constants
pub record IsRowMade (ns : List Node) (op : Op) (w k : ℕ) (over : RowNodes) (m : WithRow) : Type 0 where
  pub extends : Extends ns m.nodes
  pub sheet : IsSheet m.nodes
  pub result : IsWorth m.nodes w m.over.result (λ e. value (λ i. value_at e ns (row_leaf over i).0) (row_expr op w k))
  pub left : sets_flags op ≡ true → IsWorth m.nodes w m.over.left (λ e. left_operand op (value_at e ns over.destination.0))
  pub right : sets_flags op ≡ true
      → IsWorth m.nodes w m.over.right (λ e. right_operand op (value_at e ns over.destination.0) (value_at e ns over.source.0))
  pub count : is_shift op ≡ true → m.over.right ≡ over.source

-- where an operation sets flags
pub sets_reads : (op : Op) → sets_flags op ≡ true → reads_destination op ≡ true
sets_reads ops.Add h = refl
sets_reads ops.Sub h = refl
sets_reads ops.Cmp h = refl
sets_reads ops.Inc h = refl
sets_reads ops.Dec h = refl
sets_reads ops.Neg h = refl
sets_reads ops.Test h = refl
sets_reads ops.And h = refl
sets_reads ops.Or h = refl
sets_reads ops.Xor h = refl
sets_reads ops.Shl h = refl
sets_reads ops.Shr h = refl
sets_reads ops.Sar h = refl
sets_reads _ h = absurd (false≢true h)

-- what the operands of the flags are worth: a constant, or else what their node is
abbrev pub constant_value : Option ℕ → ℕ → ℕ
constant_value None a = a
constant_value (Some v) a = v

abbrev pub right_value : Op → ℕ → ℕ → ℕ
right_value ops.Neg a b = a
right_value _ a b = b

left_is : (op : Op) (a : ℕ) → constant_value (left_constant op) a ≡ left_operand op a
left_is ops.Neg a = refl
left_is _ a = refl

right_is : (op : Op) (a b : ℕ) → constant_value (right_constant op) (right_value op a b) ≡ right_operand op a b
right_is ops.Inc a b = refl
right_is ops.Dec a b = refl
right_is ops.Neg a b = refl
right_is _ a b = refl

right_node_value : (op : Op) (over : RowNodes) (F : NodeId → ℕ) → F (right_node op over) ≡ right_value op (F over.destination) (F over.source)
right_node_value ops.Neg over F = refl
right_node_value _ over F = refl

-- the constants are 0 and 1
pub small_left : (op : Op) → IsBit (left_constant op)
small_left ops.Neg = omega arith
small_left _ = tt

pub small_right : (op : Op) → IsBit (right_constant op)
small_right ops.Inc = omega arith
small_right ops.Dec = omega arith
small_right _ = tt

-- the right operand's node has the row's width, where it sets flags
right_wide : (op : Op) (w : ℕ) (over : RowNodes) (F : NodeId → ℕ) → sets_flags op ≡ true → (reads_destination op ≡ true → F over.destination ≡ w)
    → (reads_source op ≡ true → F over.source ≡ source_leaf_width op w) → right_constant op ≡ None → F (right_node op over) ≡ w
right_wide ops.Neg w over F h d s none = d refl
right_wide ops.Add w over F h d s none = s refl
right_wide ops.Sub w over F h d s none = s refl
right_wide ops.Cmp w over F h d s none = s refl
right_wide ops.Test w over F h d s none = s refl
right_wide ops.And w over F h d s none = s refl
right_wide ops.Or w over F h d s none = s refl
right_wide ops.Xor w over F h d s none = s refl
right_wide ops.Shl w over F h d s none = s refl
right_wide ops.Shr w over F h d s none = s refl
right_wide ops.Sar w over F h d s none = s refl
right_wide ops.Inc w over F h d s none = cc
right_wide ops.Dec w over F h d s none = cc
right_wide _ w over F h d s none = absurd (false≢true h)

-- a shift's right operand is its count
shift_right : (op : Op) (w : ℕ) (over : RowNodes) (ns : List Node) → is_shift op ≡ true
    → constant_or (right_constant op) w (right_node op over) ns ≡ record { nodes = ns; id = over.source }
shift_right ops.Shl w over ns h = refl
shift_right ops.Shr w over ns h = refl
shift_right ops.Sar w over ns h = refl
shift_right _ w over ns h = absurd (false≢true h)

module _ (ns : List Node) (sheet : IsSheet ns) (w : ℕ) (some : 0 < w) (word : w ≤ 64) (id : NodeId) where
  -- a constant, or else a node: the sheet goes on
  pub constant_sheet : (c : Option ℕ) → IsBit c → Extends ns (constant_or c w id ns).nodes × IsSheet (constant_or c w id ns).nodes
  constant_sheet None small = (same_extends ns, sheet)
  constant_sheet (Some v) small =
      let b : IsBuilt ns (Const w v) (made ns (Const w v)) = made_built ns sheet (Const w v) (some, word, small_word w v some small) in
      (b.extends, b.sheet)

  -- and it is worth what it stands for
  pub constant_worth : (c : Option ℕ) → IsBit c → (v : Environment → ℕ) → (c ≡ None → IsWorth ns w id v)
      → IsWorth (constant_or c w id ns).nodes w (constant_or c w id ns).id (λ e. constant_value c (v e))
  constant_worth None small v h = h refl
  constant_worth (Some n) small v h =
      let b : IsBuilt ns (Const w n) (made ns (Const w n)) = made_built ns sheet (Const w n) (some, word, small_word w n some small) in
      record { width = (b.inside, b.width); value = b.value }

worth_same : (ns : List Node) (w : ℕ) (id : NodeId) (u v : Environment → ℕ) → ((e : Environment) → u e ≡ v e) → IsWorth ns w id u → IsWorth ns w id v
worth_same ns w id u v same h = record { width = h.width; value = λ e. h.value e ∙ same e }

module _ (ns : List Node) (sheet : IsSheet ns) (op : Op) (w k : ℕ) (over : RowNodes) (some : 0 < w) (word : w ≤ 64)
    (are : AreRowNodes ns op w over) (row : HasRowWidth op w k) (computes : computes_word op ≡ true) where
  pub widths_named : AllByRecursion (λ i. width_at ns (row_leaf over i).0 ≡ row_widths op w i) (leaves_of (row_expr op w k))
  widths_named = named_leaves (λ i. width_at ns (row_leaf over i).0 ≡ row_widths op w i) w k op computes are.destination are.source are.condition

  abbrev result : Made
  result = built ns (row_leaf over) (row_expr op w k)

  abbrev left : Made
  left = constant_or (left_constant op) w over.destination result.nodes

  abbrev right : Made
  right = constant_or (right_constant op) w (right_node op over) left.nodes

  V : HasValue ns (row_leaf over) (row_expr op w k) result
  V = row_has_value ns (row_leaf over) op w k sheet are.inside row widths_named

  result_worth : IsWorth result.nodes w result.id (λ e. value (λ i. value_at e ns (row_leaf over i).0) (row_expr op w k))
  result_worth =
      let formed = formed_by_leaves (row_widths op w) (λ i. width_at ns (row_leaf over i).0) w (row_expr op w k) widths_named (rows_formed op w k row) in
      record { width = (V.inside, V.width ∙ formed.width); value = V.value }

  L : Extends result.nodes left.nodes × IsSheet left.nodes
  L = constant_sheet result.nodes V.sheet w some word over.destination (left_constant op) (small_left op)

  R : Extends left.nodes right.nodes × IsSheet right.nodes
  R = constant_sheet left.nodes L.1 w some word (right_node op over) (right_constant op) (small_right op)

  -- a node of the row in a later sheet
  leaf_worth : (later : List Node) → Extends ns later → (id : NodeId) → id.0 < length ns → width_at ns id.0 ≡ w → IsWorth later w id (λ e. value_at e ns id.0)
  leaf_worth later ext id inside wide =
      worth_later ns later sheet ext w id (λ e. value_at e ns id.0) (record { width = (inside, wide); value = λ e. refl })

  left_worth : sets_flags op ≡ true → IsWorth right.nodes w left.id (λ e. left_operand op (value_at e ns over.destination.0))
  left_worth sets =
      worth_later left.nodes right.nodes L.1 R.0 w left.id (λ e. left_operand op (value_at e ns over.destination.0))
      (worth_same left.nodes w left.id (λ e. constant_value (left_constant op) (value_at e ns over.destination.0)) (λ e. left_operand op (value_at e ns over.destination.0))
      (λ e. left_is op (value_at e ns over.destination.0))
      (constant_worth result.nodes V.sheet w some word over.destination (left_constant op) (small_left op) (λ e. value_at e ns over.destination.0)
      (λ none. leaf_worth result.nodes V.extends over.destination (are.inside 0) (are.destination (sets_reads op sets)))))

  right_inside : (op : Op) → (right_node op over).0 < length ns
  right_inside ops.Neg = are.inside 0
  right_inside _ = are.inside 1

  right_worth : sets_flags op ≡ true
      → IsWorth right.nodes w right.id (λ e. right_operand op (value_at e ns over.destination.0) (value_at e ns over.source.0))
  right_worth sets =
      worth_same right.nodes w right.id (λ e. constant_value (right_constant op) (value_at e ns (right_node op over).0))
      (λ e. right_operand op (value_at e ns over.destination.0) (value_at e ns over.source.0))
      (λ e. ap (constant_value (right_constant op)) (right_node_value op over (λ id. value_at e ns id.0))
      ∙ right_is op (value_at e ns over.destination.0) (value_at e ns over.source.0))
      (constant_worth left.nodes L.1 w some word (right_node op over) (right_constant op) (small_right op) (λ e. value_at e ns (right_node op over).0)
      (λ none. leaf_worth left.nodes (extends_trans ns result.nodes left.nodes V.extends L.0) (right_node op over) (right_inside op)
      (right_wide op w over (λ id. width_at ns id.0) sets are.destination are.source none)))

  pub row_is_made : IsRowMade ns op w k over (row_made op w k over ns)
  unfolding row_made
  row_is_made = record {
    extends = extends_trans ns left.nodes right.nodes (extends_trans ns result.nodes left.nodes V.extends L.0) R.0;
    sheet = R.1;
    result = worth_later result.nodes right.nodes V.sheet (extends_trans result.nodes left.nodes right.nodes L.0 R.0) w result.id
        (λ e. value (λ i. value_at e ns (row_leaf over i).0) (row_expr op w k)) result_worth;
    left = left_worth;
    right = right_worth;
    count = λ shift. ap (λ (m : Made). m.id) (shift_right op w over left.nodes shift);
  }

-- building a constant adds nodes only
constant_extends : (ns : List Node) (c : Option ℕ) (w : ℕ) (id : NodeId) → Extends ns (constant_or c w id ns).nodes
constant_extends ns None w id = same_extends ns
constant_extends ns (Some v) w id = made_extends ns (Const w v)

-- what is too long after the result is too long after all
pub result_too_long : (ns : List Node) (op : Op) (w k : ℕ) (over : RowNodes) → 65536 < length (built ns (row_leaf over) (row_expr op w k)).nodes
    → 65536 < length (row_made op w k over ns).nodes
unfolding row_made
result_too_long ns op w k over h =
    let result : Made = built ns (row_leaf over) (row_expr op w k) in
    let left : Made = constant_or (left_constant op) w over.destination result.nodes in
    let right : Made = constant_or (right_constant op) w (right_node op over) left.nodes in
    still_longer result.nodes right.nodes
    (extends_trans result.nodes left.nodes right.nodes (constant_extends result.nodes (left_constant op) w over.destination)
    (constant_extends left.nodes (right_constant op) w (right_node op over))) h
