-- What a general instruction builds is worth what its row says.
use Rattle.std.proofs.Common.{◌≡◌, ℕ, zero, suc, ◌<◌, ◌≤◌, ◌==◌, ◌&&◌, Bool, true, false, List, [], ◌∷◌, Option, Some, None, length, map, refl, sym, ◌∙◌, ap, subst, arith, inl, inr}
use Rattle.std.specs.Prelude.{if◌then◌else◌, is_some, unwrap_or}
use Rattle.std.specs.List.{AllByRecursion}
use Rattle.std.proofs.lemmas.Bool.{cases_Bool, false≢true, true≢false}
use Rattle.std.proofs.lemmas.List.{get_or_past}
use Rattle.insn_ops.specs.declared.op.Cond.{Cond}
use Rattle.insn_ops.specs.declared.op.Op.{Op}
use Rattle.insn_ops.specs.declared.op.Op.TheVariants as ops
use Rattle.insn_semantics.specs.Exprs.{leaves_of, value}
use Rattle.insn_semantics.specs.FlagRules.{flag_by_rule, flag_leaves, flags_after, left_operand, right_operand}
use Rattle.insn_semantics.specs.FormedRows.{HasRowWidth, row_widths, source_leaf_width}
use Rattle.insn_semantics.specs.OperationGroups.{is_shift, sets_flags}
use Rattle.insn_semantics.specs.Rows.{computed, row_expr}
use Rattle.insn_table.specs.declared.insn.Insn.{Insn}
use Rattle.insn_table.specs.declared.insn.Operand.TheVariants.{Imm}
use Rattle.machine.specs.Access.{writes}
use Rattle.machine.specs.Family.{condition_of, family_of}
use Rattle.machine.specs.Runnable.{HasCount, HasRowOf, HasWidth}
use Rattle.machine.specs.Step.{operand_leaves}
use Rattle.node_values.specs.declared.node.Node.{Node}
use Rattle.node_values.specs.declared.node.NodeId.{NodeId}
use Rattle.node_values.specs.Sheets.{Extends, IsSheet, value_at, width_at}
use Rattle.node_values.specs.Values.{Environment, node_value}
use Rattle.node_values.proofs.SheetLaws.{value_at-is}
use Rattle.terms.specs.Rules.{number_at}
use Rattle.address_nodes.specs.Multiples.{IsOfWidth}
use Rattle.address_nodes.proofs.Growing.{extends_trans, later_value, same_extends, stays}
use Rattle.sym_rows.specs.declared.operands.RowNodes.{RowNodes}
use Rattle.sym_rows.specs.declared.lazy_flags.SymFlag.{SymFlag}
use Rattle.sym_rows.specs.declared.lazy_flags.SymFlag.TheVariants.{From}
use Rattle.sym_rows.specs.FlagExprs.{flag_rule}
use Rattle.sym_rows.specs.LazyFlags.{shift_count}
use Rattle.sym_rows.specs.Leaves.{AreLeaves, flag_leaf, row_leaf}
use Rattle.sym_rows.proofs.Staying.{kept_count}
use Rattle.sym_general.specs.Applied.{Applied, WithRow, computes_word, flag_by, flags_by, general_applied, row_applied, row_made}
use Rattle.sym_general.specs.Operands.{AreOperands, HoldWords, destination_at, node_of, operand_count, reads_destination, reads_source, row_nodes, source_at}
use Rattle.sym_general.specs.PathFlags.{AreFlags, FlagsStay, IsFlag, WithCondition, condition_made, condition_word, flag_of, flag_value, flags_in, flags_read_by, numbered, some_unset}
use Rattle.sym_general.specs.Results.{IsCondition, IsGeneral, IsGeneralMade}
use Rattle.sym_general.proofs.ConditionsMade.{IsConditionMade, condition_is_made}
use Rattle.sym_general.proofs.FlagReads.{flags_later, stay_trans}
use Rattle.sym_rows.proofs.LeafValues.{values_agree}
use Rattle.sym_general.proofs.NamedLeaves.{named_leaves}
use Rattle.sym_general.proofs.RowFlags.{flag_by_is, flag_by_value, row_counted, rules_counted, rules_kept}
use Rattle.sym_general.proofs.RowNodes.{AreRowNodes, IsRowMade, row_is_made, sets_reads, widths_named}
use Rattle.sym_general.proofs.RowWidths.{general_bits, runnable_rows}

-- a shift has its count
has_count : (op : Op) (i : Insn) → HasRowOf op i → is_shift op ≡ true → HasCount i
has_count ops.Shl i row h = row
has_count ops.Shr i row h = row
has_count ops.Sar i row h = row
has_count _ i row h = absurd (false≢true h)

-- what a row reads: an operand or a condition
data ReadsSome (op : Op) : Type 0 where
  Destination : reads_destination op ≡ true → ReadsSome op
  Source : reads_source op ≡ true → ReadsSome op
  Condition : is_some (condition_of op) ≡ true → ReadsSome op

reads_some : (op : Op) → computes_word op ≡ true → ReadsSome op
reads_some ops.Mov h = Source refl
reads_some ops.Movabs h = Source refl
reads_some ops.Lea h = Source refl
reads_some (ops.Movzx m) h = Source refl
reads_some (ops.Movsx m) h = Source refl
reads_some ops.Cltq h = Source refl
reads_some (ops.Set c) h = Condition refl
reads_some (ops.Jump c) h = Condition refl
reads_some ops.Jmp h = absurd (false≢true h)
reads_some ops.Push h = absurd (false≢true h)
reads_some ops.Pop h = absurd (false≢true h)
reads_some ops.Ret h = absurd (false≢true h)
reads_some ops.Nop h = absurd (false≢true h)
reads_some ops.Endbr64 h = absurd (false≢true h)
reads_some (ops.Vector v) h = absurd (false≢true h)
reads_some _ h = Destination refl

-- each place of a row holds an operand that it reads, or one past the end
module _ (P : NodeId → Type 0) (args : List NodeId) (past : (n : ℕ) → length args ≤ n → P (node_of args n)) where
  at_destination : (op : Op) → computes_word op ≡ true → length args ≡ operand_count op
      → (reads_destination op ≡ true → P (node_of args (destination_at op))) → (reads_source op ≡ true → P (node_of args (source_at op)))
      → P (node_of args (destination_at op))
  at_destination ops.Mov h count d s = s refl
  at_destination ops.Movabs h count d s = s refl
  at_destination ops.Lea h count d s = s refl
  at_destination (ops.Movzx m) h count d s = s refl
  at_destination (ops.Movsx m) h count d s = s refl
  at_destination ops.Cltq h count d s = s refl
  at_destination (ops.Set c) h count d s = past 0 (omega (arith, count))
  at_destination (ops.Jump c) h count d s = absurd (false≢true h)
  at_destination ops.Jmp h count d s = absurd (false≢true h)
  at_destination ops.Push h count d s = absurd (false≢true h)
  at_destination ops.Pop h count d s = absurd (false≢true h)
  at_destination ops.Ret h count d s = absurd (false≢true h)
  at_destination ops.Nop h count d s = absurd (false≢true h)
  at_destination ops.Endbr64 h count d s = absurd (false≢true h)
  at_destination (ops.Vector v) h count d s = absurd (false≢true h)
  at_destination _ h count d s = d refl

  at_source : (op : Op) → computes_word op ≡ true → length args ≡ operand_count op → (reads_source op ≡ true → P (node_of args (source_at op)))
      → P (node_of args (source_at op))
  at_source ops.Inc h count s = past 1 (omega (arith, count))
  at_source ops.Dec h count s = past 1 (omega (arith, count))
  at_source ops.Neg h count s = past 1 (omega (arith, count))
  at_source ops.Not h count s = past 1 (omega (arith, count))
  at_source (ops.Set c) h count s = past 0 (omega (arith, count))
  at_source (ops.Jump c) h count s = absurd (false≢true h)
  at_source ops.Jmp h count s = absurd (false≢true h)
  at_source ops.Push h count s = absurd (false≢true h)
  at_source ops.Pop h count s = absurd (false≢true h)
  at_source ops.Ret h count s = absurd (false≢true h)
  at_source ops.Nop h count s = absurd (false≢true h)
  at_source ops.Endbr64 h count s = absurd (false≢true h)
  at_source (ops.Vector v) h count s = absurd (false≢true h)
  at_source _ h count s = s refl

-- the node of a condition that is read
module _ (path : List SymFlag) (ns mid : List Node) where
  cond_bit : (cond : Option Cond) (c : Option NodeId) → IsCondition cond path ns mid c → is_some cond ≡ true → IsOfWidth mid 1 (unwrap_or c (record { 0 = 0 }))
  cond_bit None c is some = absurd (false≢true some)
  cond_bit (Some cond) None is some = absurd is
  cond_bit (Some cond) (Some id) is some = is.0

  cond_value : (cond : Option Cond) (c : Option NodeId) → IsCondition cond path ns mid c → is_some cond ≡ true → (e : Environment)
      → value_at e mid (unwrap_or c (record { 0 = 0 })).0 ≡ condition_word e ns path cond
  cond_value None c is some e = absurd (false≢true some)
  cond_value (Some cond) None is some e = absurd is
  cond_value (Some cond) (Some id) is some e = is.1 e

  cond_inside : (cond : Option Cond) (c : Option NodeId) → IsCondition cond path ns mid c → 0 < length mid → (unwrap_or c (record { 0 = 0 })).0 < length mid
  cond_inside None None is some = some
  cond_inside None (Some id) is some = absurd is
  cond_inside (Some cond) None is some = absurd is
  cond_inside (Some cond) (Some id) is some = is.0.0

  cond_later : (later : List Node) → IsSheet mid → Extends mid later → (cond : Option Cond) (c : Option NodeId)
      → IsCondition cond path ns mid c → IsCondition cond path ns later c
  cond_later later sheet ext None None is = tt
  cond_later later sheet ext None (Some id) is = is
  cond_later later sheet ext (Some cond) None is = is
  cond_later later sheet ext (Some cond) (Some id) is =
      (stays mid sheet later ext 1 id is.0, λ e. later_value mid sheet later ext e id.0 is.0.0 ∙ is.1 e)

-- where an operation sets flags, its condition is none, and only what it reads counts
computed_is : (op : Op) (w d s c : ℕ) → sets_flags op ≡ true → value (operand_leaves d s c) (row_expr op w s) ≡ computed op w d s
computed_is ops.Add w d s c h = refl
computed_is ops.Sub w d s c h = refl
computed_is ops.Cmp w d s c h = refl
computed_is ops.Inc w d s c h = refl
computed_is ops.Dec w d s c h = refl
computed_is ops.Neg w d s c h = refl
computed_is ops.Test w d s c h = refl
computed_is ops.And w d s c h = refl
computed_is ops.Or w d s c h = refl
computed_is ops.Xor w d s c h = refl
computed_is ops.Shl w d s c h = refl
computed_is ops.Shr w d s c h = refl
computed_is ops.Sar w d s c h = refl
computed_is _ w d s c h = absurd (false≢true h)

right_read : (op : Op) (a b s : ℕ) → sets_flags op ≡ true → (reads_source op ≡ true → b ≡ s) → right_operand op a b ≡ right_operand op a s
right_read ops.Add a b s h e = e refl
right_read ops.Sub a b s h e = e refl
right_read ops.Cmp a b s h e = e refl
right_read ops.Inc a b s h e = refl
right_read ops.Dec a b s h e = refl
right_read ops.Neg a b s h e = refl
right_read ops.Test a b s h e = e refl
right_read ops.And a b s h e = e refl
right_read ops.Or a b s h e = e refl
right_read ops.Xor a b s h e = e refl
right_read ops.Shl a b s h e = e refl
right_read ops.Shr a b s h e = e refl
right_read ops.Sar a b s h e = e refl
right_read _ a b s h e = absurd (false≢true h)

-- the word that is written
written : (b c : Bool) → c ≡ true → (F : NodeId → ℕ) (r : NodeId) (v : ℕ) → F r ≡ v
    → map F (if b then r ∷ [] else []) ≡ (if c && b then v ∷ [] else [])
written true true h F r v e = ap (λ x. x ∷ []) e
written false true h F r v e = refl
written b false h F r v e = absurd (false≢true h)

written_wide : (b : Bool) (ns : List Node) (w : ℕ) (r : NodeId) → IsOfWidth ns w r → AllByRecursion (IsOfWidth ns w) (if b then r ∷ [] else [])
written_wide true ns w r h = (h, tt)
written_wide false ns w r h = tt

-- flags of a path are worth in a later sheet what they were
stay_value : (ns later : List Node) (path path_later : List SymFlag) → FlagsStay ns path later path_later → (e : Environment) (i : ℕ)
    → flag_value e later (numbered i) (flag_of path_later i) ≡ flag_value e ns (numbered i) (flag_of path i)
stay_value ns later path path_later S e i = λ t. if S.unset i t then None else Some (S.words e i t == 1)

past_end : (args : List NodeId) (n : ℕ) (m : ℕ) → 0 < m → length args ≤ n → (node_of args n).0 < m
past_end args n m some h = subst (λ (id : NodeId). id.0 < m) (sym (get_or_past args n (record { 0 = 0 }) h)) some

-- the nodes of a row after a condition, and its widths
pub record IsReady (i : Insn) (args : List NodeId) (t : WithCondition) : Type 0 where
  pub over : AreRowNodes t.nodes i.op i.w (row_nodes i.op args t.cond)
  pub row : HasRowWidth i.op i.w (shift_count t.nodes i.op (node_of args (source_at i.op)))
  pub widths : AllByRecursion (λ j. width_at t.nodes (row_leaf (row_nodes i.op args t.cond) j).0 ≡ row_widths i.op i.w j)
      (leaves_of (row_expr i.op i.w (shift_count t.nodes i.op (node_of args (source_at i.op)))))

module _ (ns : List Node) (i : Insn) (args : List NodeId) (path : List SymFlag) (sheet : IsSheet ns) (g : IsGeneral i.op)
    (width : HasWidth (family_of i.op) i.w) (row : HasRowOf i.op i) (are : AreOperands ns i args) (flags : AreFlags ns path) (five : length path ≡ 5)
    (set : some_unset path (flags_read_by (condition_of i.op)) ≡ false) where
  abbrev test : WithCondition
  test = condition_made (condition_of i.op) path ns

  abbrev source : NodeId
  source = node_of args (source_at i.op)

  abbrev destination : NodeId
  destination = node_of args (destination_at i.op)

  pub test_made : IsConditionMade ns path (condition_of i.op) test
  test_made = condition_is_made ns path (condition_of i.op) sheet flags five set

  abbrev E : Extends ns test.nodes
  E = test_made.stay.extends

  pub destination_wide : reads_destination i.op ≡ true → IsOfWidth test.nodes i.w destination
  destination_wide h = stays ns sheet test.nodes E i.w destination (are.destination h)

  pub source_wide : reads_source i.op ≡ true → IsOfWidth test.nodes (source_leaf_width i.op i.w) source
  source_wide h = stays ns sheet test.nodes E (source_leaf_width i.op i.w) source (are.source h)

  shift_source : is_shift i.op ≡ true → reads_source i.op ≡ true
  shift_source h = by_op i.op h
    where
      by_op : (op : Op) → is_shift op ≡ true → reads_source op ≡ true
      by_op ops.Shl h = refl
      by_op ops.Shr h = refl
      by_op ops.Sar h = refl
      by_op _ h = absurd (false≢true h)

  abbrev k : ℕ
  k = shift_count test.nodes i.op source

  -- the count of a shift is its constant
  counted_by : (h : is_shift i.op ≡ true) → k ≡ (has_count i.op i row h).count
  counted_by h =
      let C : HasCount i = has_count i.op i row h in
      kept_count ns test.nodes sheet E i.op source (are.source (shift_source h)).0
      ∙ (λ t. if h t then number_at ns source.0 else 0)
      ∙ ap (λ (n : Node). number_at (n ∷ []) 0) (are.shift h C.count C.source)

  pub row_wide : HasRowWidth i.op i.w k
  row_wide = runnable_rows i k g width row (λ h. (has_count i.op i row h).source ∙ ap Imm (sym (counted_by h)))

  counted_value : (e : Environment) (d s : ℕ) → HoldWords e ns i.op args d s → is_shift i.op ≡ true → k ≡ s
  counted_value e d s hold h =
      let C : HasCount i = has_count i.op i row h in
      counted_by h
      ∙ sym (value_at-is ns sheet e source.0 (are.source (shift_source h)).0
      ∙ ap (node_value e (width_at ns) (value_at e ns)) (are.shift h C.count C.source))
      ∙ hold.source (shift_source h)

  module _ (computes : computes_word i.op ≡ true) where
    pub some_node : 0 < length test.nodes
    some_node = of_reads (reads_some i.op computes)
      where
        of_reads : ReadsSome i.op → 0 < length test.nodes
        of_reads (Destination h) = omega (arith, (destination_wide h).0)
        of_reads (Source h) = omega (arith, (source_wide h).0)
        of_reads (Condition h) = omega (arith, (cond_bit path ns test.nodes (condition_of i.op) test.cond test_made.word h).0)

    abbrev over : RowNodes
    over = row_nodes i.op args test.cond

    leaf_inside : (j : ℕ) → (row_leaf over j).0 < length test.nodes
    leaf_inside zero =
        at_destination (λ (id : NodeId). id.0 < length test.nodes) args (λ n past. past_end args n (length test.nodes) some_node past) i.op computes are.count
        (λ h. (destination_wide h).0) (λ h. (source_wide h).0)
    leaf_inside (suc zero) =
        at_source (λ (id : NodeId). id.0 < length test.nodes) args (λ n past. past_end args n (length test.nodes) some_node past) i.op computes are.count
        (λ h. (source_wide h).0)
    leaf_inside (suc (suc j)) = cond_inside path ns test.nodes (condition_of i.op) test.cond test_made.word some_node

    pub are_row_nodes : AreRowNodes test.nodes i.op i.w over
    are_row_nodes = record {
      inside = leaf_inside;
      destination = λ h. (destination_wide h).1;
      source = λ h. (source_wide h).1;
      condition = λ h. (cond_bit path ns test.nodes (condition_of i.op) test.cond test_made.word h).1;
    }

    pub some_bits : 0 < i.w
    some_bits = omega (arith, (general_bits i g width).0)

    pub row_is : IsRowMade test.nodes i.op i.w k over (row_made i.op i.w k over test.nodes)
    row_is = row_is_made test.nodes test_made.sheet i.op i.w k over some_bits (general_bits i g width).1 are_row_nodes row_wide computes

    abbrev made_row : WithRow
    made_row = row_made i.op i.w k over test.nodes

    abbrev C : Environment → ℕ
    C e = condition_word e ns path (condition_of i.op)

    module _ (e : Environment) (d s : ℕ) (hold : HoldWords e ns i.op args d s) where
      d_is : reads_destination i.op ≡ true → value_at e test.nodes destination.0 ≡ d
      d_is h = later_value ns sheet test.nodes E e destination.0 (are.destination h).0 ∙ hold.destination h

      s_is : reads_source i.op ≡ true → value_at e test.nodes source.0 ≡ s
      s_is h = later_value ns sheet test.nodes E e source.0 (are.source h).0 ∙ hold.source h

      result_is : value (λ j. value_at e test.nodes (row_leaf over j).0) (row_expr i.op i.w k) ≡ value (operand_leaves d s (C e)) (row_expr i.op i.w s)
      result_is =
          let f : ℕ → ℕ = λ j. value_at e test.nodes (row_leaf over j).0 in
          values_agree f (operand_leaves d s (C e)) (row_expr i.op i.w k)
          (named_leaves (λ j. value_at e test.nodes (row_leaf over j).0 ≡ operand_leaves d s (C e) j) i.w k i.op computes d_is s_is
          (λ h. cond_value path ns test.nodes (condition_of i.op) test.cond test_made.word h e))
          ∙ ap (value (operand_leaves d s (C e))) (row_counted i.op i.w k s (counted_value e d s hold))

      abbrev L : ℕ → ℕ
      L = flag_leaves (computed i.op i.w d s) (left_operand i.op d) (right_operand i.op d s)

      flag_words : sets_flags i.op ≡ true → (j : ℕ) → value_at e made_row.nodes (flag_leaf made_row.over j).0 ≡ L j
      flag_words sets zero = row_is.result.value e ∙ result_is ∙ computed_is i.op i.w d s (C e) sets
      flag_words sets (suc zero) = (row_is.left sets).value e ∙ ap (left_operand i.op) (d_is (sets_reads i.op sets))
      flag_words sets (suc (suc j)) =
          (row_is.right sets).value e ∙ ap (λ a. right_operand i.op a (value_at e test.nodes source.0)) (d_is (sets_reads i.op sets))
          ∙ right_read i.op d (value_at e test.nodes source.0) s sets s_is

    abbrev new : SymFlag
    new = From i.op i.w made_row.over

    flag_nodes : sets_flags i.op ≡ true → AreLeaves i.w made_row.nodes (flag_leaf made_row.over)
    flag_nodes sets = record { inside = λ j. (node_wide j).0; widths = λ j. (node_wide j).1 }
      where
        node_wide : (j : ℕ) → IsOfWidth made_row.nodes i.w (flag_leaf made_row.over j)
        node_wide zero = row_is.result.width
        node_wide (suc zero) = (row_is.left sets).width
        node_wide (suc (suc j)) = (row_is.right sets).width

    same_count : shift_count made_row.nodes i.op made_row.over.right ≡ k
    same_count = elim (cases_Bool (is_shift i.op)) [
      | inl shift ↦
          ap (λ (id : NodeId). shift_count made_row.nodes i.op id) (row_is.count shift)
          ∙ kept_count test.nodes made_row.nodes test_made.sheet row_is.extends i.op source (leaf_inside 1)
      | inr none ↦ rw none refl
    ]

    stay : FlagsStay ns path made_row.nodes test.flags
    stay =
        stay_trans ns test.nodes made_row.nodes path test.flags test.flags test_made.stay
        (flags_later test.nodes made_row.nodes test_made.sheet row_is.extends test.flags test_made.stay.flags)

    one_flag : (j : ℕ) → IsFlag made_row.nodes (numbered j) (flag_by (flag_rule (numbered j) i.op i.w k) (flag_of test.flags j) new)
    one_flag j =
        flag_by_is ns made_row.nodes (numbered j) i.op i.w k made_row.over (general_bits i g width).0 (general_bits i g width).1 row_wide same_count flag_nodes
        (flag_rule (numbered j) i.op i.w k) refl (flag_of test.flags j) (stay.flags j)

    flags_made : AreFlags made_row.nodes (flags_by i.op i.w k test.flags new)
    flags_made zero = one_flag 0
    flags_made (suc zero) = one_flag 1
    flags_made (suc (suc zero)) = one_flag 2
    flags_made (suc (suc (suc zero))) = one_flag 3
    flags_made (suc (suc (suc (suc zero)))) = one_flag 4
    flags_made (suc (suc (suc (suc (suc j))))) = λ set. absurd (true≢false set)

    module _ (e : Environment) (d s : ℕ) (hold : HoldWords e ns i.op args d s) where
      one_value : (j : ℕ) → flag_value e made_row.nodes (numbered j) (flag_by (flag_rule (numbered j) i.op i.w k) (flag_of test.flags j) new)
          ≡ flag_by_rule (L e d s hold) (flag_rule (numbered j) i.op i.w s) (flag_value e ns (numbered j) (flag_of path j))
      one_value j =
          flag_by_value ns made_row.nodes (numbered j) i.op i.w k made_row.over (general_bits i g width).0 (general_bits i g width).1 row_wide same_count flag_nodes
          e (L e d s hold) (flag_words e d s hold) (flag_rule (numbered j) i.op i.w k) refl (flag_of test.flags j) (flag_of path j)
          (stay_value ns made_row.nodes path test.flags stay e j)
          ∙ ap (λ r. flag_by_rule (L e d s hold) r (flag_value e ns (numbered j) (flag_of path j))) (rules_counted (numbered j) i.op i.w k s (counted_value e d s hold))

      flags_are : flags_in e made_row.nodes (flags_by i.op i.w k test.flags new) ≡ flags_after i.op i.w d s (flags_in e ns path)
      unfolding flags_after
      flags_are = λ t. record { cf = one_value 0 t; pf = one_value 1 t; zf = one_value 2 t; sf = one_value 3 t; of = one_value 4 t }

    pub row_general : IsGeneralMade ns i args path (row_applied i.op i.w args test)
    row_general = record {
      extends = extends_trans ns test.nodes made_row.nodes E row_is.extends;
      sheet = row_is.sheet;
      words = λ e d s hold. written (writes i.op) (computes_word i.op) computes (λ (v : NodeId). value_at e made_row.nodes v.0) made_row.over.result
          (value (operand_leaves d s (C e)) (row_expr i.op i.w s)) (row_is.result.value e ∙ result_is e d s hold);
      widths = written_wide (writes i.op) made_row.nodes i.w made_row.over.result row_is.result.width;
      cond = cond_later path ns test.nodes made_row.nodes test_made.sheet row_is.extends (condition_of i.op) test.cond test_made.word;
      flags = flags_made;
      left = flags_are;
    }

    -- what the row's code needs after the condition
    pub ready : IsReady i args test
    ready = record {
      over = are_row_nodes;
      row = row_wide;
      widths = widths_named test.nodes test_made.sheet i.op i.w k over some_bits (general_bits i g width).1 are_row_nodes row_wide computes;
    }

    pub general_is_row : general_applied i.op i.w args path ns ≡ row_applied i.op i.w args test
    unfolding general_applied
    general_is_row = ap (λ b. if b then row_applied i.op i.w args test else record { nodes = test.nodes; values = []; flags = test.flags; cond = test.cond }) computes

  -- an operation that computes no word
  module _ (none : computes_word i.op ≡ false) where
    pub general_is_condition : general_applied i.op i.w args path ns ≡ record { nodes = test.nodes; values = []; flags = test.flags; cond = test.cond }
    unfolding general_applied
    general_is_condition = ap (λ b. if b then row_applied i.op i.w args test else record { nodes = test.nodes; values = []; flags = test.flags; cond = test.cond }) none

    kept_value : (e : Environment) (L : ℕ → ℕ) (s j : ℕ)
        → flag_value e test.nodes (numbered j) (flag_of test.flags j) ≡ flag_by_rule L (flag_rule (numbered j) i.op i.w s) (flag_value e ns (numbered j) (flag_of path j))
    kept_value e L s j =
        stay_value ns test.nodes path test.flags test_made.stay e j
        ∙ ap (λ r. flag_by_rule L r (flag_value e ns (numbered j) (flag_of path j))) (sym (rules_kept (numbered j) i.op i.w s none))

    flags_stay : (e : Environment) (d s : ℕ) → flags_in e test.nodes test.flags ≡ flags_after i.op i.w d s (flags_in e ns path)
    unfolding flags_after
    flags_stay e d s =
        let L : ℕ → ℕ = flag_leaves (computed i.op i.w d s) (left_operand i.op d) (right_operand i.op d s) in
        λ t. record { cf = kept_value e L s 0 t; pf = kept_value e L s 1 t; zf = kept_value e L s 2 t; sf = kept_value e L s 3 t; of = kept_value e L s 4 t }

    pub condition_general : IsGeneralMade ns i args path (record { nodes = test.nodes; values = []; flags = test.flags; cond = test.cond })
    condition_general = record {
      extends = E;
      sheet = test_made.sheet;
      words = λ e d s hold. λ t. if sym none t && writes i.op then value (operand_leaves d s (condition_word e ns path (condition_of i.op))) (row_expr i.op i.w s) ∷ [] else [];
      widths = tt;
      cond = test_made.word;
      flags = test_made.stay.flags;
      left = λ e d s hold. flags_stay e d s;
    }

  pub general_is_made : IsGeneralMade ns i args path (general_applied i.op i.w args path ns)
  unfolding general_applied
  general_is_made = elim (cases_Bool (computes_word i.op)) [
    | inl computes ↦ subst (λ b. IsGeneralMade ns i args path (if b then row_applied i.op i.w args test else record { nodes = test.nodes; values = []; flags = test.flags; cond = test.cond })) (sym computes) (row_general computes)
    | inr none ↦ subst (λ b. IsGeneralMade ns i args path (if b then row_applied i.op i.w args test else record { nodes = test.nodes; values = []; flags = test.flags; cond = test.cond })) (sym none) (condition_general none)
  ]

  pub general_extends : Extends test.nodes (general_applied i.op i.w args path ns).nodes
  general_extends = elim (cases_Bool (computes_word i.op)) [
    | inl computes ↦ subst (λ (a : Applied). Extends test.nodes a.nodes) (sym (general_is_row computes)) (row_is computes).extends
    | inr none ↦ subst (λ (a : Applied). Extends test.nodes a.nodes) (sym (general_is_condition none)) (same_extends test.nodes)
  ]
