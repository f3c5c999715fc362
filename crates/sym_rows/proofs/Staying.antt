-- A flag that is set stays so while the sheet grows, and keeps its word.
use Rattle.std.proofs.Common.{◌≡◌, ℕ, ◌<◌, List, [], ◌∷◌, length, get_or, refl, sym, ◌∙◌, ap, subst, arith}
use Rattle.std.specs.Prelude.{if◌then◌else◌}
use Rattle.std.proofs.Math.ListN.{get_or-append}
use Rattle.insn_ops.specs.declared.op.Op.{Op}
use Rattle.insn_semantics.specs.Exprs.{value}
use Rattle.insn_semantics.specs.FormedRows.{HasRowWidth}
use Rattle.insn_semantics.specs.OperationGroups.{is_shift}
use Rattle.node_values.specs.declared.node.Node.{Node}
use Rattle.node_values.specs.declared.node.Node.TheVariants.{Const}
use Rattle.node_values.specs.declared.node.NodeId.{NodeId}
use Rattle.node_values.specs.Sheets.{Extends, IsSheet, node_at, value_at, width_at}
use Rattle.node_values.specs.Values.{Environment}
use Rattle.node_values.proofs.SheetLaws.{value_at-append}
use Rattle.terms.specs.Rules.{number_at}
use Rattle.sym_rows.specs.declared.operands.Flag.{Flag}
use Rattle.sym_rows.specs.declared.operands.FlagNodes.{FlagNodes}
use Rattle.sym_rows.specs.declared.lazy_flags.SymFlag.{SymFlag}
use Rattle.sym_rows.specs.declared.lazy_flags.SymFlag.TheVariants.{Unset, From, Built}
use Rattle.sym_rows.specs.FlagExprs.{flag_expr, flag_rule}
use Rattle.sym_rows.specs.LazyFlags.{IsSetFlag, IsSetting, SetsFlag, StaysSet, flag_word, shift_count}
use Rattle.sym_rows.specs.Leaves.{flag_leaf}
use Rattle.sym_rows.proofs.LeafWidths.{later_leaves}
use Rattle.sym_rows.proofs.Widths.{kept_length, kept_width}

module _ (ns later : List Node) (sheet : IsSheet ns) (ext : Extends ns later) where
  pub kept_value : (e : Environment) (i : ℕ) → i < length ns → value_at e later i ≡ value_at e ns i
  kept_value e i b = ap (λ l. value_at e l i) ext.1 ∙ sym (value_at-append ns sheet ext.0 e i b)

  pub kept_number : (i : ℕ) → i < length ns → number_at later i ≡ number_at ns i
  kept_number i b = ap (λ l. number_at l i) ext.1 ∙ ap (λ n. number_of n) (get_or-append ns ext.0 (Const 0 0) i b)
    where
      number_of : Node → ℕ
      number_of n = number_at (n ∷ []) 0

  pub kept_count : (op : Op) (right : NodeId) → right.0 < length ns → shift_count later op right ≡ shift_count ns op right
  kept_count op right b = ap (λ n. if is_shift op then n else 0) (kept_number right.0 b)

  module _ (which : Flag) (op : Op) (w : ℕ) (over : FlagNodes) (set : SetsFlag ns which op w over) where
    same_count : shift_count later op over.right ≡ shift_count ns op over.right
    same_count = kept_count op over.right (set.leaves.inside 2)

    from_stays : SetsFlag later which op w over
    from_stays = record {
      leaves = later_leaves w ns later (flag_leaf over) set.leaves (kept_length ns later ext) (kept_width ns later sheet ext);
      row = subst (HasRowWidth op w) (sym same_count) set.row;
      byte = set.byte;
      word = set.word;
      sets = subst (λ k. IsSetting (flag_rule which op w k)) (sym same_count) set.sets;
    }

    from_word : (e : Environment) → flag_word e later which (From op w over) ≡ flag_word e ns which (From op w over)
    from_word e = λ t. value (λ i. kept_value e (flag_leaf over i).0 (set.leaves.inside i) t) (flag_expr which op w (same_count t))

  pub set_flag_stays : (which : Flag) (f : SymFlag) → IsSetFlag ns which f → StaysSet ns which f later
  set_flag_stays which Unset set = absurd set
  set_flag_stays which (From op w over) set = record { set = from_stays which op w over set; word = from_word which op w over set }
  set_flag_stays which (Built id) set = record {
    set = (omega_length id set.0, kept_width ns later sheet ext id.0 set.0 ∙ set.1);
    word = λ e. kept_value e id.0 set.0;
  }
    where
      omega_length : (id : NodeId) → id.0 < length ns → id.0 < length later
      omega_length id b = omega (arith, b, kept_length ns later ext)

pub set_flags_stay : (ns later : List Node) (which : Flag) (f : SymFlag) → IsSheet ns → Extends ns later → IsSetFlag ns which f
    → StaysSet ns which f later
set_flags_stay ns later which f sheet ext set = set_flag_stays ns later sheet ext which f set
