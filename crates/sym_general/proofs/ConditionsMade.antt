-- The condition that an operation reads, over flags that are read in turn.
use Rattle.std.proofs.Common.{◌≡◌, ℕ, zero, suc, ◌<◌, true, false, List, [], ◌∷◌, Option, Some, None, length, refl, sym, ◌∙◌, ap, subst, arith}
use Rattle.std.specs.Prelude.{slice_index_or}
use Rattle.std.specs.List.{AllByRecursion}
use Rattle.std.proofs.lemmas.Bool.{false≢true}
use Rattle.insn_ops.specs.declared.op.Cond.{Cond}
use Rattle.insn_ops.specs.declared.op.Cond.TheVariants as conds
use Rattle.insn_semantics.specs.Conditions.{cond_expr, cond_reads}
use Rattle.insn_semantics.specs.Formed.{expr_width}
use Rattle.insn_semantics.proofs.FormedLaws.{conds_formed}
use Rattle.node_values.specs.declared.node.Node.{Node}
use Rattle.node_values.specs.declared.node.NodeId.{NodeId}
use Rattle.node_values.specs.Sheets.{Extends, IsSheet, value_at, width_at}
use Rattle.node_values.specs.Values.{Environment}
use Rattle.terms.specs.Building.{built}
use Rattle.terms.specs.Made.{Made}
use Rattle.address_nodes.specs.Multiples.{IsOfWidth}
use Rattle.address_nodes.proofs.Growing.{same_extends}
use Rattle.sym_rows.specs.declared.operands.Flag.{Flag}
use Rattle.sym_rows.specs.declared.lazy_flags.SymFlag.{SymFlag}
use Rattle.sym_rows.specs.declared.lazy_flags.SymFlag.TheVariants.{Unset, From, Built}
use Rattle.sym_rows.specs.LazyFlags.{flag_word}
use Rattle.sym_rows.specs.Leaves.{AreLeaves, condition_leaf}
use Rattle.sym_rows.proofs.Values.{leaves_have_value}
use Rattle.sym_general.specs.PathFlags.{AreFlags, FlagsStay, IsFlag, WithCondition, WithFlags, condition_made, condition_nodes, condition_over, flag_of, flags_read, flags_read_by, node_of_flag, numbered, some_unset}
use Rattle.sym_general.specs.Results.{IsCondition}
use Rattle.sym_general.proofs.FlagReads.{AreRead, all_read, flags_later, is_node, stay_trans}
use Rattle.sym_rows.proofs.LeafValues.{values_agree}
use Rattle.sym_general.proofs.NamedLeaves.{condition_leaves, flags_numbered}

-- the node of a flag, else another node, is of one bit
node_of_bit : (ns : List Node) (which : Flag) (f : SymFlag) (other : NodeId) → IsFlag ns which f → IsOfWidth ns 1 other → IsOfWidth ns 1 (node_of_flag f other)
node_of_bit ns which Unset other h bit = bit
node_of_bit ns which (From op w over) other h bit = bit
node_of_bit ns which (Built id) other h bit = h refl

-- so is that of a flag that is a node
node_is_bit : (ns : List Node) (which : Flag) (f : SymFlag) (other : NodeId) → IsFlag ns which f → is_node f ≡ true → IsOfWidth ns 1 (node_of_flag f other)
node_is_bit ns which Unset other h is = absurd (false≢true is)
node_is_bit ns which (From op w over) other h is = absurd (false≢true is)
node_is_bit ns which (Built id) other h is = h refl

-- and it has the flag's word
node_has_word : (ns : List Node) (which : Flag) (f : SymFlag) (other : NodeId) (e : Environment) → is_node f ≡ true
    → value_at e ns (node_of_flag f other).0 ≡ flag_word e ns which f
node_has_word ns which Unset other e is = absurd (false≢true is)
node_has_word ns which (From op w over) other e is = absurd (false≢true is)
node_has_word ns which (Built id) other e is = refl

module _ (ns : List Node) (path : List SymFlag) (flags : AreFlags ns path) (first : ℕ) (node : is_node (flag_of path first) ≡ true) where
  abbrev read : NodeId
  read = node_of_flag (flag_of path first) (record { 0 = 0 })

  read_bit : IsOfWidth ns 1 read
  read_bit = node_is_bit ns (numbered first) (flag_of path first) (record { 0 = 0 }) (flags first) node

  leaf_bit : (i : ℕ) → IsOfWidth ns 1 (condition_leaf (condition_nodes path first) i)
  leaf_bit zero = node_of_bit ns (numbered 0) (flag_of path 0) read (flags 0) read_bit
  leaf_bit (suc zero) = node_of_bit ns (numbered 1) (flag_of path 1) read (flags 1) read_bit
  leaf_bit (suc (suc zero)) = node_of_bit ns (numbered 2) (flag_of path 2) read (flags 2) read_bit
  leaf_bit (suc (suc (suc zero))) = node_of_bit ns (numbered 3) (flag_of path 3) read (flags 3) read_bit
  leaf_bit (suc (suc (suc (suc i)))) = node_of_bit ns (numbered 4) (flag_of path 4) read (flags 4) read_bit

  pub are_leaves : AreLeaves 1 ns (condition_leaf (condition_nodes path first))
  are_leaves = record { inside = λ i. (leaf_bit i).0; widths = λ i. (leaf_bit i).1 }

  leaf_word : (e : Environment) (i : ℕ) → i < 5 → is_node (flag_of path i) ≡ true
      → value_at e ns (condition_leaf (condition_nodes path first) i).0 ≡ flag_word e ns (numbered i) (flag_of path i)
  leaf_word e zero b is = node_has_word ns (numbered 0) (flag_of path 0) read e is
  leaf_word e (suc zero) b is = node_has_word ns (numbered 1) (flag_of path 1) read e is
  leaf_word e (suc (suc zero)) b is = node_has_word ns (numbered 2) (flag_of path 2) read e is
  leaf_word e (suc (suc (suc zero))) b is = node_has_word ns (numbered 3) (flag_of path 3) read e is
  leaf_word e (suc (suc (suc (suc zero)))) b is = node_has_word ns (numbered 4) (flag_of path 4) read e is
  leaf_word e (suc (suc (suc (suc (suc i))))) b is = absurd (omega (arith, b))

  leaf_words : (e : Environment) (is : List ℕ) → AllByRecursion (λ i. i < 5) is → AllByRecursion (λ i. is_node (flag_of path i) ≡ true) is
      → AllByRecursion (λ i. value_at e ns (condition_leaf (condition_nodes path first) i).0 ≡ flag_word e ns (numbered i) (flag_of path i)) is
  leaf_words e [] b is = tt
  leaf_words e (i ∷ rest) b is = (leaf_word e i b.0 is.0, leaf_words e rest b.1 is.1)

-- the first flag that a condition reads is one of those that it reads
first_read : (P : ℕ → Type 0) (c : Cond) → AllByRecursion P (cond_reads c) → P (slice_index_or (cond_reads c) 0 0)
first_read P conds.E h = h.0
first_read P _ h = h.0

-- a condition, and the flags with it: they stay, and the node has the condition's word
pub record IsConditionMade (ns : List Node) (path : List SymFlag) (cond : Option Cond) (m : WithCondition) : Type 0 where
  pub stay : FlagsStay ns path m.nodes m.flags
  pub sheet : IsSheet m.nodes
  pub five : length m.flags ≡ 5
  pub word : IsCondition cond path ns m.nodes m.cond

module _ (ns : List Node) (path : List SymFlag) (c : Cond) (after : WithFlags) (R : AreRead ns path (cond_reads c) after) where
  abbrev first : ℕ
  first = slice_index_or (cond_reads c) 0 0

  pub first_node : is_node (flag_of after.flags first) ≡ true
  first_node = first_read (λ i. is_node (flag_of after.flags i) ≡ true) c R.nodes

  pub leaves_read : AreLeaves 1 after.nodes (condition_leaf (condition_nodes after.flags first))
  leaves_read = are_leaves after.nodes after.flags R.stay.flags first first_node

  pub over_extends : Extends after.nodes (condition_over c after).nodes
  over_extends =
      (leaves_have_value 1 after.nodes (condition_leaf (condition_nodes after.flags first)) (cond_expr c) R.sheet leaves_read (conds_formed c).formed).extends

  pub condition_over_made : IsConditionMade ns path (Some c) (condition_over c after)
  condition_over_made =
      let leaves : ℕ → NodeId = condition_leaf (condition_nodes after.flags first) in
      let m : Made = built after.nodes leaves (cond_expr c) in
      let V = leaves_have_value 1 after.nodes leaves (cond_expr c) R.sheet leaves_read (conds_formed c).formed in
      let bits : (λ i. width_at after.nodes (leaves i).0) ≡ (λ i. 1) = λ t. λ i. leaves_read.widths i t in
      record {
        stay = stay_trans ns after.nodes m.nodes path after.flags after.flags R.stay
            (flags_later after.nodes m.nodes R.sheet V.extends after.flags R.stay.flags);
        sheet = V.sheet;
        five = R.five;
        word = (
          (V.inside, V.width ∙ ap (λ l. expr_width l (cond_expr c)) bits ∙ (conds_formed c).width),
          λ e. V.value e ∙ values_agree (λ i. value_at e after.nodes (leaves i).0) (λ i. flag_word e ns (numbered i) (flag_of path i)) (cond_expr c)
              (subst (AllByRecursion (λ i. value_at e after.nodes (leaves i).0 ≡ flag_word e ns (numbered i) (flag_of path i))) (sym (condition_leaves c))
              (said e (cond_reads c) (leaf_words after.nodes after.flags R.stay.flags first first_node e (cond_reads c) (flags_numbered c) R.nodes))),
        );
      }
    where
      said : (e : Environment) (is : List ℕ)
          → AllByRecursion (λ i. value_at e after.nodes (condition_leaf (condition_nodes after.flags first) i).0 ≡ flag_word e after.nodes (numbered i) (flag_of after.flags i)) is
          → AllByRecursion (λ i. value_at e after.nodes (condition_leaf (condition_nodes after.flags first) i).0 ≡ flag_word e ns (numbered i) (flag_of path i)) is
      said e [] h = tt
      said e (i ∷ rest) h = (h.0 ∙ R.stay.words e i, said e rest h.1)

pub condition_is_made : (ns : List Node) (path : List SymFlag) (cond : Option Cond) → IsSheet ns → AreFlags ns path → length path ≡ 5
    → some_unset path (flags_read_by cond) ≡ false → IsConditionMade ns path cond (condition_made cond path ns)
condition_is_made ns path None sheet flags five set = record {
  stay = flags_later ns ns sheet (same_extends ns) path flags;
  sheet = sheet;
  five = five;
  word = tt;
}
condition_is_made ns path (Some c) sheet flags five set =
    condition_over_made ns path c (flags_read ns path (cond_reads c)) (all_read ns path sheet flags five (cond_reads c) (flags_numbered c) set)
