-- Flags that are read in turn: each has its word, and is its node from then on.
use Rattle.std.proofs.Common.{◌≡◌, ℕ, ◌<◌, ◌≤◌, ◌||◌, Bool, true, false, List, [], ◌∷◌, length, refl, sym, ◌∙◌, ap, subst, arith, inl, inr}
use Rattle.std.specs.Prelude.{slice_set}
use Rattle.std.specs.List.{AllByRecursion, list_any}
use Rattle.std.proofs.lemmas.Bool.{cases_eq, true≢false}
use Rattle.std.proofs.lemmas.List.{get_or-set_same, get_or-set_other, length-set}
use Rattle.insn_ops.specs.declared.op.Op.{Op}
use Rattle.insn_semantics.specs.FlagRules.{Rule, Keeps, Unsets, Sets}
use Rattle.insn_semantics.specs.Formed.{IsFormedAt, expr_width}
use Rattle.insn_semantics.specs.FormedRows.{HasRowWidth, IsFormedRule}
use Rattle.insn_semantics.proofs.FormedLaws.{carry_formed, even_formed, negative_formed, overflow_formed, zero_formed}
use Rattle.node_values.specs.declared.node.Node.{Node}
use Rattle.node_values.specs.Sheets.{Extends, IsSheet, width_at}
use Rattle.node_values.specs.Values.{Environment}
use Rattle.terms.specs.Made.{Made}
use Rattle.address_nodes.specs.Multiples.{IsBuiltWord}
use Rattle.address_nodes.proofs.Growing.{extends_trans, same_extends}
use Rattle.sym_rows.specs.declared.operands.Flag.{Flag}
use Rattle.sym_rows.specs.declared.operands.Flag.TheVariants as flags
use Rattle.sym_rows.specs.declared.lazy_flags.SymFlag.{SymFlag}
use Rattle.sym_rows.specs.declared.lazy_flags.SymFlag.TheVariants.{Unset, From, Built}
use Rattle.sym_rows.specs.FlagExprs.{flag_expr, flag_rule, set_to}
use Rattle.sym_rows.specs.LazyFlags.{IsSetFlag, IsSetting, built_read, flag_word, shift_count}
use Rattle.sym_rows.specs.Leaves.{flag_leaf}
use Rattle.sym_rows.proofs.Staying.{set_flags_stay}
use Rattle.sym_rows.proofs.Values.{leaves_have_value}
use Rattle.sym_general.specs.PathFlags.{AreFlags, FlagsStay, IsFlag, WithFlags, flag_of, flags_read, is_unset, numbered, some_unset}

-- the flag that a rule sets is formed, of one bit
rule_formed : (which : Flag) (op : Op) (w k : ℕ) → 8 ≤ w → w ≤ 64 → HasRowWidth op w k → IsFormedRule w (flag_rule which op w k)
rule_formed flags.Carry op w k byte word row = carry_formed w byte op k row
rule_formed flags.Parity op w k byte word row = even_formed w byte op
rule_formed flags.Zero op w k byte word row = zero_formed w byte op word
rule_formed flags.Sign op w k byte word row = negative_formed w byte op
rule_formed flags.Overflow op w k byte word row = overflow_formed w byte op k row

set_formed : (w : ℕ) (r : Rule) → IsFormedRule w r → IsSetting r → IsFormedAt (λ i. w) 1 (set_to r)
set_formed w Keeps f set = absurd set
set_formed w Unsets f set = absurd set
set_formed w (Sets x) f set = f

-- a flag that is set is read as a node of one bit with its word
pub read_has : (ns : List Node) (which : Flag) (f : SymFlag) → IsSheet ns → IsSetFlag ns which f
    → IsBuiltWord ns 1 (λ e. flag_word e ns which f) (built_read ns which f)
read_has ns which Unset sheet set = absurd set
read_has ns which (Built id) sheet set = record { extends = same_extends ns; sheet = sheet; inside = set.0; width = set.1; value = λ e. refl }
read_has ns which (From op w over) sheet set =
    let k : ℕ = shift_count ns op over.right in
    let formed : IsFormedAt (λ i. w) 1 (flag_expr which op w k) =
    set_formed w (flag_rule which op w k) (rule_formed which op w k set.byte set.word set.row) set.sets in
    let V = leaves_have_value w ns (flag_leaf over) (flag_expr which op w k) sheet set.leaves formed.formed in
    let same : (λ i. width_at ns (flag_leaf over i).0) ≡ (λ i. w) = λ t. λ i. set.leaves.widths i t in
    record {
      extends = V.extends;
      sheet = V.sheet;
      inside = V.inside;
      width = V.width ∙ ap (λ l. expr_width l (flag_expr which op w k)) same ∙ formed.width;
      value = V.value;
    }

-- a flag of a path in a later sheet
module _ (ns later : List Node) (sheet : IsSheet ns) (ext : Extends ns later) where
  word_later : (which : Flag) (f : SymFlag) → IsFlag ns which f → (e : Environment) → flag_word e later which f ≡ flag_word e ns which f
  word_later which Unset h e = refl
  word_later which (From op w over) h e = (set_flags_stay ns later which (From op w over) sheet ext (h refl)).word e
  word_later which (Built id) h e = (set_flags_stay ns later which (Built id) sheet ext (h refl)).word e

  -- the same flags in a later sheet
  pub flags_later : (path : List SymFlag) → AreFlags ns path → FlagsStay ns path later path
  flags_later path flags = record {
    extends = ext;
    flags = λ i set. (set_flags_stay ns later (numbered i) (flag_of path i) sheet ext (flags i set)).set;
    unset = λ i. refl;
    words = λ e i. word_later (numbered i) (flag_of path i) (flags i) e;
  }

-- flags that stay through two sheets
pub stay_trans : (ns mid later : List Node) (a b c : List SymFlag) → FlagsStay ns a mid b → FlagsStay mid b later c → FlagsStay ns a later c
stay_trans ns mid later a b c h k = record {
  extends = extends_trans ns mid later h.extends k.extends;
  flags = k.flags;
  unset = λ i. k.unset i ∙ h.unset i;
  words = λ e i. k.words e i ∙ h.words e i;
}

-- the flag is a node
abbrev pub is_node : SymFlag → Bool
is_node (Built id) = true
is_node Unset = false
is_node (From op w over) = false

-- one flag that is read
module _ (ns : List Node) (path : List SymFlag) (sheet : IsSheet ns) (flags : AreFlags ns path) (five : length path ≡ 5)
    (i : ℕ) (below : i < 5) (set : is_unset (flag_of path i) ≡ false) where
  abbrev read : Made
  read = built_read ns (numbered i) (flag_of path i)

  abbrev path_read : List SymFlag
  path_read = slice_set path i (Built read.id)

  pub read_one : IsBuiltWord ns 1 (λ e. flag_word e ns (numbered i) (flag_of path i)) read
  read_one = read_has ns (numbered i) (flag_of path i) sheet (flags i set)

  at_one : (j : ℕ) → j ≡ i → flag_of path_read j ≡ Built read.id
  at_one j e = ap (flag_of path_read) e ∙ get_or-set_same path i (Built read.id) Unset (omega (arith, five, below))

  at_other : (j : ℕ) → (j ≡ i → ⊥) → flag_of path_read j ≡ flag_of path j
  at_other j ne = get_or-set_other path i j (Built read.id) Unset ne

  later : FlagsStay ns path read.nodes path
  later = flags_later ns read.nodes sheet read_one.extends path flags

  pub five_read : length path_read ≡ 5
  five_read = length-set path i (Built read.id) ∙ five

  pub one_read : FlagsStay ns path read.nodes path_read
  one_read = record {
    extends = read_one.extends;
    flags = λ j. elim (cases_eq j i) [
      | inl e ↦ subst (IsFlag read.nodes (numbered j)) (sym (at_one j e)) (λ h. (read_one.inside, read_one.width))
      | inr ne ↦ subst (IsFlag read.nodes (numbered j)) (sym (at_other j ne)) (later.flags j)
    ];
    unset = λ j. elim (cases_eq j i) [
      | inl e ↦ ap is_unset (at_one j e) ∙ sym (ap (λ k. is_unset (flag_of path k)) e ∙ set)
      | inr ne ↦ ap is_unset (at_other j ne)
    ];
    words = λ e j. elim (cases_eq j i) [
      | inl same ↦
          ap (flag_word e read.nodes (numbered j)) (at_one j same) ∙ read_one.value e
          ∙ ap (λ k. flag_word e ns (numbered k) (flag_of path k)) (sym same)
      | inr ne ↦ ap (flag_word e read.nodes (numbered j)) (at_other j ne) ∙ later.words e j
    ];
  }

  pub node_read : is_node (flag_of path_read i) ≡ true
  node_read = ap is_node (at_one i refl)

  pub node_kept : (j : ℕ) → is_node (flag_of path j) ≡ true → is_node (flag_of path_read j) ≡ true
  node_kept j h = elim (cases_eq j i) [ inl e ↦ ap is_node (at_one j e) | inr ne ↦ ap is_node (at_other j ne) ∙ h ]

-- flags that are read in turn stay, and those that were read are nodes
pub record AreRead (ns : List Node) (path : List SymFlag) (is : List ℕ) (after : WithFlags) : Type 0 where
  pub stay : FlagsStay ns path after.nodes after.flags
  pub sheet : IsSheet after.nodes
  pub five : length after.flags ≡ 5
  pub nodes : AllByRecursion (λ i. is_node (flag_of after.flags i) ≡ true) is
  pub kept : (j : ℕ) → is_node (flag_of path j) ≡ true → is_node (flag_of after.flags j) ≡ true

pub neither : (x y : Bool) → (x || y) ≡ false → (x ≡ false) × (y ≡ false)
neither false y h = (refl, h)
neither true y h = absurd (true≢false h)

-- those behind a flag that is read are set as before
pub set_behind : (path other : List SymFlag) (is : List ℕ) → ((i : ℕ) → is_unset (flag_of other i) ≡ is_unset (flag_of path i))
    → some_unset path is ≡ false → some_unset other is ≡ false
set_behind path other is same h = ap (λ p. list_any p is) (λ t. λ j. same j t) ∙ h

pub all_read : (ns : List Node) (path : List SymFlag) → IsSheet ns → AreFlags ns path → length path ≡ 5 → (is : List ℕ)
    → AllByRecursion (λ i. i < 5) is → some_unset path is ≡ false → AreRead ns path is (flags_read ns path is)
unfolding flags_read
all_read ns path sheet flags five [] below set = record {
  stay = flags_later ns ns sheet (same_extends ns) path flags;
  sheet = sheet;
  five = five;
  nodes = tt;
  kept = λ j h. h;
}
all_read ns path sheet flags five (i ∷ is) below set =
    let here = neither (is_unset (flag_of path i)) (some_unset path is) set in
    let m : Made = built_read ns (numbered i) (flag_of path i) in
    let p : List SymFlag = slice_set path i (Built m.id) in
    let one : FlagsStay ns path m.nodes p = one_read ns path sheet flags five i below.0 here.0 in
    let rest = all_read m.nodes p (read_one ns path sheet flags five i below.0 here.0).sheet one.flags
    (five_read ns path sheet flags five i below.0 here.0) is below.1 (set_behind path p is one.unset here.1) in
    let after : WithFlags = flags_read m.nodes p is in
    record {
      stay = stay_trans ns m.nodes after.nodes path p after.flags one rest.stay;
      sheet = rest.sheet;
      five = rest.five;
      nodes = (rest.kept i (node_read ns path sheet flags five i below.0 here.0), rest.nodes);
      kept = λ j h. rest.kept j (node_kept ns path sheet flags five i below.0 here.0 j h);
    }
