-- Expressions that are built into a sheet have their values: one induction over the expressions.
use Rattle.std.proofs.Common.{◌≡◌, ℕ, ◌+◌, ◌<◌, ◌≤◌, ◌==◌, List, [], ◌++◌, length, refl, sym, ◌∙◌, ap, subst, arith, inl, inr, append_assoc, length-append}
use Rattle.std.proofs.lemmas.Bool.{cases_Bool}
use Rattle.std.proofs.lemmas.List.{append-nil}
use Rattle.insn_semantics.specs.Exprs as exprs
use Rattle.insn_semantics.specs.Words as words
use Rattle.node_values.specs.declared.node.Node.{Node}
use Rattle.node_values.specs.declared.node.Node.TheVariants as nodes
use Rattle.node_values.specs.declared.node.NodeId.{NodeId}
use Rattle.node_values.specs.Nodes.{AreAlike, IsNode, node_width}
use Rattle.node_values.specs.Sheets.{Extends, IsSheet, value_at, width_at}
use Rattle.node_values.specs.Values.{Environment, node_value}
use Rattle.node_values.proofs.SheetLaws.{value_at-append, width_at-append}
use Rattle.terms.specs.Made.{Made, made}
use Rattle.std.specs.List.{AllByRecursion}
use Rattle.insn_ops.specs.declared.op.Op.{Op}
use Rattle.insn_semantics.specs.Rows.{row_expr}
use Rattle.insn_semantics.specs.FormedRows.{HasRowWidth, row_widths}
use Rattle.insn_semantics.proofs.FormedLaws.{rows_formed}
use Rattle.insn_semantics.proofs.FormedLeaves.{formed_by_leaves}
use Rattle.terms.proofs.MadeLaws.{IsBuilt, made_built}
use Rattle.insn_semantics.specs.Formed.{IsFormed, expr_width, operator_width}
use Rattle.terms.specs.Building.{HasValue, built, operator_node, shift_node, with_node_leaf}

extends_trans : (ns ms ls : List Node) → Extends ns ms → Extends ms ls → Extends ns ls
extends_trans ns ms ls h k = (h.0 ++ k.0, k.1 ∙ ap (λ l. l ++ k.0) h.1 ∙ append_assoc ns h.0 k.0)

-- a sheet that has the nodes of another and more
module _ (ns : List Node) (sheet : IsSheet ns) (later : List Node) (ext : Extends ns later) where
  later_length : length ns ≤ length later
  later_length = omega (arith, ap length ext.1, length-append ns ext.0)

  later_width : (i : ℕ) → i < length ns → width_at ns i ≡ width_at later i
  later_width i b = width_at-append ns sheet ext.0 i b ∙ ap (λ l. width_at l i) (sym ext.1)

  later_value : (e : Environment) (i : ℕ) → i < length ns → value_at e ns i ≡ value_at e later i
  later_value e i b = value_at-append ns sheet ext.0 e i b ∙ ap (λ l. value_at e l i) (sym ext.1)

-- the nodes of operators and shifts
module _ (W : ℕ → ℕ) (a b : NodeId) where
  operator_is : (operator : exprs.Operator) (n : ℕ) → AreAlike W n a.0 b.0 → IsNode W n (operator_node operator a b)
  operator_is exprs.Plus n h = h
  operator_is exprs.Minus n h = h
  operator_is exprs.Times n h = h
  operator_is exprs.And n h = h
  operator_is exprs.Or n h = h
  operator_is exprs.Xor n h = h
  operator_is exprs.Equal n h = h
  operator_is exprs.Below n h = h
  operator_is exprs.SignedBelow n h = h

  operator_node_width : (operator : exprs.Operator) → node_width W (operator_node operator a b) ≡ operator_width operator (W a.0)
  operator_node_width exprs.Plus = refl
  operator_node_width exprs.Minus = refl
  operator_node_width exprs.Times = refl
  operator_node_width exprs.And = refl
  operator_node_width exprs.Or = refl
  operator_node_width exprs.Xor = refl
  operator_node_width exprs.Equal = refl
  operator_node_width exprs.Below = refl
  operator_node_width exprs.SignedBelow = refl

  operator_node_value : (e : Environment) (V : ℕ → ℕ) (operator : exprs.Operator)
      → node_value e W V (operator_node operator a b) ≡ exprs.operator_value operator (W a.0) (V a.0) (V b.0)
  operator_node_value e V exprs.Plus = refl
  operator_node_value e V exprs.Minus = refl
  operator_node_value e V exprs.Times = refl
  operator_node_value e V exprs.And = refl
  operator_node_value e V exprs.Or = refl
  operator_node_value e V exprs.Xor = refl
  operator_node_value e V exprs.Equal = refl
  operator_node_value e V exprs.Below = refl
  operator_node_value e V exprs.SignedBelow = refl

  shift_is : (shift : exprs.Shift) (n k : ℕ) → (a.0 < n) × (0 < k) × (k < W a.0) → IsNode W n (shift_node shift a k)
  shift_is exprs.Left n k h = h
  shift_is exprs.Right n k h = h
  shift_is exprs.Signed n k h = h

  shift_node_width : (shift : exprs.Shift) (k : ℕ) → node_width W (shift_node shift a k) ≡ W a.0
  shift_node_width exprs.Left k = refl
  shift_node_width exprs.Right k = refl
  shift_node_width exprs.Signed k = refl

  shift_node_value : (e : Environment) (V : ℕ → ℕ) (shift : exprs.Shift) (k : ℕ)
      → node_value e W V (shift_node shift a k) ≡ exprs.shift_value shift (W a.0) (V a.0) k
  shift_node_value e V exprs.Left k = refl
  shift_node_value e V exprs.Right k = refl
  shift_node_value e V exprs.Signed k = refl

module _ (ns : List Node) (sheet : IsSheet ns) (leaves : ℕ → NodeId) (inside : (i : ℕ) → (leaves i).0 < length ns) where
  abbrev L : ℕ → ℕ
  L i = width_at ns (leaves i).0

  abbrev V : Environment → ℕ → ℕ
  V e i = value_at e ns (leaves i).0

  -- the leaves in a later sheet
  module _ (mid : List Node) (ext : Extends ns mid) where
    leaves_inside : (i : ℕ) → (leaves i).0 < length mid
    leaves_inside i = omega (arith, inside i, later_length ns sheet mid ext)

    leaf_widths : L ≡ (λ i. width_at mid (leaves i).0)
    leaf_widths = λ t. λ i. later_width ns sheet mid ext (leaves i).0 (inside i) t

    leaf_values : (e : Environment) → V e ≡ (λ i. value_at e mid (leaves i).0)
    leaf_values e = λ t. λ i. later_value ns sheet mid ext e (leaves i).0 (inside i) t

    -- an expression that is built over the later sheet
    over : (y : exprs.Expr) (m : Made) → HasValue mid leaves y m → HasValue ns leaves y m
    over y m h = record {
      extends = extends_trans ns mid m.nodes ext h.extends;
      sheet = h.sheet;
      inside = h.inside;
      width = h.width ∙ ap (λ l. expr_width l y) (sym leaf_widths);
      value = λ e. h.value e ∙ ap (λ l. exprs.value l y) (sym (leaf_values e));
    }

  -- an expression's node in a later sheet
  keep : (x : exprs.Expr) (m : Made) (later : List Node) → HasValue ns leaves x m → Extends m.nodes later → IsSheet later
      → HasValue ns leaves x (record { nodes = later; id = m.id })
  keep x m later h ext sheet_later = record {
    extends = extends_trans ns m.nodes later h.extends ext;
    sheet = sheet_later;
    inside = omega (arith, h.inside, later_length m.nodes h.sheet later ext);
    width = sym (later_width m.nodes h.sheet later ext m.id.0 h.inside) ∙ h.width;
    value = λ e. sym (later_value m.nodes h.sheet later ext e m.id.0 h.inside) ∙ h.value e;
  }

  -- one more node
  finish : (x : exprs.Expr) (mid : List Node) (n : Node) → Extends ns mid → IsSheet mid → IsNode (width_at mid) (length mid) n
      → node_width (width_at mid) n ≡ expr_width L x
      → ((e : Environment) → node_value e (width_at mid) (value_at e mid) n ≡ exprs.value (V e) x)
      → HasValue ns leaves x (made mid n)
  finish x mid n ext sheet_mid node w v =
      let b : IsBuilt mid n (made mid n) = made_built mid sheet_mid n node in
      record {
        extends = extends_trans ns mid (made mid n).nodes ext b.extends;
        sheet = b.sheet;
        inside = b.inside;
        width = b.width ∙ w;
        value = λ e. b.value e ∙ v e;
      }

same_extends : (ns : List Node) → Extends ns ns
same_extends ns = ([], sym (append-nil ns))

-- the leaves with one more name
module _ (ns : List Node) (leaves : ℕ → NodeId) (i : ℕ) (a : NodeId) where
  named_inside : ((j : ℕ) → (leaves j).0 < length ns) → a.0 < length ns → (j : ℕ) → (with_node_leaf leaves i a j).0 < length ns
  named_inside h k j = elim (cases_Bool (j == i)) [ inl t ↦ rw t k | inr f ↦ rw f (h j) ]

  named_by : (F : ℕ → ℕ) (j : ℕ) → F (with_node_leaf leaves i a j).0 ≡ exprs.with_leaf (λ l. F (leaves l).0) i (F a.0) j
  named_by F j = elim (cases_Bool (j == i)) [ inl t ↦ rw t refl | inr f ↦ rw f refl ]

pub has_value : (ns : List Node) (leaves : ℕ → NodeId) (x : exprs.Expr) → IsSheet ns → ((i : ℕ) → (leaves i).0 < length ns)
    → IsFormed (λ i. width_at ns (leaves i).0) x → HasValue ns leaves x (built ns leaves x)
unfolding built
has_value ns leaves (exprs.Leaf i) sheet inside h =
    record { extends = same_extends ns; sheet = sheet; inside = inside i; width = refl; value = λ e. refl }
has_value ns leaves (exprs.Number w v) sheet inside h =
    finish ns sheet leaves inside (exprs.Number w v) ns (nodes.Const w v) (same_extends ns) sheet h refl (λ e. refl)
has_value ns leaves (exprs.Two operator w x y) sheet inside h =
    let first : Made = built ns leaves x in
    let X = has_value ns leaves x sheet inside h.2 in
    let second : Made = built first.nodes leaves y in
    let Y0 = has_value first.nodes leaves y X.sheet (leaves_inside ns sheet leaves inside first.nodes X.extends)
    (subst (λ l. IsFormed l y) (leaf_widths ns sheet leaves inside first.nodes X.extends) h.3) in
    let Y = over ns sheet leaves inside first.nodes X.extends y second Y0 in
    let K = keep ns sheet leaves inside x first second.nodes X Y0.extends Y0.sheet in
    let W : ℕ → ℕ = width_at second.nodes in
    finish ns sheet leaves inside (exprs.Two operator w x y) second.nodes (operator_node operator first.id second.id) Y.extends Y.sheet
    (operator_is W first.id second.id operator (length second.nodes) (K.inside, Y.inside, K.width ∙ h.0 ∙ sym (Y.width ∙ h.1)))
    (operator_node_width W first.id second.id operator ∙ ap (operator_width operator) (K.width ∙ h.0))
    (λ e. operator_node_value W first.id second.id e (value_at e second.nodes) operator
    ∙ (λ t. exprs.operator_value operator ((K.width ∙ h.0) t) (K.value e t) (Y.value e t)))
has_value ns leaves (exprs.Not w x) sheet inside h =
    let first : Made = built ns leaves x in
    let X = has_value ns leaves x sheet inside h.1 in
    finish ns sheet leaves inside (exprs.Not w x) first.nodes (nodes.Not first.id) X.extends X.sheet X.inside (X.width ∙ h.0)
    (λ e. λ t. words.complement ((X.width ∙ h.0) t) (X.value e t))
has_value ns leaves (exprs.Shifted shift w x k) sheet inside h =
    let first : Made = built ns leaves x in
    let X = has_value ns leaves x sheet inside h.3 in
    let W : ℕ → ℕ = width_at first.nodes in
    let same : width_at first.nodes first.id.0 ≡ w = X.width ∙ h.0 in
    finish ns sheet leaves inside (exprs.Shifted shift w x k) first.nodes (shift_node shift first.id k) X.extends X.sheet
    (shift_is W first.id first.id shift (length first.nodes) k (X.inside, h.1, omega (arith, same, h.2)))
    (shift_node_width W first.id first.id shift k ∙ same)
    (λ e. shift_node_value W first.id first.id e (value_at e first.nodes) shift k ∙ (λ t. exprs.shift_value shift (same t) (X.value e t) k))
has_value ns leaves (exprs.Joined n x y) sheet inside h =
    let first : Made = built ns leaves x in
    let X = has_value ns leaves x sheet inside h.2 in
    let second : Made = built first.nodes leaves y in
    let Y0 = has_value first.nodes leaves y X.sheet (leaves_inside ns sheet leaves inside first.nodes X.extends)
    (subst (λ l. IsFormed l y) (leaf_widths ns sheet leaves inside first.nodes X.extends) h.3) in
    let Y = over ns sheet leaves inside first.nodes X.extends y second Y0 in
    let K = keep ns sheet leaves inside x first second.nodes X Y0.extends Y0.sheet in
    let low : width_at second.nodes second.id.0 ≡ n = Y.width ∙ h.0 in
    finish ns sheet leaves inside (exprs.Joined n x y) second.nodes (nodes.Cat first.id second.id) Y.extends Y.sheet
    (K.inside, Y.inside, omega (arith, K.width, low, h.1))
    (λ t. K.width t + low t)
    (λ e. λ t. words.concatenation (low t) (K.value e t) (Y.value e t))
has_value ns leaves (exprs.Cut x k n) sheet inside h =
    let first : Made = built ns leaves x in
    let X = has_value ns leaves x sheet inside h.2 in
    finish ns sheet leaves inside (exprs.Cut x k n) first.nodes (nodes.Cut first.id k n) X.extends X.sheet
    (X.inside, h.0, omega (arith, X.width, h.1)) refl (λ e. ap (λ v. words.cut v k n) (X.value e))
has_value ns leaves (exprs.Extended m n x) sheet inside h =
    let first : Made = built ns leaves x in
    let X = has_value ns leaves x sheet inside h.3 in
    let same : width_at first.nodes first.id.0 ≡ m = X.width ∙ h.0 in
    finish ns sheet leaves inside (exprs.Extended m n x) first.nodes (nodes.Sx n first.id) X.extends X.sheet
    (X.inside, omega (arith, same, h.1), h.2) refl (λ e. λ t. words.sign_extension (same t) n (X.value e t))
has_value ns leaves (exprs.Choice c x y) sheet inside h =
    let test : Made = built ns leaves c in
    let C = has_value ns leaves c sheet inside h.2 in
    let first : Made = built test.nodes leaves x in
    let X0 = has_value test.nodes leaves x C.sheet (leaves_inside ns sheet leaves inside test.nodes C.extends)
    (subst (λ l. IsFormed l x) (leaf_widths ns sheet leaves inside test.nodes C.extends) h.3) in
    let X = over ns sheet leaves inside test.nodes C.extends x first X0 in
    let second : Made = built first.nodes leaves y in
    let Y0 = has_value first.nodes leaves y X.sheet (leaves_inside ns sheet leaves inside first.nodes X.extends)
    (subst (λ l. IsFormed l y) (leaf_widths ns sheet leaves inside first.nodes X.extends) h.4) in
    let Y = over ns sheet leaves inside first.nodes X.extends y second Y0 in
    let K = keep ns sheet leaves inside x first second.nodes X Y0.extends Y0.sheet in
    let T = keep ns sheet leaves inside c test second.nodes C (extends_trans test.nodes first.nodes second.nodes X0.extends Y0.extends) Y0.sheet in
    finish ns sheet leaves inside (exprs.Choice c x y) second.nodes (nodes.If test.id first.id second.id) Y.extends Y.sheet
    (T.inside, T.width ∙ h.0, (K.inside, Y.inside, K.width ∙ h.1 ∙ sym Y.width))
    K.width
    (λ e. λ t. words.choice (T.value e t) (K.value e t) (Y.value e t))
has_value ns leaves (exprs.Let i x y) sheet inside h =
    let first : Made = built ns leaves x in
    let X = has_value ns leaves x sheet inside h.0 in
    let names : ℕ → NodeId = with_node_leaf leaves i first.id in
    let second : Made = built first.nodes (with_node_leaf leaves i first.id) y in
    let widths : exprs.with_leaf (λ l. width_at ns (leaves l).0) i (expr_width (λ l. width_at ns (leaves l).0) x) ≡ (λ j. width_at first.nodes (with_node_leaf leaves i first.id j).0) =
    (λ t. exprs.with_leaf (leaf_widths ns sheet leaves inside first.nodes X.extends t) i (sym X.width t))
    ∙ (λ t. λ j. sym (named_by first.nodes leaves i first.id (width_at first.nodes) j) t) in
    let values : (e : Environment) → exprs.with_leaf (λ l. value_at e ns (leaves l).0) i (exprs.value (λ l. value_at e ns (leaves l).0) x) ≡ (λ j. value_at e first.nodes (with_node_leaf leaves i first.id j).0) =
    λ e. (λ t. exprs.with_leaf (leaf_values ns sheet leaves inside first.nodes X.extends e t) i (sym (X.value e) t))
    ∙ (λ t. λ j. sym (named_by first.nodes leaves i first.id (value_at e first.nodes) j) t) in
    let Y = has_value first.nodes (with_node_leaf leaves i first.id) y X.sheet
    (named_inside first.nodes leaves i first.id (leaves_inside ns sheet leaves inside first.nodes X.extends) X.inside)
    (subst (λ l. IsFormed l y) widths h.1) in
    record {
      extends = extends_trans ns first.nodes second.nodes X.extends Y.extends;
      sheet = Y.sheet;
      inside = Y.inside;
      width = Y.width ∙ ap (λ l. expr_width l y) (sym widths);
      value = λ e. Y.value e ∙ ap (λ l. exprs.value l y) (sym (values e));
    }

-- the row of a general operation
pub row_has_value : (ns : List Node) (leaves : ℕ → NodeId) (op : Op) (w k : ℕ) → IsSheet ns → ((i : ℕ) → (leaves i).0 < length ns) → HasRowWidth op w k
    → AllByRecursion (λ i. width_at ns (leaves i).0 ≡ row_widths op w i) (exprs.leaves_of (row_expr op w k))
    → HasValue ns leaves (row_expr op w k) (built ns leaves (row_expr op w k))
row_has_value ns leaves op w k sheet inside widths agree =
    has_value ns leaves (row_expr op w k) sheet inside
    (formed_by_leaves (row_widths op w) (λ i. width_at ns (leaves i).0) w (row_expr op w k) agree (rows_formed op w k widths)).formed
