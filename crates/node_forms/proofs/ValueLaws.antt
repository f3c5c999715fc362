-- The values of nodes are linear in the nodes: a node's value has, modulo 2^w, the value of its form.
use Rattle.std.proofs.Common.{◌≡◌, ℕ, zero, suc, ◌+◌, ◌-◌, ◌*◌, ◌/◌, ◌%◌, ◌^◌, ◌<◌, ◌≤◌, List, Option, Some, None, length, refl, sym, ◌∙◌, ap, subst, arith, inl, inr, div-one}
use Rattle.std.specs.Prelude.{nat_le}
use Rattle.std.proofs.lemmas.Bool.{cases_Bool, leb-true}
use Rattle.std.proofs.lemmas.Nat.{mod_low}
use Rattle.std.proofs.Math.Pow.{mod-mod-pow}
use Rattle.insn_semantics.specs.Words as words
use Rattle.insn_semantics.proofs.WordLaws.{mod-sign_extension, plus-minus}
use Rattle.node_values.specs.declared.node.Node.{Node}
use Rattle.node_values.specs.declared.node.Node.TheVariants.{Const, Reg, Entry, VecByte, Start, Probe, Add, Sub, Mul, And, Or, Xor, Not, Shl, Shr, Sar, Cat, Cut, Sx, Eq, Ult, Slt, If}
use Rattle.node_values.specs.declared.node.NodeId.{NodeId}
use Rattle.node_values.specs.Nodes.{IsNode, node_width}
use Rattle.node_values.specs.Values.{Environment, node_value}
use Rattle.node_values.specs.Sheets.{IsSheet, node_at, value_at, width_at}
use Rattle.node_values.proofs.SheetLaws.{value_at-below, value_at-is, width_at-is}
use Rattle.node_forms.specs.Linearity.{constant_of, linearity, low_bits_of, product}
use Rattle.node_forms.specs.Sums.{Follows, IsLinear, SameWord}
use Rattle.node_forms.proofs.Residues.{same_number}

-- the low w bits of the low n bits
pub low_of_low : (w n a : ℕ) → w ≤ n → a % 2 ^ n % 2 ^ w ≡ a % 2 ^ w
low_of_low w n a h =
    let whole : n - w + w ≡ n = omega arith in
    rw whole at (mod-mod-pow a (n - w) w)

-- a constant's value is its number
pub constant_value : (e : Environment) (widths values : ℕ → ℕ) (node : Node) (v : ℕ) → constant_of node ≡ Some v
    → node_value e widths values node ≡ v
constant_value e widths values (Const w u) v h = cc
constant_value e widths values _ v h = cc

module _ (e : Environment) (ns : List Node) (sheet : IsSheet ns) where
  abbrev V : ℕ → ℕ
  V j = value_at e ns j

  pub constant_at : (i v : ℕ) → i < length ns → constant_of (node_at ns i) ≡ Some v → V i ≡ v
  constant_at i v b h = value_at-is ns sheet e i b ∙ constant_value e (width_at ns) (value_at e ns) (node_at ns i) v h

  module _ (w : ℕ) where
    product_follows : (a b : NodeId) (i : ℕ) (first second : Option ℕ)
        → ((v : ℕ) → first ≡ Some v → V a.0 ≡ v) → ((v : ℕ) → second ≡ Some v → V b.0 ≡ v)
        → SameWord w (V i) (V a.0 * V b.0) → Follows w 1 (value_at e ns) i (product a b first second)
    product_follows a b i first (Some v) h k same = same ∙ same_number w (V a.0 * V b.0) (v * V a.0) (turned (V a.0) (V b.0) v (k v refl))
      where
        turned : (x y z : ℕ) → y ≡ z → x * y ≡ z * x
        turned x y z q = rw q (omega arith)
    product_follows a b i (Some v) None h k same = same ∙ same_number w (V a.0 * V b.0) (v * V b.0) (ap (λ n. n * V b.0) (h v refl))
    product_follows a b i None None h k same = tt

    low_bits_follow : (a : NodeId) (i width : ℕ) → (w ≤ width → SameWord w (V i) (V a.0)) → Follows w 1 (value_at e ns) i (low_bits_of w width a)
    low_bits_follow a i width h = elim (cases_Bool (nat_le w width)) [
      | inl wide ↦ rw wide (h (leb-true w width wide) ∙ same_number w (V a.0) (1 * V a.0) (omega arith))
      | inr narrow ↦ rw narrow tt
    ]

    node_follows : (i : ℕ) → i < length ns → (node : Node) → IsNode (width_at ns) i node → w ≤ node_width (width_at ns) node
        → V i ≡ node_value e (width_at ns) (value_at e ns) node → Follows w 1 (value_at e ns) i (linearity ns (width_at ns) w node)
    node_follows i b (Const bits v) h wide is = rw is (same_number w v (1 * v) (omega arith))
    node_follows i b (Reg side r) h wide is = tt
    node_follows i b (Entry r) h wide is = tt
    node_follows i b (VecByte side r k) h wide is = tt
    node_follows i b (Start side at) h wide is = tt
    node_follows i b Probe h wide is = tt
    node_follows i b (Add x y) h wide is = ap (λ n. n % 2 ^ w) is ∙ low_of_low w (width_at ns x.0) (V x.0 + V y.0) wide
    node_follows i b (Sub x y) h wide is =
        let n : ℕ = width_at ns x.0 in
        let first : V x.0 < 2 ^ width_at ns x.0 = value_at-below ns sheet e x.0 (omega (arith, h.0)) in
        let second : V y.0 < 2 ^ width_at ns x.0 = rw h.2 (value_at-below ns sheet e y.0 (omega (arith, h.1))) in
        sym (low_of_low w (width_at ns x.0) (V i + V y.0) wide)
        ∙ ap (λ m. (m + V y.0) % 2 ^ width_at ns x.0 % 2 ^ w) is
        ∙ ap (λ m. m % 2 ^ w) (plus-minus (width_at ns x.0) (V x.0) (V y.0) first second)
    node_follows i b (Mul x y) h wide is =
        product_follows x y i (constant_of (node_at ns x.0)) (constant_of (node_at ns y.0))
        (λ v k. constant_at x.0 v (omega (arith, h.0)) k) (λ v k. constant_at y.0 v (omega (arith, h.1)) k)
        (ap (λ n. n % 2 ^ w) is ∙ low_of_low w (width_at ns x.0) (V x.0 * V y.0) wide)
    node_follows i b (And x y) h wide is = tt
    node_follows i b (Or x y) h wide is = tt
    node_follows i b (Xor x y) h wide is = tt
    node_follows i b (Not x) h wide is = tt
    node_follows i b (Shl x k) h wide is =
        ap (λ n. n % 2 ^ w) is ∙ low_of_low w (width_at ns x.0) (V x.0 * 2 ^ k) wide
        ∙ same_number w (V x.0 * 2 ^ k) (2 ^ k * V x.0) (omega arith)
    node_follows i b (Shr x k) h wide is = tt
    node_follows i b (Sar x k) h wide is = tt
    node_follows i b (Cat x y) h wide is =
        low_bits_follow y i (width_at ns y.0)
        (λ fits. ap (λ n. n % 2 ^ w) is
        ∙ sym (low_of_low w (width_at ns y.0) (V x.0 * 2 ^ width_at ns y.0 + V y.0) fits)
        ∙ ap (λ n. n % 2 ^ w) (mod_low (V x.0) (width_at ns y.0) (V y.0) (value_at-below ns sheet e y.0 (omega (arith, h.1)))))
    node_follows i b (Cut x zero m) h wide is =
        low_bits_follow x i (width_at ns x.0)
        (λ fits. ap (λ n. n % 2 ^ w) is ∙ low_of_low w m (V x.0 / 2 ^ 0) wide ∙ same_number w (V x.0 / 2 ^ 0) (V x.0) (div-one (V x.0)))
    node_follows i b (Cut x (suc k) m) h wide is = tt
    node_follows i b (Sx m x) h wide is =
        low_bits_follow x i (width_at ns x.0)
        (λ fits. ap (λ n. n % 2 ^ w) is
        ∙ sym (low_of_low w (width_at ns x.0) (words.sign_extension (width_at ns x.0) m (V x.0)) fits)
        ∙ ap (λ n. n % 2 ^ w) (mod-sign_extension (width_at ns x.0) m (V x.0) (omega (arith, h.1)) (value_at-below ns sheet e x.0 (omega (arith, h.0)))))
    node_follows i b (Eq x y) h wide is = tt
    node_follows i b (Ult x y) h wide is = tt
    node_follows i b (Slt x y) h wide is = tt
    node_follows i b (If c x y) h wide is = tt

    -- values are linear in the nodes
    pub value_linear : IsLinear ns w 1 (value_at e ns)
    value_linear i b wide =
        node_follows i b (node_at ns i) (sheet i b) (subst (λ n. w ≤ n) (width_at-is ns sheet i b) wide) (value_at-is ns sheet e i b)
