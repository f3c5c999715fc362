-- Cuts by the rules stand for cuts.
use Rattle.std.proofs.Common.{◌≡◌, ℕ, zero, suc, ◌+◌, ◌-◌, ◌^◌, ◌<◌, ◌≤◌, ◌==◌, List, Option, Some, None, Bool, true, false, ◌&&◌, length, refl, sym, ◌∙◌, ap, subst, arith, inl, inr, if◌then◌else◌}
use Rattle.std.specs.Prelude.{is_some, nat_le, unwrap_or}
use Rattle.std.proofs.lemmas.Bool.{cases_Bool, cond_both, eq-eqb, eqb-true, leb-true, and_parts}
use Rattle.std.proofs.lemmas.Nat.{mod_below, pow_pos}
use Rattle.insn_semantics.specs.Words.{cut}
use Rattle.node_values.specs.declared.node.Node.{Node}
use Rattle.node_values.specs.declared.node.Node.TheVariants.{Const, Reg, Entry, VecByte, Start, Probe, Add, Sub, Mul, And, Or, Xor, Not, Shl, Shr, Sar, Cat, Cut, Sx, Eq, Ult, Slt, If}
use Rattle.node_values.specs.declared.node.NodeId.{NodeId}
use Rattle.node_values.specs.Nodes.{IsNode, node_width}
use Rattle.node_values.specs.Values.{Environment, node_value}
use Rattle.node_values.specs.Sheets.{IsSheet, node_at, value_at, width_at}
use Rattle.node_values.proofs.Lower.{IsLocal, from_lower-is}
use Rattle.node_values.proofs.SheetLaws.{value_at-below, value_at-is, width_at-is, width_ranged}
use Rattle.node_forms.specs.Linearity.{constant_of}
use Rattle.node_forms.proofs.ValueLaws.{constant_at}
use Rattle.terms.specs.declared.rules.Reduced.{Reduced}
use Rattle.terms.specs.declared.rules.Reduced.TheVariants.{Old, New}
use Rattle.terms.specs.Rules.{cut_at, cut_by_inner, cut_made, inner, is_constant, number_at}
use Rattle.terms.specs.Sheet.{Stands}
use Rattle.terms.proofs.WordRules.{cut_all, cut_cut, cut_high, cut_low}

known : (o : Option ℕ) → is_some o ≡ true → o ≡ Some (unwrap_or o 0)
known None h = cc
known (Some v) h = refl

-- the number of a constant, as what its look-up found
pub number_known : (ns : List Node) (i : ℕ) → is_constant ns i ≡ true → constant_of (node_at ns i) ≡ Some (number_at ns i)
number_known ns i h = known (constant_of (node_at ns i)) h

-- a fact of what was found
abbrev IfFound : (NodeId × ℕ → Type 0) → Option (NodeId × ℕ) → Type 0
IfFound P None = Unit {0}
IfFound P (Some p) = P p

module _ (ns : List Node) (widths : ℕ → ℕ) where
  -- what an inner cut is of: a lower node, and bits within it
  inner_is : (i : ℕ) (node : Node) (k n : ℕ) → IsNode widths i node
      → IfFound (λ p. (p.0.0 < i) × (k + n ≤ node_width widths node → p.1 + n ≤ widths p.0.0)) (inner ns widths node k n)
  inner_is i (Cut a j m) k n h = (h.0, λ within. omega (arith, h.2, within))
  inner_is i (Cat high low) k n h =
      let P : NodeId × ℕ → Type 0 = λ p. (p.0.0 < i) × (k + n ≤ widths high.0 + widths low.0 → p.1 + n ≤ widths p.0.0) in
      cond_both (nat_le (k + n) (widths low.0)) (Some (low, k)) (if nat_le (widths low.0) k then Some (high, k - widths low.0) else None)
      (IfFound (λ p. (p.0.0 < i) × (k + n ≤ widths high.0 + widths low.0 → p.1 + n ≤ widths p.0.0)))
      (λ t. (h.1, λ within. leb-true (k + n) (widths low.0) t))
      (λ f. cond_both (nat_le (widths low.0) k) (Some (high, k - widths low.0)) None
      (IfFound (λ p. (p.0.0 < i) × (k + n ≤ widths high.0 + widths low.0 → p.1 + n ≤ widths p.0.0)))
      (λ t. (h.0, λ within. omega (arith, leb-true (widths low.0) k t, within)))
      (λ f. tt))
  inner_is i (Const w v) k n h = tt
  inner_is i (Reg side r) k n h = tt
  inner_is i (Entry r) k n h = tt
  inner_is i (VecByte side r j) k n h = tt
  inner_is i (Start side at) k n h = tt
  inner_is i Probe k n h = tt
  inner_is i (Add a b) k n h = tt
  inner_is i (Sub a b) k n h = tt
  inner_is i (Mul a b) k n h = tt
  inner_is i (And a b) k n h = tt
  inner_is i (Or a b) k n h = tt
  inner_is i (Xor a b) k n h = tt
  inner_is i (Not a) k n h = tt
  inner_is i (Shl a j) k n h = tt
  inner_is i (Shr a j) k n h = tt
  inner_is i (Sar a j) k n h = tt
  inner_is i (Sx m a) k n h = tt
  inner_is i (Eq a b) k n h = tt
  inner_is i (Ult a b) k n h = tt
  inner_is i (Slt a b) k n h = tt
  inner_is i (If c a b) k n h = tt

  by_inner_same : (f g : ℕ → ℕ → ℕ → Reduced) (i k n : ℕ) (found : Option (NodeId × ℕ))
      → IfFound (λ p. f p.0.0 p.1 n ≡ g p.0.0 p.1 n) found
      → cut_by_inner ns widths f i k n found ≡ cut_by_inner ns widths g i k n found
  by_inner_same f g i k n None h = refl
  by_inner_same f g i k n (Some p) h = h

  found_weaker : (P Q : NodeId × ℕ → Type 0) → ((p : NodeId × ℕ) → P p → Q p) → (found : Option (NodeId × ℕ)) → IfFound P found → IfFound Q found
  found_weaker P Q f None h = tt
  found_weaker P Q f (Some p) h = f p h

  cut_local : (size : ℕ) → ((i : ℕ) → i < size → IsNode widths i (node_at ns i)) → IsLocal (cut_made ns widths) size
  cut_local size nodes f g i b same =
      λ t. λ k n. (if is_constant ns i then New (Const n (cut (number_at ns i) k n))
      else (if (k == 0) && (n == widths i) then Old (record { 0 = i })
      else by_inner_same f g i k n (inner ns widths (node_at ns i) k n)
      (found_weaker (λ p. (p.0.0 < i) × (k + n ≤ node_width widths (node_at ns i) → p.1 + n ≤ widths p.0.0)) (λ p. f p.0.0 p.1 n ≡ g p.0.0 p.1 n)
      (λ p h. ap (λ cuts. cuts p.1 n) (same p.0.0 h.0))
      (inner ns widths (node_at ns i) k n) (inner_is i (node_at ns i) k n (nodes i b))) t))

  -- a cut by the rules, from the cuts of lower nodes
  pub cut_at-is : (size : ℕ) → ((i : ℕ) → i < size → IsNode widths i (node_at ns i)) → (i k n : ℕ) → i < size
      → cut_at ns widths i k n ≡ cut_made ns widths (cut_at ns widths) i k n
  unfolding cut_at
  cut_at-is size nodes i k n b =
      ap (λ f. f k n) (from_lower-is (λ k m. Old (record { 0 = 0 })) (cut_made ns widths) size (cut_local size nodes) i b)

-- a test of two parts that do not hold together
both_false : (k n w : ℕ) → (k ≡ 0 → n ≡ w → ⊥) → ((k == 0) && (n == w)) ≡ false
both_false k n w h = elim (cases_Bool (k == 0)) [
  | inl t ↦ elim (cases_Bool (n == w)) [
    | inl u ↦ absurd (h (eqb-true k 0 t) (eqb-true n w u))
    | inr f ↦ rw (t, f) refl
  ]
  | inr f ↦ rw f refl
]

-- a cut by the rules, step by step
module _ (ns : List Node) (widths : ℕ → ℕ) (nodes : (i : ℕ) → i < length ns → IsNode widths i (node_at ns i)) (i k n : ℕ) (inside : i < length ns) where
  step : cut_at ns widths i k n ≡ cut_made ns widths (cut_at ns widths) i k n
  step = cut_at-is ns widths (length ns) nodes i k n inside

  pub cut_constant : (v : ℕ) → constant_of (node_at ns i) ≡ Some v → cut_at ns widths i k n ≡ New (Const n (cut v k n))
  cut_constant v h = step ∙ (λ t. if is_some (h t) then New (Const n (cut (unwrap_or (h t) 0) k n))
      else (if (k == 0) && (n == widths i) then Old (record { 0 = i }) else cut_by_inner ns widths (cut_at ns widths) i k n (inner ns widths (node_at ns i) k n)))

  module _ (other : constant_of (node_at ns i) ≡ None) where
    plain : cut_at ns widths i k n ≡ (if (k == 0) && (n == widths i) then Old (record { 0 = i }) else cut_by_inner ns widths (cut_at ns widths) i k n (inner ns widths (node_at ns i) k n))
    plain = step ∙ (λ t. if is_some (other t) then New (Const n (cut (number_at ns i) k n))
        else (if (k == 0) && (n == widths i) then Old (record { 0 = i }) else cut_by_inner ns widths (cut_at ns widths) i k n (inner ns widths (node_at ns i) k n)))

    pub cut_whole : k ≡ 0 → n ≡ widths i → cut_at ns widths i k n ≡ Old (record { 0 = i })
    cut_whole start size =
        let first : (k == 0) ≡ true = eq-eqb k 0 start in
        let second : (n == widths i) ≡ true = eq-eqb n (widths i) size in
        plain ∙ (λ t. if (first t) && (second t) then Old (record { 0 = i }) else cut_by_inner ns widths (cut_at ns widths) i k n (inner ns widths (node_at ns i) k n))

    pub cut_inner : (k ≡ 0 → n ≡ widths i → ⊥) → (found : Option (NodeId × ℕ)) → inner ns widths (node_at ns i) k n ≡ found
        → cut_at ns widths i k n ≡ cut_by_inner ns widths (cut_at ns widths) i k n found
    cut_inner not_whole found e =
        let part : ((k == 0) && (n == widths i)) ≡ false = both_false k n (widths i) not_whole in
        plain ∙ (λ t. if part t then Old (record { 0 = i }) else cut_by_inner ns widths (cut_at ns widths) i k n (e t))

module _ (ns : List Node) (sheet : IsSheet ns) where
  abbrev W : ℕ → ℕ
  W = width_at ns

  -- an inner cut has the value of the cut
  inner_value : (e : Environment) (i : ℕ) → i < length ns → (node : Node) → IsNode W i node → value_at e ns i ≡ node_value e W (value_at e ns) node
      → (k n : ℕ) → k + n ≤ node_width W node
      → IfFound (λ p. cut (value_at e ns p.0.0) p.1 n ≡ cut (value_at e ns i) k n) (inner ns W node k n)
  inner_value e i b (Cut a j m) h is k n within =
      sym (cut_cut (value_at e ns a.0) j m k n within) ∙ ap (λ x. cut x k n) (sym is)
  inner_value e i b (Cat high low) h is k n within =
      let word : value_at e ns low.0 < 2 ^ W low.0 = value_at-below ns sheet e low.0 (omega (arith, h.1, b)) in
      cond_both (nat_le (k + n) (W low.0)) (Some (low, k)) (if nat_le (W low.0) k then Some (high, k - W low.0) else None)
      (IfFound (λ p. cut (value_at e ns p.0.0) p.1 n ≡ cut (value_at e ns i) k n))
      (λ t. cut_low (W low.0) (value_at e ns high.0) (value_at e ns low.0) k n word (leb-true (k + n) (W low.0) t) ∙ ap (λ x. cut x k n) (sym is))
      (λ f. cond_both (nat_le (W low.0) k) (Some (high, k - W low.0)) None
      (IfFound (λ p. cut (value_at e ns p.0.0) p.1 n ≡ cut (value_at e ns i) k n))
      (λ t. cut_high (W low.0) (value_at e ns high.0) (value_at e ns low.0) k n word (leb-true (W low.0) k t) ∙ ap (λ x. cut x k n) (sym is))
      (λ f. tt))
  inner_value e i b (Const w v) h is k n within = tt
  inner_value e i b (Reg side r) h is k n within = tt
  inner_value e i b (Entry r) h is k n within = tt
  inner_value e i b (VecByte side r j) h is k n within = tt
  inner_value e i b (Start side at) h is k n within = tt
  inner_value e i b Probe h is k n within = tt
  inner_value e i b (Add x y) h is k n within = tt
  inner_value e i b (Sub x y) h is k n within = tt
  inner_value e i b (Mul x y) h is k n within = tt
  inner_value e i b (And x y) h is k n within = tt
  inner_value e i b (Or x y) h is k n within = tt
  inner_value e i b (Xor x y) h is k n within = tt
  inner_value e i b (Not x) h is k n within = tt
  inner_value e i b (Shl x j) h is k n within = tt
  inner_value e i b (Shr x j) h is k n within = tt
  inner_value e i b (Sar x j) h is k n within = tt
  inner_value e i b (Sx m x) h is k n within = tt
  inner_value e i b (Eq x y) h is k n within = tt
  inner_value e i b (Ult x y) h is k n within = tt
  inner_value e i b (Slt x y) h is k n within = tt
  inner_value e i b (If c x y) h is k n within = tt

  abbrev id_of : ℕ → NodeId
  id_of i = record { 0 = i }

  stands_for_cut : (i j k l n : ℕ) (r : Reduced) → Stands ns (Cut (id_of j) l n) r
      → ((e : Environment) → cut (value_at e ns j) l n ≡ cut (value_at e ns i) k n) → Stands ns (Cut (id_of i) k n) r
  stands_for_cut i j k l n (Old a) h same = (h.0, h.1, λ e. h.2 e ∙ same e)
  stands_for_cut i j k l n (New m) h same = (h.0, h.1, λ e. h.2 e ∙ same e)

  inner_stands : (i k n : ℕ) → (found : Option (NodeId × ℕ))
      → IfFound (λ p. (e : Environment) → cut (value_at e ns p.0.0) p.1 n ≡ cut (value_at e ns i) k n) found
      → IfFound (λ p. Stands ns (Cut p.0 p.1 n) (cut_at ns W p.0.0 p.1 n)) found
      → Stands ns (Cut (id_of i) k n) (New (Cut (id_of i) k n))
      → Stands ns (Cut (id_of i) k n) (cut_by_inner ns W (cut_at ns W) i k n found)
  inner_stands i k n None same lower itself = itself
  inner_stands i k n (Some p) same lower itself = stands_for_cut i p.0.0 k p.1 n (cut_at ns W p.0.0 p.1 n) lower same

  found_all : (P : Environment → NodeId × ℕ → Type 0) (found : Option (NodeId × ℕ)) → ((e : Environment) → IfFound (P e) found)
      → IfFound (λ p. (e : Environment) → P e p) found
  found_all P None h = tt
  found_all P (Some p) h = h

  cut_below : (m i k n : ℕ) → i < m → i < length ns → 0 < n → k + n ≤ W i → Stands ns (Cut (id_of i) k n) (cut_at ns W i k n)
  cut_below zero i k n a b some within = absurd (omega arith)
  cut_below (suc m) i k n a b some within =
      let within_node : k + n ≤ node_width W (node_at ns i) = subst (λ x. k + n ≤ x) (width_at-is ns sheet i b) within in
      let most : W i ≤ 64 = (width_ranged ns sheet i b).1 in
      let found : Option (NodeId × ℕ) = inner ns W (node_at ns i) k n in
      rw (cut_at-is ns W (length ns) sheet i k n b)
      (cond_both (is_constant ns i) (New (Const n (cut (number_at ns i) k n))) _ (Stands ns (Cut (id_of i) k n))
      (λ t. (
        (some, omega arith, mod_below _ (2 ^ n) (pow_pos n)),
        refl,
        λ e. ap (λ x. cut x k n) (sym (constant_at e ns sheet i (number_at ns i) b (number_known ns i t))),
      ))
      (λ f. cond_both ((k == 0) && (n == W i)) (Old (id_of i)) _ (Stands ns (Cut (id_of i) k n))
      (λ t.
      let all = and_parts (k == 0) (n == W i) t in
      let start : k ≡ 0 = eqb-true k 0 all.0 in
      let size : n ≡ W i = eqb-true n (W i) all.1 in
      (b, sym size, λ e. rw (start, size) (sym (cut_all (W i) (value_at e ns i) (value_at-below ns sheet e i b)))))
      (λ f. inner_stands i k n (inner ns W (node_at ns i) k n)
      (found_all (λ e p. cut (value_at e ns p.0.0) p.1 n ≡ cut (value_at e ns i) k n) (inner ns W (node_at ns i) k n)
      (λ e. inner_value e i b (node_at ns i) (sheet i b) (value_at-is ns sheet e i b) k n within_node))
      (found_weaker ns W (λ p. (p.0.0 < i) × (k + n ≤ node_width W (node_at ns i) → p.1 + n ≤ W p.0.0))
      (λ p. Stands ns (Cut p.0 p.1 n) (cut_at ns W p.0.0 p.1 n))
      (λ p h. cut_below m p.0.0 p.1 n (omega (arith, h.0)) (omega (arith, h.0)) some (h.1 within_node))
      (inner ns W (node_at ns i) k n) (inner_is ns W i (node_at ns i) k n (sheet i b)))
      ((b, some, within), refl, λ e. refl))))

  -- a cut by the rules stands for the cut
  pub cut_stands : (a : NodeId) (k n : ℕ) → IsNode W (length ns) (Cut a k n) → Stands ns (Cut a k n) (cut_at ns W a.0 k n)
  cut_stands a k n h = cut_below (suc a.0) a.0 k n (omega arith) h.0 h.1 h.2
