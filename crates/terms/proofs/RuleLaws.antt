-- What a node is by the rules stands for the node.
use Rattle.std.proofs.Common.{◌≡◌, ℕ, ◌+◌, ◌-◌, ◌^◌, ◌<◌, ◌≤◌, ◌==◌, List, [], ◌∷◌, Bool, true, false, ◌&&◌, length, refl, sym, ◌∙◌, ap, arith, if◌then◌else◌}
use Rattle.std.specs.Prelude.{nat_le, slice_index, bit_and, bit_or, bit_xor}
use Rattle.std.specs.List.{AllByRecursion, list_all}
use Rattle.std.specs.Int.Bits.{and_self, and_zero_r, or_self, or_zero_r, xor_self, xor_zero_r}
use Rattle.std.proofs.lemmas.Bool.{cond_both, eqb-true, and_parts}
use Rattle.std.proofs.lemmas.Nat.{and_comm, or_comm, xor_comm, pow_pos}
use Rattle.insn_semantics.specs.Words as words
use Rattle.insn_semantics.proofs.WordLaws.{minus_self}
use Rattle.node_values.specs.declared.node.Node.{Node}
use Rattle.node_values.specs.declared.node.Node.TheVariants.{Const, Reg, Entry, VecByte, Start, Probe, Add, Sub, Mul, And, Or, Xor, Not, Shl, Shr, Sar, Cat, Cut, Sx, Eq, Ult, Slt, If}
use Rattle.node_values.specs.declared.node.NodeId.{NodeId}
use Rattle.node_values.specs.Nodes.{AreAlike, IsNode, arguments, node_width}
use Rattle.node_values.specs.Values.{Environment, node_value, operation}
use Rattle.node_values.specs.Sheets.{IsSheet, node_at, value_at, width_at}
use Rattle.node_values.proofs.NodeLaws.{AllArguments, IsWordWidth, SameAt, arguments_lower, node_value_below, node_value_same, node_width_ranged}
use Rattle.node_values.proofs.SheetLaws.{value_at-below, value_at-is, width_at-is, width_ranged}
use Rattle.node_forms.specs.Forms.{differ_by_constant, form_at}
use Rattle.node_forms.proofs.ValueLaws.{constant_at}
use Rattle.node_forms.proofs.FormValues.{equal_by_forms}
use Rattle.terms.specs.declared.rules.Reduced.{Reduced}
use Rattle.terms.specs.declared.rules.Reduced.TheVariants.{Old, New}
use Rattle.terms.specs.Rules.{are_constants, folded, is_constant, is_folded, is_number, joined, number_at, ordered, part_of, reduced, unfolded}
use Rattle.terms.specs.Sheet.{Stands}
use Rattle.terms.proofs.CutLaws.{cut_stands, number_known}
use Rattle.terms.proofs.WordRules.{and_ones, below_self, below_zero, choice_self, cut_all, equal_comm, join_cuts, minus_zero, plus_comm, plus_zero, times_comm}

-- the environment in which all is 0
nowhere : Environment
nowhere = record { regs = λ side r. 0; entry = λ r. 0; vecs = λ side r i. 0; memory = λ side a. 0; probe = 0 }

module _ (ns : List Node) (sheet : IsSheet ns) where
  abbrev W : ℕ → ℕ
  W = width_at ns

  abbrev V : Environment → ℕ → ℕ
  V e = value_at e ns

  -- the value of a number of the sheet
  number_value : (e : Environment) (v i : ℕ) → i < length ns → is_number ns v i ≡ true → V e i ≡ v
  number_value e v i b h =
      let all = and_parts (is_constant ns i) (number_at ns i == v) h in
      constant_at e ns sheet i (number_at ns i) b (number_known ns i all.0) ∙ eqb-true (number_at ns i) v all.1

  all_constants : (is : List ℕ) → list_all (is_constant ns) is ≡ true → AllByRecursion (λ i. is_constant ns i ≡ true) is
  all_constants [] h = tt
  all_constants (i ∷ is) h =
      let all = and_parts (is_constant ns i) (list_all (is_constant ns) is) h in (all.0, all_constants is all.1)

  constants : (is : List ℕ) → are_constants ns is ≡ true → AllByRecursion (λ i. is_constant ns i ≡ true) is
  constants [] h = tt
  constants (i ∷ is) h = all_constants (i ∷ is) h

  both_all : (P Q R : ℕ → Type 0) → ((i : ℕ) → P i → Q i → R i) → (is : List ℕ) → AllByRecursion P is → AllByRecursion Q is → AllByRecursion R is
  both_all P Q R f [] h k = tt
  both_all P Q R f (i ∷ is) h k = (f i h.0 k.0, both_all P Q R f is h.1 k.1)

  -- a node of constants is the operation on their numbers
  operated : (e : Environment) (n : Node) (X : ℕ → ℕ) → is_folded ns n ≡ true
      → node_value e W X n ≡ operation W n (X (slice_index (arguments n) 0)) (X (slice_index (arguments n) 1)) (X (slice_index (arguments n) 2))
  operated e (Const w v) X h = refl
  operated e (Reg side r) X h = cc
  operated e (Entry r) X h = cc
  operated e (VecByte side r i) X h = cc
  operated e (Start side at) X h = cc
  operated e Probe X h = cc
  operated e _ X h = refl

  folded_arguments : (n : Node) → is_folded ns n ≡ true → AllArguments (λ i. is_constant ns i ≡ true) n
  folded_arguments (Start side at) h = cc
  folded_arguments (Const w v) h = constants [] h
  folded_arguments (Reg side r) h = tt
  folded_arguments (Entry r) h = tt
  folded_arguments (VecByte side r i) h = tt
  folded_arguments Probe h = tt
  folded_arguments (Add a b) h = constants (a.0 ∷ b.0 ∷ []) h
  folded_arguments (Sub a b) h = constants (a.0 ∷ b.0 ∷ []) h
  folded_arguments (Mul a b) h = constants (a.0 ∷ b.0 ∷ []) h
  folded_arguments (And a b) h = constants (a.0 ∷ b.0 ∷ []) h
  folded_arguments (Or a b) h = constants (a.0 ∷ b.0 ∷ []) h
  folded_arguments (Xor a b) h = constants (a.0 ∷ b.0 ∷ []) h
  folded_arguments (Not a) h = constants (a.0 ∷ []) h
  folded_arguments (Shl a k) h = constants (a.0 ∷ []) h
  folded_arguments (Shr a k) h = constants (a.0 ∷ []) h
  folded_arguments (Sar a k) h = constants (a.0 ∷ []) h
  folded_arguments (Cat a b) h = constants (a.0 ∷ b.0 ∷ []) h
  folded_arguments (Cut a k m) h = constants (a.0 ∷ []) h
  folded_arguments (Sx m a) h = constants (a.0 ∷ []) h
  folded_arguments (Eq a b) h = constants (a.0 ∷ b.0 ∷ []) h
  folded_arguments (Ult a b) h = constants (a.0 ∷ b.0 ∷ []) h
  folded_arguments (Slt a b) h = constants (a.0 ∷ b.0 ∷ []) h
  folded_arguments (If c a b) h = constants (c.0 ∷ a.0 ∷ b.0 ∷ []) h

  module _ (n : Node) (node : IsNode W (length ns) n) where
    folded_value : (e : Environment) → is_folded ns n ≡ true → node_value e W (number_at ns) n ≡ node_value e W (V e) n
    folded_value e h =
        node_value_same e W W (number_at ns) (V e) n
        (both_all (λ i. is_constant ns i ≡ true) (λ i. i < length ns) (SameAt e W W (number_at ns) (V e))
        (λ i c b. (refl, sym (constant_at e ns sheet i (number_at ns i) b (number_known ns i c))))
        (arguments n) (folded_arguments n h)
        (arguments_lower (λ i. i < length ns) W (length ns) n node (λ j b. b)))

    folded_stands : is_folded ns n ≡ true → Stands ns n (New (folded ns W n))
    folded_stands h =
        let value : (e : Environment) → operation W n (number_at ns (slice_index (arguments n) 0)) (number_at ns (slice_index (arguments n) 1)) (number_at ns (slice_index (arguments n) 2)) ≡ node_value e W (V e) n =
        λ e. sym (operated e n (number_at ns) h) ∙ folded_value e h in
        let ranged : IsWordWidth (node_width W n) =
        node_width_ranged W (length ns) n node (arguments_lower (λ j. IsWordWidth (W j)) W (length ns) n node (λ j b. width_ranged ns sheet j b)) in
        let below : node_value nowhere W (V nowhere) n < 2 ^ node_width W n =
        node_value_below nowhere W (V nowhere) (length ns) n node
        (arguments_lower (λ j. V nowhere j < 2 ^ W j) W (length ns) n node (λ j b. value_at-below ns sheet nowhere j b)) in
        ((ranged.0, ranged.1, rw (value nowhere) below), refl, value)

  word : (e : Environment) (a : NodeId) → a.0 < length ns → V e a.0 < 2 ^ W a.0
  word e a b = value_at-below ns sheet e a.0 b

  -- an old node with the node's width and value
  old : (n : Node) (a : NodeId) → a.0 < length ns → W a.0 ≡ node_width W n → ((e : Environment) → V e a.0 ≡ node_value e W (V e) n) → Stands ns n (Old a)
  old n a b w v = (b, w, v)

  -- the constant 0
  zero_stands : (n : Node) (w : ℕ) → (0 < w) × (w ≤ 64) → w ≡ node_width W n → ((e : Environment) → node_value e W (V e) n ≡ 0) → Stands ns n (New (Const w 0))
  zero_stands n w ranged same v = ((ranged.0, ranged.1, pow_pos w), same, λ e. sym (v e))

  itself : (n : Node) → IsNode W (length ns) n → Stands ns n (New n)
  itself n node = (node, refl, λ e. refl)

  -- a node with its arguments in order
  ordered_stands : (operator : NodeId → NodeId → Node) (n : Node) (a b : NodeId) → Stands ns n (New (operator a b)) → Stands ns n (New (operator b a))
      → Stands ns n (ordered operator a b)
  ordered_stands operator n a b h k =
      cond_both {A = NodeId × NodeId} (nat_le a.0 b.0) (a, b) (b, a) (λ p. Stands ns n (New (operator p.0 p.1))) (λ t. h) (λ f. k)

  turned : (a b : NodeId) → AreAlike W (length ns) a.0 b.0 → AreAlike W (length ns) b.0 a.0
  turned a b h = (h.1, h.0, sym h.2)

  add_stands : (a b : NodeId) → AreAlike W (length ns) a.0 b.0 → Stands ns (Add a b) (unfolded ns W (Add a b))
  add_stands a b h =
      cond_both (is_number ns 0 b.0) (Old a) _ (Stands ns (Add a b))
      (λ t. old (Add a b) a h.0 refl (λ e. sym (ap (words.plus (W a.0) (V e a.0)) (number_value e 0 b.0 h.1 t) ∙ plus_zero (W a.0) (V e a.0) (word e a h.0))))
      (λ f. cond_both (is_number ns 0 a.0) (Old b) _ (Stands ns (Add a b))
      (λ t. old (Add a b) b h.1 (sym h.2)
      (λ e. sym (plus_comm (W a.0) (V e a.0) (V e b.0) ∙ ap (words.plus (W a.0) (V e b.0)) (number_value e 0 a.0 h.0 t)
      ∙ plus_zero (W a.0) (V e b.0) (rw h.2 (word e b h.1)))))
      (λ f. ordered_stands Add (Add a b) a b (itself (Add a b) h)
      (turned a b h, sym h.2, λ e. ap (λ w. words.plus w (V e b.0) (V e a.0)) (sym h.2) ∙ plus_comm (W a.0) (V e b.0) (V e a.0))))

  sub_stands : (a b : NodeId) → AreAlike W (length ns) a.0 b.0 → Stands ns (Sub a b) (unfolded ns W (Sub a b))
  sub_stands a b h =
      cond_both (is_number ns 0 b.0) (Old a) _ (Stands ns (Sub a b))
      (λ t. old (Sub a b) a h.0 refl (λ e. sym (ap (words.minus (W a.0) (V e a.0)) (number_value e 0 b.0 h.1 t) ∙ minus_zero (W a.0) (V e a.0) (word e a h.0))))
      (λ f. cond_both (a.0 == b.0) _ (New (Sub a b)) (Stands ns (Sub a b))
      (λ t. let same : a.0 ≡ b.0 = eqb-true a.0 b.0 t in
      zero_stands (Sub a b) (W a.0) (width_ranged ns sheet a.0 h.0) refl
      (λ e. ap (λ i. words.minus (W a.0) (V e a.0) (V e i)) (sym same) ∙ minus_self (W a.0) (V e a.0) (word e a h.0)))
      (λ f. itself (Sub a b) h))

  mul_stands : (a b : NodeId) → AreAlike W (length ns) a.0 b.0 → Stands ns (Mul a b) (unfolded ns W (Mul a b))
  mul_stands a b h =
      ordered_stands Mul (Mul a b) a b (itself (Mul a b) h)
      (turned a b h, sym h.2, λ e. ap (λ w. words.times w (V e b.0) (V e a.0)) (sym h.2) ∙ times_comm (W a.0) (V e b.0) (V e a.0))

  and_stands : (a b : NodeId) → AreAlike W (length ns) a.0 b.0 → Stands ns (And a b) (unfolded ns W (And a b))
  and_stands a b h =
      cond_both (is_number ns (2 ^ W b.0 - 1) b.0) (Old a) _ (Stands ns (And a b))
      (λ t. old (And a b) a h.0 refl (λ e. sym (ap (bit_and (V e a.0)) (number_value e (2 ^ W b.0 - 1) b.0 h.1 t) ∙ and_ones (W b.0) (V e a.0) (rw (← h.2) (word e a h.0)))))
      (λ f. cond_both (is_number ns (2 ^ W a.0 - 1) a.0) (Old b) _ (Stands ns (And a b))
      (λ t. old (And a b) b h.1 (sym h.2)
      (λ e. sym (and_comm (V e a.0) (V e b.0) ∙ ap (bit_and (V e b.0)) (number_value e (2 ^ W a.0 - 1) a.0 h.0 t) ∙ and_ones (W a.0) (V e b.0) (rw h.2 (word e b h.1)))))
      (λ f. cond_both (is_number ns 0 b.0) (Old b) _ (Stands ns (And a b))
      (λ t. old (And a b) b h.1 (sym h.2)
      (λ e. let none : V e b.0 ≡ 0 = number_value e 0 b.0 h.1 t in none ∙ sym (ap (bit_and (V e a.0)) none ∙ and_zero_r (V e a.0))))
      (λ f. cond_both (is_number ns 0 a.0) (Old a) _ (Stands ns (And a b))
      (λ t. old (And a b) a h.0 refl
      (λ e. let none : V e a.0 ≡ 0 = number_value e 0 a.0 h.0 t in
      none ∙ sym (and_comm (V e a.0) (V e b.0) ∙ ap (bit_and (V e b.0)) none ∙ and_zero_r (V e b.0))))
      (λ f. cond_both (a.0 == b.0) (Old a) _ (Stands ns (And a b))
      (λ t. old (And a b) a h.0 refl (λ e. sym (ap (λ i. bit_and (V e a.0) (V e i)) (sym (eqb-true a.0 b.0 t)) ∙ and_self (V e a.0))))
      (λ f. ordered_stands And (And a b) a b (itself (And a b) h) (turned a b h, sym h.2, λ e. and_comm (V e b.0) (V e a.0)))))))

  or_stands : (a b : NodeId) → AreAlike W (length ns) a.0 b.0 → Stands ns (Or a b) (unfolded ns W (Or a b))
  or_stands a b h =
      cond_both (is_number ns 0 b.0) (Old a) _ (Stands ns (Or a b))
      (λ t. old (Or a b) a h.0 refl (λ e. sym (ap (bit_or (V e a.0)) (number_value e 0 b.0 h.1 t) ∙ or_zero_r (V e a.0))))
      (λ f. cond_both (is_number ns 0 a.0) (Old b) _ (Stands ns (Or a b))
      (λ t. old (Or a b) b h.1 (sym h.2)
      (λ e. sym (or_comm (V e a.0) (V e b.0) ∙ ap (bit_or (V e b.0)) (number_value e 0 a.0 h.0 t) ∙ or_zero_r (V e b.0))))
      (λ f. cond_both (a.0 == b.0) (Old a) _ (Stands ns (Or a b))
      (λ t. old (Or a b) a h.0 refl (λ e. sym (ap (λ i. bit_or (V e a.0) (V e i)) (sym (eqb-true a.0 b.0 t)) ∙ or_self (V e a.0))))
      (λ f. ordered_stands Or (Or a b) a b (itself (Or a b) h) (turned a b h, sym h.2, λ e. or_comm (V e b.0) (V e a.0)))))

  xor_stands : (a b : NodeId) → AreAlike W (length ns) a.0 b.0 → Stands ns (Xor a b) (unfolded ns W (Xor a b))
  xor_stands a b h =
      cond_both (is_number ns 0 b.0) (Old a) _ (Stands ns (Xor a b))
      (λ t. old (Xor a b) a h.0 refl (λ e. sym (ap (bit_xor (V e a.0)) (number_value e 0 b.0 h.1 t) ∙ xor_zero_r (V e a.0))))
      (λ f. cond_both (is_number ns 0 a.0) (Old b) _ (Stands ns (Xor a b))
      (λ t. old (Xor a b) b h.1 (sym h.2)
      (λ e. sym (xor_comm (V e a.0) (V e b.0) ∙ ap (bit_xor (V e b.0)) (number_value e 0 a.0 h.0 t) ∙ xor_zero_r (V e b.0))))
      (λ f. cond_both (a.0 == b.0) _ _ (Stands ns (Xor a b))
      (λ t. zero_stands (Xor a b) (W a.0) (width_ranged ns sheet a.0 h.0) refl
      (λ e. ap (λ i. bit_xor (V e a.0) (V e i)) (sym (eqb-true a.0 b.0 t)) ∙ xor_self (V e a.0)))
      (λ f. ordered_stands Xor (Xor a b) a b (itself (Xor a b) h) (turned a b h, sym h.2, λ e. xor_comm (V e b.0) (V e a.0)))))

  one_bit : (0 < 1) × (1 ≤ 64)
  one_bit = (omega arith, omega arith)

  ult_stands : (a b : NodeId) → AreAlike W (length ns) a.0 b.0 → Stands ns (Ult a b) (unfolded ns W (Ult a b))
  ult_stands a b h =
      cond_both (a.0 == b.0) (New (Const 1 0)) _ (Stands ns (Ult a b))
      (λ t. zero_stands (Ult a b) 1 one_bit refl (λ e. ap (λ i. words.below (V e a.0) (V e i)) (sym (eqb-true a.0 b.0 t)) ∙ below_self (V e a.0)))
      (λ f. cond_both (is_number ns 0 b.0) (New (Const 1 0)) (New (Ult a b)) (Stands ns (Ult a b))
      (λ t. zero_stands (Ult a b) 1 one_bit refl (λ e. ap (words.below (V e a.0)) (number_value e 0 b.0 h.1 t) ∙ below_zero (V e a.0)))
      (λ f. itself (Ult a b) h))

  slt_stands : (a b : NodeId) → AreAlike W (length ns) a.0 b.0 → Stands ns (Slt a b) (unfolded ns W (Slt a b))
  slt_stands a b h =
      cond_both (a.0 == b.0) (New (Const 1 0)) (New (Slt a b)) (Stands ns (Slt a b))
      (λ t. zero_stands (Slt a b) 1 one_bit refl
      (λ e. ap (λ i. words.signed_below (W a.0) (V e a.0) (V e i)) (sym (eqb-true a.0 b.0 t)) ∙ below_self (words.plus (W a.0) (V e a.0) (2 ^ (W a.0 - 1)))))
      (λ f. itself (Slt a b) h)

  if_stands : (c a b : NodeId) → IsNode W (length ns) (If c a b) → Stands ns (If c a b) (unfolded ns W (If c a b))
  if_stands c a b h =
      cond_both (is_constant ns c.0) _ _ (Stands ns (If c a b))
      (λ t. let number : (e : Environment) → V e c.0 ≡ number_at ns c.0 = λ e. constant_at e ns sheet c.0 (number_at ns c.0) h.0 (number_known ns c.0 t) in
      cond_both (number_at ns c.0 == 0) (Old b) (Old a) (Stands ns (If c a b))
      (λ z. old (If c a b) b h.2.1 (sym h.2.2) (λ e. sym (ap (λ n. words.choice n (V e a.0) (V e b.0)) (number e) ∙ ap (λ p. if p then V e b.0 else V e a.0) z)))
      (λ z. old (If c a b) a h.2.0 refl (λ e. sym (ap (λ n. words.choice n (V e a.0) (V e b.0)) (number e) ∙ ap (λ p. if p then V e b.0 else V e a.0) z))))
      (λ f. cond_both (a.0 == b.0) (Old a) (New (If c a b)) (Stands ns (If c a b))
      (λ t. old (If c a b) a h.2.0 refl (λ e. sym (ap (λ i. words.choice (V e c.0) (V e a.0) (V e i)) (sym (eqb-true a.0 b.0 t)) ∙ choice_self (V e c.0) (V e a.0))))
      (λ f. itself (If c a b) h))

  eq_stands : (a b : NodeId) → AreAlike W (length ns) a.0 b.0 → Stands ns (Eq a b) (unfolded ns W (Eq a b))
  eq_stands a b h =
      cond_both (differ_by_constant ns (W a.0) a.0 b.0) _ _ (Stands ns (Eq a b))
      (λ t. (
        (omega arith, omega arith, bit_word ((form_at ns (W a.0) a.0).constant == (form_at ns (W a.0) b.0).constant)),
        refl,
        λ e. ap words.bit (sym (equal_by_forms ns sheet e a.0 b.0 h.0 h.1 h.2 t)),
      ))
      (λ f. ordered_stands Eq (Eq a b) a b (itself (Eq a b) h) (turned a b h, refl, λ e. equal_comm (V e b.0) (V e a.0)))
    where
      bit_word : (t : Bool) → words.bit t < 2 ^ 1
      bit_word true = omega arith
      bit_word false = omega arith

  -- a node is the cut that it counts as
  abbrev Part : NodeId → NodeId × ℕ × ℕ → Type 0
  Part at p =
      (p.0.0 < length ns) × (0 < p.2) × (p.1 + p.2 ≤ W p.0.0) × (p.2 ≡ W at.0)
      × ((e : Environment) → V e at.0 ≡ words.cut (V e p.0.0) p.1 p.2)

  whole_part : (at : NodeId) → at.0 < length ns → Part at (at, 0, W at.0)
  whole_part at b = (b, (width_ranged ns sheet at.0 b).0, omega arith, refl, λ e. sym (cut_all (W at.0) (V e at.0) (word e at b)))

  part_is : (at : NodeId) → at.0 < length ns → (n : Node) → IsNode W at.0 n → W at.0 ≡ node_width W n
      → ((e : Environment) → V e at.0 ≡ node_value e W (V e) n) → Part at (part_of ns W at n)
  part_is at b (Cut a k m) h w v = (omega (arith, h.0, b), h.1, h.2, sym w, v)
  part_is at b _ h w v = whole_part at b

  cat_stands : (high low : NodeId) → IsNode W (length ns) (Cat high low) → Stands ns (Cat high low) (unfolded ns W (Cat high low))
  cat_stands high low h =
      joined_stands (part_of ns W high (node_at ns high.0)) (part_of ns W low (node_at ns low.0))
      (part_is high h.0 (node_at ns high.0) (sheet high.0 h.0) (width_at-is ns sheet high.0 h.0) (λ e. value_at-is ns sheet e high.0 h.0))
      (part_is low h.1 (node_at ns low.0) (sheet low.0 h.1) (width_at-is ns sheet low.0 h.1) (λ e. value_at-is ns sheet e low.0 h.1))
    where
      for_join : (l : NodeId × ℕ × ℕ) (n : ℕ) (r : Reduced) → Stands ns (Cut l.0 l.1 n) r → n ≡ node_width W (Cat high low)
          → ((e : Environment) → words.cut (V e l.0.0) l.1 n ≡ node_value e W (V e) (Cat high low)) → Stands ns (Cat high low) r
      for_join l n (Old a) s w v = (s.0, s.1 ∙ w, λ e. s.2 e ∙ v e)
      for_join l n (New m) s w v = (s.0, s.1 ∙ w, λ e. s.2 e ∙ v e)

      joined_stands : (p l : NodeId × ℕ × ℕ) → Part high p → Part low l → Stands ns (Cat high low) (joined ns W high low p l)
      joined_stands p l hp hl =
          cond_both ((p.0.0 == l.0.0) && (p.1 == l.1 + l.2)) _ (New (Cat high low)) (Stands ns (Cat high low))
          (λ t.
          let all = and_parts (p.0.0 == l.0.0) (p.1 == l.1 + l.2) t in
          let same : p.0.0 ≡ l.0.0 = eqb-true p.0.0 l.0.0 all.0 in
          let next : p.1 ≡ l.1 + l.2 = eqb-true p.1 (l.1 + l.2) all.1 in
          let within : l.1 + (l.2 + p.2) ≤ W l.0.0 = omega (arith, next, hp.2, ap W same) in
          for_join l (l.2 + p.2) _ (cut_stands ns sheet l.0 l.1 (l.2 + p.2) (hl.0, omega (arith, hl.1), within))
          (omega (arith, hp.3, hl.3))
          (λ e. sym ((λ i. words.concatenation (sym hl.3 i) (hp.4 e i) (hl.4 e i))
          ∙ (λ i. words.concatenation l.2 (words.cut (V e (same i)) (next i) p.2) (words.cut (V e l.0.0) l.1 l.2))
          ∙ join_cuts (V e l.0.0) l.1 l.2 p.2)))
          (λ f. itself (Cat high low) h)

  unfolded_stands : (n : Node) → IsNode W (length ns) n → Stands ns n (unfolded ns W n)
  unfolded_stands (Add a b) h = add_stands a b h
  unfolded_stands (Sub a b) h = sub_stands a b h
  unfolded_stands (Mul a b) h = mul_stands a b h
  unfolded_stands (And a b) h = and_stands a b h
  unfolded_stands (Or a b) h = or_stands a b h
  unfolded_stands (Xor a b) h = xor_stands a b h
  unfolded_stands (Cat a b) h = cat_stands a b h
  unfolded_stands (Cut a k m) h = cut_stands ns sheet a k m h
  unfolded_stands (Eq a b) h = eq_stands a b h
  unfolded_stands (Ult a b) h = ult_stands a b h
  unfolded_stands (Slt a b) h = slt_stands a b h
  unfolded_stands (If c a b) h = if_stands c a b h
  unfolded_stands (Const w v) h = itself (Const w v) h
  unfolded_stands (Reg side r) h = itself (Reg side r) h
  unfolded_stands (Entry r) h = itself (Entry r) h
  unfolded_stands (VecByte side r i) h = itself (VecByte side r i) h
  unfolded_stands (Start side at) h = itself (Start side at) h
  unfolded_stands Probe h = itself Probe h
  unfolded_stands (Not a) h = itself (Not a) h
  unfolded_stands (Shl a k) h = itself (Shl a k) h
  unfolded_stands (Shr a k) h = itself (Shr a k) h
  unfolded_stands (Sar a k) h = itself (Sar a k) h
  unfolded_stands (Sx m a) h = itself (Sx m a) h

  -- what a node is by the rules stands for the node
  pub reduced_stands : (n : Node) → IsNode W (length ns) n → Stands ns n (reduced ns n)
  unfolding reduced
  reduced_stands n h =
      cond_both (is_folded ns n) (New (folded ns W n)) (unfolded ns W n) (Stands ns n) (λ t. folded_stands n h t) (λ f. unfolded_stands n h)
