-- A node's value is, modulo 2^w, the value of its form.
use Rattle.std.proofs.Common.{◌≡◌, ℕ, zero, suc, ◌+◌, ◌*◌, ◌%◌, ◌^◌, ◌<◌, ◌≤◌, ◌==◌, List, Bool, true, false, ◌&&◌, length, refl, sym, ◌∙◌, ap, subst, arith, inl, inr, if◌then◌else◌}
use Rattle.std.proofs.lemmas.Bool.{cases_Bool, cases_lt, true≢false, eqb-false, eqb-true, eq-eqb, ne_eqb}
use Rattle.insn_semantics.specs.Words as words
use Rattle.insn_semantics.proofs.WordLaws.{plus-minus}
use Rattle.std.proofs.Math.Nat.{mod-eq_of_lt}
use Rattle.node_values.specs.declared.node.Node.{Node}
use Rattle.node_values.specs.declared.node.NodeId.{NodeId}
use Rattle.node_values.specs.Nodes.{node_width}
use Rattle.node_values.specs.Values.{Environment}
use Rattle.node_values.specs.Sheets.{IsSheet, node_at, value_at, width_at}
use Rattle.node_values.proofs.SheetLaws.{value_at-below, width_at-is, width_ranged}
use Rattle.node_forms.specs.declared.linear.Linear.{Linear}
use Rattle.node_forms.specs.declared.linear.Linear.TheVariants.{Atom, Number, Times, Plus, Minus}
use Rattle.node_forms.specs.Linearity.{linearity}
use Rattle.node_forms.specs.Forms.{LinearForm, differ_by_constant, form_at, form_by, form_value, holds_below, sum_to}
use Rattle.node_forms.specs.Sums.{Follows, SameWord}
use Rattle.node_forms.proofs.Residues.{same_add, same_below, same_drop, same_low, same_number, same_times}
use Rattle.node_forms.proofs.LinearLaws.{AllParts, IsLower, linearity_parts, parts_weaker}
use Rattle.node_forms.proofs.FormLaws.{coefficient_below, constant_below, form_at-is}
use Rattle.node_forms.proofs.ValueLaws.{value_linear}

-- sums to n of what is the same at each place
module _ (w : ℕ) where
  sum_same : (f g : ℕ → ℕ) → ((x : ℕ) → SameWord w (f x) (g x)) → (n : ℕ) → SameWord w (sum_to f n) (sum_to g n)
  sum_same f g h zero = refl
  sum_same f g h (suc n) = same_add w (sum_to f n) (sum_to g n) (f n) (g n) (sum_same f g h n) (h n)

sum_equal : (f g : ℕ → ℕ) (n : ℕ) → ((x : ℕ) → x < n → f x ≡ g x) → sum_to f n ≡ sum_to g n
sum_equal f g zero h = refl
sum_equal f g (suc n) h = let here : f n ≡ g n = h n (omega arith) in λ i. sum_equal f g n (λ x b. h x (omega arith)) i + here i

sum_times : (k : ℕ) (f : ℕ → ℕ) (n : ℕ) → sum_to (λ x. k * f x) n ≡ k * sum_to f n
sum_times k f zero = omega arith
sum_times k f (suc n) = omega (arith, sum_times k f n)

sum_add : (f g : ℕ → ℕ) (n : ℕ) → sum_to (λ x. f x + g x) n ≡ sum_to f n + sum_to g n
sum_add f g zero = omega arith
sum_add f g (suc n) = omega (arith, sum_add f g n)

-- one place alone
one_at : (i : ℕ) (V : ℕ → ℕ) (n : ℕ) → i < n → sum_to (λ x. (if x == i then 1 else 0) * V x) n ≡ V i
one_at i V zero b = absurd (omega arith)
one_at i V (suc n) b = elim (cases_lt i n) [
  | inl before ↦
      let other : (n == i) ≡ false = ne_eqb n i (λ e. absurd (omega (arith, e, before))) in
      rw other (omega (arith, one_at i V n before))
  | inr here ↦
      let e : n ≡ i = omega arith in
      let same : (n == i) ≡ true = eq-eqb n i e in
      let none : sum_to (λ x. (if x == i then 1 else 0) * V x) n ≡ 0 = none_before i V n (omega arith) in
      rw (same, none, e) (omega arith)
]
  where
    none_before : (i : ℕ) (V : ℕ → ℕ) (n : ℕ) → n ≤ i → sum_to (λ x. (if x == i then 1 else 0) * V x) n ≡ 0
    none_before i V zero b = refl
    none_before i V (suc n) b =
        let other : (n == i) ≡ false = ne_eqb n i (λ e. absurd (omega (arith, e, b))) in
        rw other (omega (arith, none_before i V n (omega arith)))

module _ (w : ℕ) (positive : 0 < w) (ns : List Node) (sheet : IsSheet ns) (e : Environment) where
  abbrev V : ℕ → ℕ
  V j = value_at e ns j

  abbrev T : ℕ → ℕ
  T j = form_value (form_at ns w j) (value_at e ns) (length ns)

  abbrev S : ℕ → ℕ
  S j = sum_to (λ x. (form_at ns w j).coefficient x * V x) (length ns)

  -- the values of forms come from the values of the parts' forms as the nodes do
  form_value_follows : (i : ℕ) → i < length ns → (linear : Linear) → AllParts (λ a. a.0 < length ns) linear
      → form_at ns w i ≡ form_by w (form_at ns w) i linear → Follows w 1 T i linear
  form_value_follows i b Atom parts is = tt
  form_value_follows i b (Number v) parts is =
      rw is
      (same_add w (sum_to (λ x. 0 * V x) (length ns)) 0 (v % 2 ^ w) v (same_number w (sum_to (λ x. 0 * V x) (length ns)) 0 (zeros (length ns))) (same_low w v)
      ∙ same_number w (0 + v) (1 * v) (omega arith))
    where
      zeros : (n : ℕ) → sum_to (λ x. 0 * V x) n ≡ 0
      zeros zero = refl
      zeros (suc n) = omega (arith, zeros n)
  form_value_follows i b (Times a v) parts is =
      let A : ℕ → ℕ = λ x. (form_at ns w a.0).coefficient x in
      let C : ℕ = (form_at ns w a.0).constant in
      rw is
      (same_add w (sum_to (λ x. words.times w v ((form_at ns w a.0).coefficient x) * V x) (length ns)) (v * S a.0) (words.times w v C) (v * C)
      (sum_same w (λ x. words.times w v ((form_at ns w a.0).coefficient x) * V x) (λ x. v * ((form_at ns w a.0).coefficient x * V x))
      (λ x. same_times w (words.times w v ((form_at ns w a.0).coefficient x)) (v * (form_at ns w a.0).coefficient x) (V x) (V x) (same_low w (v * (form_at ns w a.0).coefficient x)) refl
      ∙ same_number w (v * (form_at ns w a.0).coefficient x * V x) (v * ((form_at ns w a.0).coefficient x * V x)) (omega arith))
      (length ns)
      ∙ same_number w _ (v * S a.0) (sum_times v (λ x. (form_at ns w a.0).coefficient x * V x) (length ns)))
      (same_low w (v * C))
      ∙ same_number w (v * S a.0 + v * C) (v * (S a.0 + C)) (omega arith))
  form_value_follows i b (Plus a c) parts is =
      let f : ℕ → ℕ = λ x. (form_at ns w a.0).coefficient x * V x in
      let A : ℕ = (form_at ns w a.0).constant in
      let C : ℕ = (form_at ns w c.0).constant in
      rw is
      (same_add w (sum_to (λ x. words.plus w ((form_at ns w a.0).coefficient x) ((form_at ns w c.0).coefficient x) * V x) (length ns)) (S a.0 + S c.0) (words.plus w A C) (A + C)
      (sum_same w (λ x. words.plus w ((form_at ns w a.0).coefficient x) ((form_at ns w c.0).coefficient x) * V x)
      (λ x. (form_at ns w a.0).coefficient x * V x + (form_at ns w c.0).coefficient x * V x)
      (λ x. same_times w (words.plus w ((form_at ns w a.0).coefficient x) ((form_at ns w c.0).coefficient x)) ((form_at ns w a.0).coefficient x + (form_at ns w c.0).coefficient x) (V x) (V x)
      (same_low w ((form_at ns w a.0).coefficient x + (form_at ns w c.0).coefficient x)) refl
      ∙ same_number w (((form_at ns w a.0).coefficient x + (form_at ns w c.0).coefficient x) * V x) ((form_at ns w a.0).coefficient x * V x + (form_at ns w c.0).coefficient x * V x) (omega arith))
      (length ns)
      ∙ same_number w _ (S a.0 + S c.0) (sum_add (λ x. (form_at ns w a.0).coefficient x * V x) (λ x. (form_at ns w c.0).coefficient x * V x) (length ns)))
      (same_low w (A + C))
      ∙ same_number w (S a.0 + S c.0 + (A + C)) (S a.0 + A + (S c.0 + C)) (omega arith))
  form_value_follows i b (Minus a c) parts is =
      let A : ℕ = (form_at ns w a.0).constant in
      let C : ℕ = (form_at ns w c.0).constant in
      rw is
      (same_number w _ (sum_to (λ x. words.minus w ((form_at ns w a.0).coefficient x) ((form_at ns w c.0).coefficient x) * V x + (form_at ns w c.0).coefficient x * V x) (length ns) + (words.minus w A C + C))
      (omega (arith, sum_add (λ x. words.minus w ((form_at ns w a.0).coefficient x) ((form_at ns w c.0).coefficient x) * V x) (λ x. (form_at ns w c.0).coefficient x * V x) (length ns)))
      ∙ same_add w (sum_to (λ x. words.minus w ((form_at ns w a.0).coefficient x) ((form_at ns w c.0).coefficient x) * V x + (form_at ns w c.0).coefficient x * V x) (length ns)) (S a.0)
      (words.minus w A C + C) A
      (sum_same w (λ x. words.minus w ((form_at ns w a.0).coefficient x) ((form_at ns w c.0).coefficient x) * V x + (form_at ns w c.0).coefficient x * V x)
      (λ x. (form_at ns w a.0).coefficient x * V x)
      (λ x. same_number w _ ((words.minus w ((form_at ns w a.0).coefficient x) ((form_at ns w c.0).coefficient x) + (form_at ns w c.0).coefficient x) * V x) (omega arith)
      ∙ same_times w (words.minus w ((form_at ns w a.0).coefficient x) ((form_at ns w c.0).coefficient x) + (form_at ns w c.0).coefficient x) ((form_at ns w a.0).coefficient x) (V x) (V x)
      (back ((form_at ns w a.0).coefficient x) ((form_at ns w c.0).coefficient x) (coefficient_below w positive ns sheet a.0 x parts.0) (coefficient_below w positive ns sheet c.0 x parts.1)) refl)
      (length ns))
      (back A C (constant_below w positive ns sheet a.0 parts.0) (constant_below w positive ns sheet c.0 parts.1)))
    where
      back : (x y : ℕ) → x < 2 ^ w → y < 2 ^ w → SameWord w (words.minus w x y + y) x
      back x y h k = plus-minus w x y h k ∙ sym (mod-eq_of_lt h)

  -- where the parts of a node have the values of their forms, so has the node
  values_agree : (i : ℕ) → i < length ns → (linear : Linear) → AllParts (λ a. SameWord w (V a.0) (T a.0)) linear
      → (linear ≡ Atom → SameWord w (V i) (T i)) → Follows w 1 V i linear → Follows w 1 T i linear → SameWord w (V i) (T i)
  values_agree i b Atom parts atom h k = atom refl
  values_agree i b (Number v) parts atom h k = h ∙ sym k
  values_agree i b (Times a v) parts atom h k = h ∙ same_times w v v (V a.0) (T a.0) refl parts ∙ sym k
  values_agree i b (Plus a c) parts atom h k = h ∙ same_add w (V a.0) (T a.0) (V c.0) (T c.0) parts.0 parts.1 ∙ sym k
  values_agree i b (Minus a c) parts atom h k =
      same_drop w (V i) (T i) (V c.0)
      (h ∙ parts.0 ∙ sym k ∙ same_add w (T i) (T i) (T c.0) (V c.0) refl (sym parts.1))

  abbrev linear_at : ℕ → Linear
  linear_at i = linearity ns (width_at ns) w (node_at ns i)

  abbrev Lower : ℕ → NodeId → Type 0
  Lower i = IsLower (width_at ns) w i (node_width (width_at ns) (node_at ns i))

  atom_value : (i : ℕ) → i < length ns → linear_at i ≡ Atom → SameWord w (V i) (T i)
  atom_value i b atom =
      let is : form_at ns w i ≡ form_by w (form_at ns w) i Atom = form_at-is ns sheet w i b ∙ ap (form_by w (form_at ns w) i) atom in
      rw is (same_number w (V i) (sum_to (λ x. (if x == i then 1 else 0) * V x) (length ns) + 0) (omega (arith, one_at i (value_at e ns) (length ns) b)))

  value_below_form : (m i : ℕ) → i < m → i < length ns → w ≤ width_at ns i → SameWord w (V i) (T i)
  value_below_form zero i a b wide = absurd (omega arith)
  value_below_form (suc m) i a b wide =
      let wide_node : w ≤ node_width (width_at ns) (node_at ns i) = subst (λ n. w ≤ n) (width_at-is ns sheet i b) wide in
      let parts = linearity_parts ns (width_at ns) w i (node_at ns i) (sheet i b) in
      values_agree i b (linear_at i)
      (parts_weaker (Lower i) (λ a. SameWord w (V a.0) (T a.0))
      (λ p k. value_below_form m p.0 (omega (arith, k.0)) (omega (arith, k.0)) (k.1 wide_node)) (linear_at i) parts)
      (atom_value i b)
      (value_linear e ns sheet w i b wide)
      (form_value_follows i b (linear_at i)
      (parts_weaker (Lower i) (λ p. p.0 < length ns) (λ p k. omega (arith, k.0, b)) (linear_at i) parts)
      (form_at-is ns sheet w i b))

  -- a node's value is the value of its form
  pub value_of_form : (i : ℕ) → i < length ns → w ≤ width_at ns i
      → SameWord w (value_at e ns i) (form_value (form_at ns w i) (value_at e ns) (length ns))
  value_of_form i b wide = value_below_form (suc i) i (omega arith) b wide

-- a test that holds below n holds at each number below
pub below_at : (test : ℕ → Bool) (n : ℕ) → holds_below test n ≡ true → (x : ℕ) → x < n → test x ≡ true
below_at test zero h x b = absurd (omega arith)
below_at test (suc n) h x b = elim (cases_Bool (test n)) [
  | inl here ↦
      let rest : holds_below test n ≡ true = ap (λ t. t && holds_below test n) (sym here) ∙ h in
      elim (cases_lt x n) [
        | inl lower ↦ below_at test n rest x lower
        | inr upper ↦ ap test (last x n b upper) ∙ here
      ]
  | inr not_here ↦ absurd (true≢false (sym h ∙ ap (λ t. t && holds_below test n) not_here))
]
  where
    last : (i j : ℕ) → i < suc j → j ≤ i → i ≡ j
    last i j h k = omega arith

-- two tests of equality that hold together agree
pub tests_agree : (a b c d : ℕ) → (a ≡ b → c ≡ d) → (c ≡ d → a ≡ b) → (a == b) ≡ (c == d)
tests_agree a b c d f g = elim (cases_Bool (a == b)) [
  | inl t ↦ t ∙ sym (eq-eqb c d (f (eqb-true a b t)))
  | inr n ↦ n ∙ sym (ne_eqb c d (λ e. eqb-false a b n (g e)))
]

-- the values of two nodes whose forms differ by a constant are equal where the constants are
module _ (ns : List Node) (sheet : IsSheet ns) (e : Environment) (a b : ℕ) (first : a < length ns) (second : b < length ns) (same : width_at ns a ≡ width_at ns b) where
  abbrev w : ℕ
  w = width_at ns a

  abbrev positive : 0 < width_at ns a
  positive = (width_ranged ns sheet a first).0

  abbrev A : LinearForm
  A = form_at ns (width_at ns a) a

  abbrev B : LinearForm
  B = form_at ns (width_at ns a) b

  module _ (differ : differ_by_constant ns (width_at ns a) a b ≡ true) where
    atoms_same : sum_to (λ x. A.coefficient x * value_at e ns x) (length ns) ≡ sum_to (λ x. B.coefficient x * value_at e ns x) (length ns)
    atoms_same =
        sum_equal (λ x. A.coefficient x * value_at e ns x) (λ x. B.coefficient x * value_at e ns x) (length ns)
        (λ x b. ap (λ c. c * value_at e ns x) (eqb-true (A.coefficient x) (B.coefficient x) (below_at (λ x. A.coefficient x == B.coefficient x) (length ns) differ x b)))

    pub equal_by_forms : (value_at e ns a == value_at e ns b) ≡ (A.constant == B.constant)
    equal_by_forms =
        let S : ℕ = sum_to (λ x. B.coefficient x * value_at e ns x) (length ns) in
        let left : SameWord w (value_at e ns a) (sum_to (λ x. B.coefficient x * value_at e ns x) (length ns) + A.constant) =
        value_of_form (width_at ns a) positive ns sheet e a first (omega arith) ∙ same_number w _ _ (ap (λ n. n + A.constant) atoms_same) in
        let right : SameWord w (value_at e ns b) (sum_to (λ x. B.coefficient x * value_at e ns x) (length ns) + B.constant) =
        value_of_form (width_at ns a) positive ns sheet e b second (omega (arith, same)) in
        let word : value_at e ns b < 2 ^ width_at ns a = rw same (value_at-below ns sheet e b second) in
        tests_agree (value_at e ns a) (value_at e ns b) A.constant B.constant
        (λ values. same_below w A.constant B.constant (constant_below w positive ns sheet a first) (constant_below w positive ns sheet b second)
        (same_drop w A.constant B.constant S
        (same_number w (A.constant + S) (S + A.constant) (omega arith) ∙ sym left ∙ same_number w _ _ values ∙ right
        ∙ same_number w (S + B.constant) (B.constant + S) (omega arith))))
        (λ constants. same_below w (value_at e ns a) (value_at e ns b) (value_at-below ns sheet e a first) word
        (left ∙ same_number w _ _ (ap (λ n. S + n) constants) ∙ sym right))
