-- The nodes of a difference and of an equality of addresses have their values.
use Rattle.std.proofs.Common.{◌≡◌, ℕ, zero, suc, ◌+◌, ◌*◌, ◌^◌, ◌<◌, ◌==◌, List, Option, Some, None, Bool, true, false, length, refl, sym, ◌∙◌, ap, subst, arith, inl, inr, if◌then◌else◌}
use Rattle.std.proofs.lemmas.Bool.{cases_Bool, eqb-true}
use Rattle.std.proofs.lemmas.Nat.{mod_below, pow_pos}
use Rattle.std.proofs.Math.Nat.{mod-eq_of_lt}
use Rattle.insn_semantics.specs.Words as words
use Rattle.insn_semantics.proofs.WordLaws.{plus-minus}
use Rattle.node_values.specs.declared.node.Node.{Node}
use Rattle.node_values.specs.declared.node.Node.TheVariants.{Const, Add, Eq}
use Rattle.node_values.specs.declared.node.NodeId.{NodeId}
use Rattle.node_values.specs.Sheets.{IsSheet, value_at}
use Rattle.node_values.specs.Values.{Environment}
use Rattle.node_values.proofs.SheetLaws.{value_at-below}
use Rattle.node_forms.specs.Forms.{form_at, sum_to}
use Rattle.node_forms.specs.Sums.{SameWord, weighted_sum}
use Rattle.node_forms.proofs.FormLaws.{coefficient_below, constant_below}
use Rattle.node_forms.proofs.FormValues.{tests_agree, value_of_form}
use Rattle.node_forms.proofs.Residues.{same_add, same_below, same_drop, same_low, same_number, same_times}
use Rattle.terms.specs.Made.{Made, made}
use Rattle.address_nodes.specs.Multiples.{IsAddress, IsBuiltWord, IsSumSoFar, Sum, sum_of}
use Rattle.address_nodes.specs.Differences.{difference, difference_form, difference_terms, equality, equation, is_least_subtracted, no_difference, summed_difference, with_constant}
use Rattle.address_nodes.proofs.Growing.{extends_trans, later_value, same_extends, stays}
use Rattle.address_nodes.proofs.Terms.{difference_are_terms, terms_sum}
use Rattle.address_nodes.proofs.TermSums.{IsSumOf, all_terms, finish, sum_value}

pub difference_longer : (ns : List Node) (a b : NodeId) → 65536 < length (summed_difference ns a b).nodes → 65536 < length (difference ns a b).nodes
unfolding difference
difference_longer ns a b h = h

pub turned_longer : (ns : List Node) (a b : NodeId) → is_least_subtracted (difference_terms ns a b) ≡ true
    → 65536 < length (no_difference ns b a).nodes → 65536 < length (equality ns a b).nodes
unfolding equality
turned_longer ns a b t h = subst (λ test. 65536 < length (if test then no_difference ns b a else no_difference ns a b).nodes) (sym t) h

pub straight_longer : (ns : List Node) (a b : NodeId) → is_least_subtracted (difference_terms ns a b) ≡ false
    → 65536 < length (no_difference ns a b).nodes → 65536 < length (equality ns a b).nodes
unfolding equality
straight_longer ns a b f h = subst (λ test. 65536 < length (if test then no_difference ns b a else no_difference ns a b).nodes) (sym f) h

-- what was subtracted and the difference
back : (a b : ℕ) → a < 2 ^ 64 → b < 2 ^ 64 → SameWord 64 (words.minus 64 a b + b) a
back a b h k = plus-minus 64 a b h k ∙ sym (mod-eq_of_lt h)

-- of numbers x with x + b the same as a, the one of 64 bits is the difference
is_minus : (x a b : ℕ) → x < 2 ^ 64 → a < 2 ^ 64 → b < 2 ^ 64 → SameWord 64 (x + b) a → x ≡ words.minus 64 a b
is_minus x a b h k l same =
    same_below 64 x (words.minus 64 a b) h (mod_below _ (2 ^ 64) (pow_pos 64))
    (same_drop 64 x (words.minus 64 a b) b (same ∙ sym (back a b k l)))

module _ (ns : List Node) (sheet : IsSheet ns) (a b : NodeId) (first : IsAddress ns a) (second : IsAddress ns b) where
  -- sums of a form's coefficients, each times a value
  module _ (e : Environment) where
    V : ℕ → ℕ
    V x = value_at e ns x

    differences_sum : (n : ℕ)
        → SameWord 64 (sum_to (λ x. (difference_form ns a b).coefficient x * value_at e ns x) n + sum_to (λ x. (form_at ns 64 b.0).coefficient x * value_at e ns x) n)
        (sum_to (λ x. (form_at ns 64 a.0).coefficient x * value_at e ns x) n)
    differences_sum zero = refl
    differences_sum (suc n) =
        let A : ℕ = (form_at ns 64 a.0).coefficient n in
        let B : ℕ = (form_at ns 64 b.0).coefficient n in
        let v : ℕ = value_at e ns n in
        let D : ℕ = words.minus 64 ((form_at ns 64 a.0).coefficient n) ((form_at ns 64 b.0).coefficient n) in
        let P : ℕ = sum_to (λ x. (difference_form ns a b).coefficient x * value_at e ns x) n in
        let Q : ℕ = sum_to (λ x. (form_at ns 64 b.0).coefficient x * value_at e ns x) n in
        let R : ℕ = sum_to (λ x. (form_at ns 64 a.0).coefficient x * value_at e ns x) n in
        let one : SameWord 64 (words.minus 64 ((form_at ns 64 a.0).coefficient n) ((form_at ns 64 b.0).coefficient n) * value_at e ns n + (form_at ns 64 b.0).coefficient n * value_at e ns n) ((form_at ns 64 a.0).coefficient n * value_at e ns n) =
        same_number 64 (D * v + B * v) ((D + B) * v) (omega arith)
        ∙ same_times 64 (D + B) A v v (back A B (coefficient_below 64 (omega arith) ns sheet a.0 n first.0) (coefficient_below 64 (omega arith) ns sheet b.0 n second.0)) refl in
        same_number 64 (P + D * v + (Q + B * v)) (P + Q + (D * v + B * v)) (omega arith)
        ∙ same_add 64 (P + Q) R (D * v + B * v) (A * v) (differences_sum n) one

    -- the terms, the constant and the second address are together the first
    pub difference_sum : SameWord 64
        (weighted_sum (value_at e ns) (difference_terms ns a b) + (difference_form ns a b).constant + value_at e ns b.0) (value_at e ns a.0)
    difference_sum =
        let S : ℕ = weighted_sum (value_at e ns) (difference_terms ns a b) in
        let D : ℕ = sum_to (λ x. (difference_form ns a b).coefficient x * value_at e ns x) (length ns) in
        let c : ℕ = (difference_form ns a b).constant in
        let P : ℕ = sum_to (λ x. (form_at ns 64 a.0).coefficient x * value_at e ns x) (length ns) in
        let Q : ℕ = sum_to (λ x. (form_at ns 64 b.0).coefficient x * value_at e ns x) (length ns) in
        let A : ℕ = (form_at ns 64 a.0).constant in
        let B : ℕ = (form_at ns 64 b.0).constant in
        let terms : S ≡ D = terms_sum (difference_form ns a b).coefficient (value_at e ns) (length ns) in
        let of_a : SameWord 64 (value_at e ns a.0) (P + A) = value_of_form 64 (omega arith) ns sheet e a.0 first.0 (omega (arith, first.1)) in
        let of_b : SameWord 64 (value_at e ns b.0) (Q + B) = value_of_form 64 (omega arith) ns sheet e b.0 second.0 (omega (arith, second.1)) in
        same_add 64 (S + c) (D + c) (value_at e ns b.0) (Q + B) (same_number 64 (S + c) (D + c) (ap (λ n. n + c) terms)) of_b
        ∙ same_number 64 (D + c + (Q + B)) (D + Q + (c + B)) (omega arith)
        ∙ same_add 64 (D + Q) P (c + B) A (differences_sum (length ns))
        (back A B (constant_below 64 (omega arith) ns sheet a.0 first.0) (constant_below 64 (omega arith) ns sheet b.0 second.0))
        ∙ sym of_a

    pub first_word : value_at e ns a.0 < 2 ^ 64
    first_word = subst (λ n. value_at e ns a.0 < 2 ^ n) first.1 (value_at-below ns sheet e a.0 first.0)

    pub second_word : value_at e ns b.0 < 2 ^ 64
    second_word = subst (λ n. value_at e ns b.0 < 2 ^ n) second.1 (value_at-below ns sheet e b.0 second.0)

  abbrev S : Environment → ℕ
  S e = weighted_sum (value_at e ns) (difference_terms ns a b)

  abbrev c : ℕ
  c = (difference_form ns a b).constant

  pub constant_word : (difference_form ns a b).constant < 2 ^ 64
  constant_word = mod_below _ (2 ^ 64) (pow_pos 64)

  terms_summed : IsSumOf ns (λ e. weighted_sum (value_at e ns) (difference_terms ns a b)) (sum_of ns (difference_terms ns a b))
  terms_summed = all_terms ns (difference_terms ns a b) sheet (difference_are_terms ns a b sheet first second)

  -- a sum and the constant have the value of the difference
  with_constant_word : (s : Sum) → IsSumOf ns (λ e. weighted_sum (value_at e ns) (difference_terms ns a b)) s
      → IsBuiltWord ns 64 (λ e. words.minus 64 (value_at e ns a.0) (value_at e ns b.0)) (with_constant s.nodes (difference_form ns a b).constant s.node)
  with_constant_word s is = by_node s.node is.node (λ e. is.value e)
    where
      told : (e : Environment) (x y : ℕ) → x < 2 ^ 64 → SameWord 64 y (S e) → SameWord 64 x (y + c) → x ≡ words.minus 64 (value_at e ns a.0) (value_at e ns b.0)
      told e x y below sum same =
          is_minus x (value_at e ns a.0) (value_at e ns b.0) below (first_word e) (second_word e)
          (same_add 64 x (S e + c) (value_at e ns b.0) (value_at e ns b.0) (same ∙ same_add 64 y (S e) c c sum refl) refl ∙ difference_sum e)

      by_node : (node : Option NodeId) → IsSumSoFar s.nodes node → ((e : Environment) → SameWord 64 (sum_value e s.nodes node) (S e))
          → IsBuiltWord ns 64 (λ e. words.minus 64 (value_at e ns a.0) (value_at e ns b.0)) (with_constant s.nodes c node)
      by_node None there value =
          finish ns s.nodes (Const 64 c) 64 (λ e. words.minus 64 (value_at e ns a.0) (value_at e ns b.0)) is.extends is.sheet
          (omega arith, omega arith, constant_word) refl (λ e. told e c 0 constant_word (value e) (same_number 64 c (0 + c) (omega arith)))
      by_node (Some sum) there value = elim (cases_Bool (c == 0)) [
        | inl t ↦
            let none : c ≡ 0 = eqb-true c 0 t in
            rw t
            (record {
              extends = is.extends;
              sheet = is.sheet;
              inside = there.0;
              width = there.1;
              value = λ e.
                  told e (value_at e s.nodes sum.0) (value_at e s.nodes sum.0)
                  (subst (λ n. value_at e s.nodes sum.0 < 2 ^ n) there.1 (value_at-below s.nodes is.sheet e sum.0 there.0)) (value e)
                  (same_number 64 _ (value_at e s.nodes sum.0 + c) (omega (arith, none)));
            })
        | inr f ↦
            let number : Made = made s.nodes (Const 64 c) in
            let k : IsBuiltWord s.nodes 64 (λ e. c) (made s.nodes (Const 64 c)) =
            finish s.nodes s.nodes (Const 64 c) 64 (λ e. c) (same_extends s.nodes) is.sheet (omega arith, omega arith, constant_word) refl (λ e. refl) in
            let kept : IsAddress number.nodes sum = stays s.nodes is.sheet number.nodes k.extends 64 sum there in
            rw f
            (finish ns number.nodes (Add sum number.id) 64 (λ e. words.minus 64 (value_at e ns a.0) (value_at e ns b.0))
            (extends_trans ns s.nodes number.nodes is.extends k.extends) k.sheet (kept.0, k.inside, kept.1 ∙ sym k.width) kept.1
            (λ e. (λ i. words.plus (kept.1 i) (later_value s.nodes is.sheet number.nodes k.extends e sum.0 there.0 i) (k.value e i))
            ∙ told e (words.plus 64 (value_at e s.nodes sum.0) c) (value_at e s.nodes sum.0) (mod_below _ (2 ^ 64) (pow_pos 64)) (value e)
            (same_low 64 (value_at e s.nodes sum.0 + c))))
      ]

  pub difference_word : IsBuiltWord ns 64 (λ e. words.minus 64 (value_at e ns a.0) (value_at e ns b.0)) (difference ns a b)
  unfolding difference
  difference_word = with_constant_word (sum_of ns (difference_terms ns a b)) terms_summed

  -- an equation of a sum and the constant is that the addresses are equal
  equation_word : (s : Sum) → IsSumOf ns (λ e. weighted_sum (value_at e ns) (difference_terms ns a b)) s
      → IsBuiltWord ns 1 (λ e. words.equal (value_at e ns a.0) (value_at e ns b.0)) (equation s.nodes (difference_form ns a b).constant s.node)
  equation_word s is = by_node s.node is.node (λ e. is.value e)
    where
      -- the sum and the constant are 0 where the addresses are equal
      told : (e : Environment) (y z : ℕ) → SameWord 64 y (S e) → SameWord 64 (y + c) z → z < 2 ^ 64 → (z ≡ 0 → value_at e ns a.0 ≡ value_at e ns b.0) × (value_at e ns a.0 ≡ value_at e ns b.0 → z ≡ 0)
      told e y z sum same below =
          let whole : SameWord 64 (z + value_at e ns b.0) (value_at e ns a.0) =
          same_add 64 z (S e + c) (value_at e ns b.0) (value_at e ns b.0) (sym same ∙ same_add 64 y (S e) c c sum refl) refl ∙ difference_sum e in (
            (λ none. sym (same_below 64 (value_at e ns b.0) (value_at e ns a.0) (second_word e) (first_word e)
                (same_number 64 (value_at e ns b.0) (z + value_at e ns b.0) (omega (arith, none)) ∙ whole))),
            λ equal. same_below 64 z 0 below (pow_pos 64)
                (same_drop 64 z 0 (value_at e ns b.0) (whole ∙ same_number 64 (value_at e ns a.0) (0 + value_at e ns b.0) (omega (arith, equal)))),
          )

      by_node : (node : Option NodeId) → IsSumSoFar s.nodes node → ((e : Environment) → SameWord 64 (sum_value e s.nodes node) (S e))
          → IsBuiltWord ns 1 (λ e. words.equal (value_at e ns a.0) (value_at e ns b.0)) (equation s.nodes c node)
      by_node None there value =
          finish ns s.nodes (Const 1 (words.bit (c == 0))) 1 (λ e. words.equal (value_at e ns a.0) (value_at e ns b.0)) is.extends is.sheet
          (omega arith, omega arith, bit_word (c == 0)) refl
          (λ e. let both = told e 0 c (value e) (same_number 64 (0 + c) c (omega arith)) constant_word in
          ap words.bit (tests_agree c 0 (value_at e ns a.0) (value_at e ns b.0) both.0 both.1))
        where
          bit_word : (t : Bool) → words.bit t < 2 ^ 1
          bit_word true = omega arith
          bit_word false = omega arith
      by_node (Some sum) there value =
          let minus_c : ℕ = words.minus 64 0 c in
          let below : words.minus 64 0 c < 2 ^ 64 = mod_below _ (2 ^ 64) (pow_pos 64) in
          let number : Made = made s.nodes (Const 64 (words.minus 64 0 c)) in
          let k : IsBuiltWord s.nodes 64 (λ e. words.minus 64 0 c) (made s.nodes (Const 64 (words.minus 64 0 c))) =
          finish s.nodes s.nodes (Const 64 (words.minus 64 0 c)) 64 (λ e. words.minus 64 0 c) (same_extends s.nodes) is.sheet (omega arith, omega arith, below) refl (λ e. refl) in
          let kept : IsAddress number.nodes sum = stays s.nodes is.sheet number.nodes k.extends 64 sum there in
          finish ns number.nodes (Eq sum number.id) 1 (λ e. words.equal (value_at e ns a.0) (value_at e ns b.0))
          (extends_trans ns s.nodes number.nodes is.extends k.extends) k.sheet (kept.0, k.inside, kept.1 ∙ sym k.width) refl
          (λ e. (λ i. words.equal (later_value s.nodes is.sheet number.nodes k.extends e sum.0 there.0 i) (k.value e i))
          ∙ ap words.bit (sum_equals e (value_at e s.nodes sum.0) (subst (λ n. value_at e s.nodes sum.0 < 2 ^ n) there.1 (value_at-below s.nodes is.sheet e sum.0 there.0)) (value e)))
        where
          zero_back : SameWord 64 (words.minus 64 0 c + c) 0
          zero_back = back 0 c (pow_pos 64) constant_word

          sum_equals : (e : Environment) (y : ℕ) → y < 2 ^ 64 → SameWord 64 y (S e) → (y == words.minus 64 0 c) ≡ (value_at e ns a.0 == value_at e ns b.0)
          sum_equals e y below sum =
              let both = told e y (words.plus 64 y c) sum (sym (same_low 64 (y + c))) (mod_below _ (2 ^ 64) (pow_pos 64)) in
              tests_agree y (words.minus 64 0 c) (value_at e ns a.0) (value_at e ns b.0)
              (λ equal. both.0 (same_below 64 (words.plus 64 y c) 0 (mod_below _ (2 ^ 64) (pow_pos 64)) (pow_pos 64)
              (same_low 64 (y + c) ∙ same_number 64 (y + c) (words.minus 64 0 c + c) (ap (λ n. n + c) equal) ∙ zero_back)))
              (λ equal. same_below 64 y (words.minus 64 0 c) below (mod_below _ (2 ^ 64) (pow_pos 64))
              (same_drop 64 y (words.minus 64 0 c) c (sym (same_low 64 (y + c)) ∙ same_number 64 _ 0 (both.1 equal) ∙ sym zero_back)))

  pub no_difference_word : IsBuiltWord ns 1 (λ e. words.equal (value_at e ns a.0) (value_at e ns b.0)) (no_difference ns a b)
  no_difference_word = equation_word (sum_of ns (difference_terms ns a b)) terms_summed

-- equality the other way round
turned_equal : (x y : ℕ) → words.equal x y ≡ words.equal y x
turned_equal x y = ap words.bit (tests_agree x y y x sym sym)

pub equality_word : (ns : List Node) → IsSheet ns → (a b : NodeId) → IsAddress ns a → IsAddress ns b
    → IsBuiltWord ns 1 (λ e. words.equal (value_at e ns a.0) (value_at e ns b.0)) (equality ns a b)
unfolding equality
equality_word ns sheet a b first second = elim (cases_Bool (is_least_subtracted (difference_terms ns a b))) [
  | inl t ↦
      let w = no_difference_word ns sheet b a second first in
      rw t
      (record {
        extends = w.extends;
        sheet = w.sheet;
        inside = w.inside;
        width = w.width;
        value = λ e. w.value e ∙ turned_equal (value_at e ns b.0) (value_at e ns a.0);
      })
  | inr f ↦ rw f (no_difference_word ns sheet a b first second)
]
