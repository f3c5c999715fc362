-- Each step that is obeyed adds what holds, and steps that are accepted are impossible.
use Rattle.std.proofs.Common.{◌≡◌, ◌≢◌, ◌⊎◌, ℕ, ◌+◌, ◌*◌, ◌%◌, ◌^◌, ◌<◌, ◌≤◌, ◌==◌, Bool, true, false, List, [], ◌∷◌, ◌++◌, Option, Some, None, refl, sym, ◌∙◌, ap, subst, inl, inr, arith, length}
use Rattle.std.specs.Prelude.{ℤ, IsTrue}
use Rattle.std.specs.List.{AllByRecursion}
use Rattle.std.proofs.lemmas.Bool.{both_ways, cases_Bool, cases_eq, eq-eqb, ne_eqb}
use Rattle.std.proofs.Math.Nat.{mod-eq_of_lt, zero-mod}
use Rattle.insn_ops.specs.declared.side.Side.{Side}
use Rattle.insn_ops.specs.declared.side.Side.TheVariants.{Left, Right}
use Rattle.insn_semantics.specs.Words as words
use Rattle.clauses.specs.declared.clause.Lit.{Lit}
use Rattle.clauses.specs.Assignments.{IsClause, MeetsAll, MeetsClause}
use Rattle.clause_gates.specs.Gates.{copy_gate, negation, positive}
use Rattle.clause_words.specs.Numbers.{word_value}
use Rattle.clause_words.specs.Rows.{bit, columns}
use Rattle.node_values.specs.declared.node.Node.{Node}
use Rattle.node_values.specs.declared.node.Node.TheVariants.{Eq}
use Rattle.node_values.specs.declared.node.NodeId.{NodeId}
use Rattle.node_values.specs.Nodes.{IsNode, arguments, node_width}
use Rattle.node_values.specs.Sheets.{node_at, value_at, width_at}
use Rattle.node_values.specs.Values.{Environment, node_value}
use Rattle.node_values.proofs.SheetLaws.{value_at-below, value_at-is, width_at-is, width_ranged}
use Rattle.node_forms.specs.Sums.{SameWord}
use Rattle.node_forms.proofs.Residues.{same_below, same_drop, same_number}
use Rattle.form_sums.specs.Sums.{AreWide, sum_of}
use Rattle.duty_claims.specs.Needs.{address_of, is_start, side_of}
use Rattle.duty_claims.specs.Truth.{HasOneByteAt}
use Rattle.resolution_chains.proofs.Chaining.{at_number, chain_met}
use Rattle.refutations.specs.declared.step.Step.{Step}
use Rattle.refutations.specs.declared.step.Step.TheVariants.{Chain, Equal, Same, Holds, Fails, Both}
use Rattle.refutation_rules.specs.declared.equation.Equation.{Equation}
use Rattle.refutation_rules.specs.Holding.{GivenHolds, IsHeld, IsTrueEquation, Reads}
use Rattle.refutation_rules.specs.Judging.{AreAccepted, is_end}
use Rattle.refutation_rules.specs.Known.{Known, Ground}
use Rattle.refutation_rules.specs.Operators.{operator_of}
use Rattle.refutation_rules.specs.Steps.{AreAlikeBy, AreEqualBy, AreLinkedBy, IsEquality, IsFalseBy, IsInReach, IsTrueBy, IsZeroBy, Obeys, added_clauses, after, given_equation, same_bits}
use Rattle.refutation_rules.specs.Sums.{IsRest, less, multiple, multiple_less}
use Rattle.refutation_rules.proofs.Bits.{met_zero, normal_ordered, same_bits_met, unit_met, unit_ordered, zero_met}
use Rattle.refutation_rules.proofs.Combining.{places_same, rest_is}
use Rattle.refutation_rules.proofs.Differences.{first_is_nothing, made_up, nothing, nothing_less, odd_cancel, rest_is_nothing, sum_append, taken_away, wide_append}
use Rattle.refutation_rules.proofs.Lookups.{all_append}
use Rattle.refutation_rules.proofs.Operators.{at_place, alike_addresses, alike_bytes, alike_values, alike_widths, is_equality, value_of_byte}

module _ (e : Environment) (v : ℕ → Bool) (s : Ground) (reads : Reads e v s) where
  -- the value of a node
  abbrev val : ℕ → ℕ
  val i = value_at e s.nodes i

  -- what an equality of w bits is: its arguments have w bits, its width is 1, and its value tells whether they are equal
  record IsTold (i : NodeId) (w : ℕ) (p : Equation) : Type 0 where
    left : p.left.0 < length s.nodes
    right : p.right.0 < length s.nodes
    left_width : width_at s.nodes p.left.0 ≡ w
    right_width : width_at s.nodes p.right.0 ≡ w
    positive : 0 < w
    narrow : w ≤ 64
    width : width_at s.nodes i.0 ≡ 1
    value : val i.0 ≡ words.equal (val p.left.0) (val p.right.0)

  told : (i : NodeId) (w : ℕ) (p : Equation) → IsEquality s i w p → IsTold i w p
  told i w p h =
      let b : i.0 < length s.nodes = reads.inside i.0 h.reach in
      let is : node_at s.nodes i.0 ≡ Eq p.left p.right = is_equality (node_at s.nodes i.0) p h.node in
      let alike : IsNode (width_at s.nodes) i.0 (Eq p.left p.right) = subst (IsNode (width_at s.nodes) i.0) is (reads.sheet i.0 b) in
      let ranged = width_ranged s.nodes reads.sheet p.left.0 (omega (arith, alike.0, b)) in
      record {
        left = omega (arith, alike.0, b);
        right = omega (arith, alike.1, b);
        left_width = h.width;
        right_width = sym alike.2 ∙ h.width;
        positive = subst (λ (n : ℕ). 0 < n) h.width ranged.0;
        narrow = subst (λ (n : ℕ). n ≤ 64) h.width ranged.1;
        width = width_at-is s.nodes reads.sheet i.0 b ∙ ap (node_width (width_at s.nodes)) is;
        value = value_at-is s.nodes reads.sheet e i.0 b ∙ ap (node_value e (width_at s.nodes) val) is;
      }

  -- a word of w bits, where a node has them
  below_width : (i w : ℕ) → i < length s.nodes → width_at s.nodes i ≡ w → val i < 2 ^ w
  below_width i w b h = subst (λ (n : ℕ). val i < 2 ^ n) h (value_at-below s.nodes reads.sheet e i b)

  -- an equation of w bits as a sum
  abbrev IsOfWidth : ℕ → Equation → Type 0
  IsOfWidth w p = ((p.left.0 < length s.nodes) × (width_at s.nodes p.left.0 ≡ w)) × ((p.right.0 < length s.nodes) × (width_at s.nodes p.right.0 ≡ w))

  multiple_wide : (w c : ℕ) (p : Equation) → IsOfWidth w p → AreWide s.nodes w (multiple c p)
  multiple_wide w c p h = ((h.0.0, omega (arith, h.0.1)), ((h.1.0, omega (arith, h.1.1)), tt))

  less_wide : (w c : ℕ) (p : Equation) → IsOfWidth w p → AreWide s.nodes w (multiple_less c p)
  less_wide w c p h = ((h.0.0, omega (arith, h.0.1)), ((h.1.0, omega (arith, h.1.1)), tt))

  -- the difference of an equation's nodes
  difference_is : (w : ℕ) → w ≤ 64 → (p : Equation) (c : ℕ) → SameWord w (sum_of val (multiple 1 p)) c
      → SameWord w (val p.left.0) (c + val p.right.0)
  difference_is w narrow p c h =
      same_number w (val p.left.0) (1 * val p.left.0) (omega arith)
      ∙ made_up w narrow 1 (val p.left.0) (val p.right.0) c
      (same_number w (1 * val p.left.0 + less 1 * val p.right.0) (sum_of val (multiple 1 p)) (shuffle (1 * val p.left.0) (less 1 * val p.right.0)) ∙ h)
      ∙ same_number w (c + 1 * val p.right.0) (c + val p.right.0) (omega arith)
    where
      shuffle : (a b : ℕ) → a + b ≡ a + (b + 0)
      shuffle a b = omega arith

  told_width : (i : NodeId) (w : ℕ) (p : Equation) → IsTold i w p → IsOfWidth w p
  told_width i w p h = ((h.left, h.left_width), (h.right, h.right_width))

  -- Where the difference of p, less a multiple of that of q, is nothing: if p's nodes are equal, so are those of q, since
  -- the multiple is odd; and the other way round.
  second_of : (w : ℕ) (p q : Equation) (u : ℕ) → 0 < w → w ≤ 64 → IsOfWidth w q → u % 2 ≡ 1
      → SameWord w (sum_of val (multiple 1 p) + sum_of val (multiple_less u q)) 0
      → val p.left.0 ≡ val p.right.0 → val q.left.0 ≡ val q.right.0
  second_of w p q u positive narrow two odd both equal =
      let none = rest_is_nothing w narrow (sum_of val (multiple 1 p)) (sum_of val (multiple_less u q)) both
      (nothing w narrow 1 (val p.left.0) (val p.right.0) equal) in
      let bare : SameWord w (less u * val q.left.0 + u * val q.right.0) 0 =
      same_number w (less u * val q.left.0 + u * val q.right.0) (sum_of val (multiple_less u q)) (shuffle (less u * val q.left.0) (u * val q.right.0)) ∙ none in
      same_below w (val q.left.0) (val q.right.0) (below_width q.left.0 w two.0.0 two.0.1) (below_width q.right.0 w two.1.0 two.1.1)
      (odd_cancel w u (val q.left.0) (val q.right.0) positive odd (taken_away w narrow u (val q.left.0) (val q.right.0) bare))
    where
      shuffle : (a b : ℕ) → a + b ≡ a + (b + 0)
      shuffle a b = omega arith

  first_of : (w : ℕ) (p q : Equation) (u : ℕ) → w ≤ 64 → IsOfWidth w p
      → SameWord w (sum_of val (multiple 1 p) + sum_of val (multiple_less u q)) 0
      → val q.left.0 ≡ val q.right.0 → val p.left.0 ≡ val p.right.0
  first_of w p q u narrow one both equal =
      let none = first_is_nothing w narrow (sum_of val (multiple 1 p)) (sum_of val (multiple_less u q)) both
      (nothing_less w narrow u (val q.left.0) (val q.right.0) equal) in
      same_below w (val p.left.0) (val p.right.0) (below_width p.left.0 w one.0.0 one.0.1) (below_width p.right.0 w one.1.0 one.1.1)
      (difference_is w narrow p 0 none ∙ same_number w (0 + val p.right.0) (val p.right.0) (omega arith))

  same_truth : (w : ℕ) (p q : Equation) (u : ℕ) → 0 < w → w ≤ 64 → IsOfWidth w p → IsOfWidth w q → u % 2 ≡ 1
      → SameWord w (sum_of val (multiple 1 p) + sum_of val (multiple_less u q)) 0
      → (val p.left.0 == val p.right.0) ≡ (val q.left.0 == val q.right.0)
  same_truth w p q u positive narrow one two odd both =
      elim (cases_eq (val p.left.0) (val p.right.0)) [
        | inl equal ↦
            eq-eqb (val p.left.0) (val p.right.0) equal
            ∙ sym (eq-eqb (val q.left.0) (val q.right.0) (second_of w p q u positive narrow two odd both equal))
        | inr other ↦
            ne_eqb (val p.left.0) (val p.right.0) other
            ∙ sym (ne_eqb (val q.left.0) (val q.right.0) (λ equal. other (first_of w p q u narrow one both equal)))
      ]

  module _ (k : Known) (held : IsHeld e v s k) where
    -- an equation by a combination
    equal_by : (w : ℕ) (p : Equation) (parts : List (ℕ × ℤ)) → 0 < w → w ≤ 64 → IsOfWidth w p → IsRest s k w (multiple 1 p) parts 0
        → val p.left.0 ≡ val p.right.0
    equal_by w p parts positive narrow h rest =
        let sum = rest_is e v s reads k held w (multiple 1 p) parts 0 positive narrow (multiple_wide w 1 p h) rest in
        same_below w (val p.left.0) (val p.right.0) (below_width p.left.0 w h.0.0 h.0.1) (below_width p.right.0 w h.1.0 h.1.1)
        (difference_is w narrow p 0 sum.0 ∙ same_number w (0 + val p.right.0) (val p.right.0) (omega arith))

    equal_holds : (i j : NodeId) (parts : List (ℕ × ℤ)) → AreEqualBy s k i j parts → IsTrueEquation e s.nodes (record { left = i; right = j })
    equal_holds i j parts h =
        let a : i.0 < length s.nodes = reads.inside i.0 h.left in
        let b : j.0 < length s.nodes = reads.inside j.0 h.right in
        let ranged = width_ranged s.nodes reads.sheet i.0 a in
        record {
          left = a;
          right = b;
          width = h.width;
          value = equal_by (width_at s.nodes i.0) (record { left = i; right = j }) parts ranged.0 ranged.1 ((a, refl), (b, sym h.width)) h.rest;
        }

    -- an equality that is 1
    true_holds : (i : NodeId) (parts : List (ℕ × ℤ)) → IsTrueBy s k i parts → (width_at s.nodes i.0 ≡ 1) × (val i.0 ≡ 1)
    true_holds i parts h =
        let t = told i h.w h.equation h.is in
        let equal = equal_by h.w h.equation parts t.positive t.narrow (told_width i h.w h.equation t) h.rest in
        (t.width, t.value ∙ ap words.bit (eq-eqb (val h.equation.left.0) (val h.equation.right.0) equal))

    -- an equality that is 0
    false_holds : (i : NodeId) (parts : List (ℕ × ℤ)) → IsFalseBy s k i parts → (width_at s.nodes i.0 ≡ 1) × (val i.0 ≡ 0)
    false_holds i parts h =
        let t = told i h.w h.equation h.is in
        let sum = rest_is e v s reads k held h.w (multiple 1 h.equation) parts h.constant t.positive t.narrow
        (multiple_wide h.w 1 h.equation (told_width i h.w h.equation t)) h.rest in
        let apart = difference_is h.w t.narrow h.equation h.constant sum.0 in (
          t.width,
          t.value ∙ ap words.bit (ne_eqb (val h.equation.left.0) (val h.equation.right.0)
              (λ equal. h.other (zero_of h.w h.constant (val h.equation.left.0) (val h.equation.right.0) equal sum.1 apart))),
        )
      where
        zero_of : (w c x y : ℕ) → x ≡ y → c < 2 ^ w → SameWord w x (c + y) → c ≡ 0
        zero_of w c x y equal below same =
            let dropped : SameWord w 0 c = same_drop w 0 c y (same_number w (0 + y) x (omega (arith, equal)) ∙ same) in
            sym (sym (zero-mod (2 ^ w)) ∙ dropped ∙ mod-eq_of_lt below)

    -- equalities that are equal
    linked_holds : (i j : NodeId) (unit : ℕ) (parts : List (ℕ × ℤ)) → AreLinkedBy s k i j unit parts
        → (width_at s.nodes i.0 ≡ 1) × (width_at s.nodes j.0 ≡ 1) × (val i.0 ≡ val j.0)
    linked_holds i j unit parts h =
        let w : ℕ = h.w in
        let p : Equation = h.first in
        let q : Equation = h.second in
        let a = told i w p h.is_first in
        let b = told j w q h.is_second in
        let sum = rest_is e v s reads k held w (multiple 1 p ++ multiple_less unit q) parts 0 a.positive a.narrow
        (wide_append s.nodes w (multiple 1 p) (multiple_less unit q) (multiple_wide w 1 p (told_width i w p a)) (less_wide w unit q (told_width j w q b))) h.rest in
        let both : SameWord w (sum_of val (multiple 1 p) + sum_of val (multiple_less unit q)) 0 =
        same_number w (sum_of val (multiple 1 p) + sum_of val (multiple_less unit q)) (sum_of val (multiple 1 p ++ multiple_less unit q))
        (sym (sum_append val (multiple 1 p) (multiple_less unit q))) ∙ sum.0 in
        (a.width, b.width, a.value ∙ ap words.bit (same_truth w p q unit a.positive a.narrow (told_width i w p a) (told_width j w q b) h.odd both) ∙ sym b.value)

    -- the byte of a side at an address, where both sides have one byte there
    one_byte : (address : ℕ) → HasOneByteAt e address → (a b : Side) → e.memory a address % 2 ^ 8 ≡ e.memory b address % 2 ^ 8
    one_byte address h Left Left = refl
    one_byte address h Right Right = refl
    one_byte address h Left Right = h
    one_byte address h Right Left = sym h

    -- nodes of one operator with equal arguments
    alike_holds : (i j : NodeId) (clause : ℕ) → AreAlikeBy s k i j clause → IsTrueEquation e s.nodes (record { left = i; right = j })
    alike_holds i j clause h =
        let a : i.0 < length s.nodes = reads.inside i.0 h.left in
        let b : j.0 < length s.nodes = reads.inside j.0 h.right in
        let places = places_same e v s reads k held (arguments (node_at s.nodes i.0)) (arguments (node_at s.nodes j.0)) h.arguments in
        let widths : (place : ℕ) → at_place (width_at s.nodes) (node_at s.nodes i.0) place ≡ at_place (width_at s.nodes) (node_at s.nodes j.0) place = λ place. (places place).0 in
        let values : (place : ℕ) → at_place val (node_at s.nodes i.0) place ≡ at_place val (node_at s.nodes j.0) place = λ place. (places place).1 in
        record {
          left = a;
          right = b;
          width = width_at-is s.nodes reads.sheet i.0 a ∙ alike_widths (width_at s.nodes) (node_at s.nodes i.0) (node_at s.nodes j.0) h.operator widths
              ∙ sym (width_at-is s.nodes reads.sheet j.0 b);
          value = value_at-is s.nodes reads.sheet e i.0 a
              ∙ node_values (node_at s.nodes i.0) (node_at s.nodes j.0) i.0 j.0 refl refl h.left h.right h.operator widths values h.sides
              ∙ sym (value_at-is s.nodes reads.sheet e j.0 b);
        }
      where
        node_values : (n m : Node) (x y : ℕ) → node_at s.nodes x ≡ n → node_at s.nodes y ≡ m
            → IsTrue (s.is_in_reach x) → IsTrue (s.is_in_reach y) → operator_of n ≡ operator_of m
            → ((place : ℕ) → at_place (width_at s.nodes) n place ≡ at_place (width_at s.nodes) m place)
            → ((place : ℕ) → at_place val n place ≡ at_place val m place)
            → ((side_of n ≡ side_of m) × (clause ≡ 0)) ⊎ ((side_of n ≢ side_of m)
            × ((scratch : ℕ) × (s.scratch_of x y ≡ Some scratch) × IsZeroBy k clause (s.first scratch)))
            → node_value e (width_at s.nodes) val n ≡ node_value e (width_at s.nodes) val m
        node_values n m x y at_x at_y reach_x reach_y one widths values sides = elim (cases_Bool (is_start n)) [
          | inr other ↦ alike_values (width_at s.nodes) n m one widths e val values other
          | inl start ↦ elim sides [
            | inl same ↦ alike_bytes (width_at s.nodes) n m one widths e val values start same.0
            | inr differ ↦
                let both = alike_addresses (width_at s.nodes) n m one widths e val values start in
                let zero = met_zero v (s.first differ.1.0)
                (at_number (MeetsClause v) k.clauses clause (negation (positive (s.first differ.1.0)) ∷ []) held.clauses differ.1.2) in
                let address : val (address_of (node_at s.nodes x)) ≡ val (address_of (node_at s.nodes y)) =
                (λ t. val (address_of (at_x t))) ∙ both.0 ∙ (λ t. val (address_of (sym at_y t))) in
                let byte : HasOneByteAt e (val (address_of n)) =
                subst (λ (z : Node). HasOneByteAt e (val (address_of z))) at_x (reads.scratch x y differ.1.0 (reach_x, ap is_start at_x ∙ start) (reach_y, ap is_start at_y ∙ both.1) differ.1.1 zero address) in
                value_of_byte e (width_at s.nodes) val n start
                ∙ one_byte (val (address_of n)) byte (side_of n) (side_of m)
                ∙ (λ t. e.memory (side_of m) (both.0 t) % 2 ^ 8)
                ∙ sym (value_of_byte e (width_at s.nodes) val m both.1)
          ]
        ]

    -- what a step adds: clauses that are met, and an equation that holds
    record IsAdded (cs : List (List Lit)) (given : Option Equation) : Type 0 where
      ordered : AllByRecursion IsClause cs
      clauses : MeetsAll v cs
      gave : GivenHolds e s.nodes given

    -- equal nodes of the reach have the same bits
    same_added : (i j : NodeId) (w : ℕ) (given : Option Equation) → IsInReach s i → IsInReach s j → width_at s.nodes i.0 ≡ w → width_at s.nodes j.0 ≡ w
        → val i.0 ≡ val j.0 → GivenHolds e s.nodes given → IsAdded (same_bits w (s.first i.0) (s.first j.0)) given
    same_added i j w given a b m n equal gave = record {
      ordered = normal_ordered (columns (λ k. copy_gate (bit (s.first i.0) k) (bit (s.first j.0) k)) w);
      clauses = same_bits_met v w (s.first i.0) (s.first j.0)
          (subst (λ (x : ℕ). word_value v x (s.first i.0) ≡ val i.0) m (reads.words i.0 a) ∙ equal
          ∙ sym (subst (λ (x : ℕ). word_value v x (s.first j.0) ≡ val j.0) n (reads.words j.0 b)));
      gave = gave;
    }

    step_adds : (step : Step) → Obeys s k step → IsAdded (added_clauses s step) (given_equation step)
    step_adds (Chain lits first next) h = record {
      ordered = (h.listed, tt);
      clauses = (chain_met v k.clauses lits first next held.ordered h held.clauses, tt);
      gave = tt;
    }
    step_adds (Equal i j parts) h =
        let t = equal_holds i j parts h in
        same_added i j (width_at s.nodes i.0) (Some (record { left = i; right = j })) h.left h.right refl (sym t.width) t.value t
    step_adds (Same i j clause) h =
        let t = alike_holds i j clause h in
        same_added i j (width_at s.nodes i.0) (Some (record { left = i; right = j })) h.left h.right refl (sym t.width) t.value t
    step_adds (Holds i parts) h =
        let t = true_holds i parts h in
        record {
          ordered = (unit_ordered (positive (s.first i.0)), tt);
          clauses = (unit_met v (s.first i.0) (subst (λ (x : ℕ). word_value v x (s.first i.0) ≡ val i.0) t.0 (reads.words i.0 h.is.reach) ∙ t.1), tt);
          gave = tt;
        }
    step_adds (Fails i parts) h =
        let t = false_holds i parts h in
        record {
          ordered = (unit_ordered (negation (positive (s.first i.0))), tt);
          clauses = (zero_met v (s.first i.0) (subst (λ (x : ℕ). word_value v x (s.first i.0) ≡ val i.0) t.0 (reads.words i.0 h.is.reach) ∙ t.1), tt);
          gave = tt;
        }
    step_adds (Both i j unit parts) h =
        let t = linked_holds i j unit parts h in
        same_added i j 1 None h.is_first.reach h.is_second.reach t.0 t.1 t.2 tt

  -- a step that is obeyed adds what holds
  pub step_holds : (k : Known) (step : Step) → IsHeld e v s k → Obeys s k step → IsHeld e v s (after s k step)
  step_holds k step held h =
      let added = step_adds k held step h in
      record {
        ordered = all_append IsClause k.clauses (added_clauses s step) held.ordered added.ordered;
        clauses = all_append (MeetsClause v) k.clauses (added_clauses s step) held.clauses added.clauses;
        gave = all_append (GivenHolds e s.nodes) k.gave (given_equation step ∷ []) held.gave (added.gave, tt);
      }

  -- a chain that ends with no literals is not obeyed
  no_end : (k : Known) (step : Step) → IsHeld e v s k → Obeys s k step → is_end step ≡ true → ⊥
  no_end k (Chain [] first next) held h end = both_ways false refl (chain_met v k.clauses [] first next held.ordered h held.clauses)
  no_end k (Chain (l ∷ ls) first next) held h end = both_ways false refl end
  no_end k (Equal i j parts) held h end = both_ways false refl end
  no_end k (Same i j clause) held h end = both_ways false refl end
  no_end k (Holds i parts) held h end = both_ways false refl end
  no_end k (Fails i parts) held h end = both_ways false refl end
  no_end k (Both i j unit parts) held h end = both_ways false refl end

  -- accepted steps end, so they are impossible
  pub none_accepted : (k : Known) (ended : Bool) (steps : List Step) → IsHeld e v s k → (ended ≡ true → ⊥) → AreAccepted s k ended steps → ⊥
  unfolding AreAccepted
  none_accepted k ended [] held not_ended h = not_ended h
  none_accepted k ended (step ∷ steps) held not_ended h =
      none_accepted (after s k step) (is_end step) steps (step_holds k step held h.0) (no_end k step held h.0) h.1
