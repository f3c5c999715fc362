-- An assignment that reads an environment which breaks a duty, and meets the duty's clauses: all that is known at the
-- first step holds, so no steps are accepted.
use Rattle.std.proofs.Common.{◌≡◌, ◌⊎◌, ℕ, zero, suc, ◌^◌, ◌<◌, ◌≤◌, ◌==◌, ◌&&◌, Bool, true, false, List, [], ◌∷◌, ◌++◌, Option, Some, None, length, refl, sym, ◌∙◌, ap, subst, inl, inr, arith}
use Rattle.std.specs.Prelude.{IsTrue, slice_index}
use Rattle.std.specs.List.{AllByRecursion, flat_map, list_any, range_with_len}
use Rattle.std.specs.Option.{option_or}
use Rattle.std.proofs.lemmas.Bool.{and_from, and_parts, both_ways, cases_Bool, eqb-true, or_right}
use Rattle.std.proofs.lemmas.List.Folds.{list_any-append}
use Rattle.std.proofs.lemmas.List.FromFn.{get_or-map-range_with_len}
use Rattle.insn_semantics.specs.Words as words
use Rattle.insn_semantics.proofs.WordLaws.{power_grows}
use Rattle.clauses.specs.Assignments.{IsClause, MeetsAll}
use Rattle.clause_words.specs.Numbers.{word_value}
use Rattle.clause_words.proofs.Numbers.{bit_same}
use Rattle.node_values.specs.declared.node.Node.{Node}
use Rattle.node_values.specs.declared.node.Node.TheVariants.{Eq}
use Rattle.node_values.specs.declared.node.NodeId.{NodeId}
use Rattle.node_values.specs.Nodes.{IsNode, arguments, node_width}
use Rattle.node_values.specs.Sheets.{IsSheet, node_at, value_at, width_at}
use Rattle.node_values.specs.Values.{Environment, node_value}
use Rattle.node_values.proofs.SheetLaws.{at_arguments, value_at-below, value_at-is, width_at-is, width_ranged}
use Rattle.node_reach.specs.Reached.{is_needed}
use Rattle.duty_claims.specs.declared.duty.Duty.{Duty}
use Rattle.duty_claims.specs.declared.duty.StartPair.{StartPair}
use Rattle.duty_claims.specs.Needs.{address_of, is_needed_by, is_start}
use Rattle.duty_claims.specs.Truth.{Breaks, HasOneByteAt, IsTrueDuty}
use Rattle.duty_claims.specs.Whole.{IsWhole}
use Rattle.duty_claims.proofs.Goals.{held}
use Rattle.clause_rows.specs.DutyClauses.{duty_clauses, hypothesis_units, negated_goals, pair_rows, reach_rows}
use Rattle.clause_rows.specs.Numbering.{first_variable}
use Rattle.clause_rows.specs.Reach.{is_in_reach, is_pair_needed, named_nodes, needed_pairs, pair_nodes, reach_roots}
use Rattle.clause_rows.specs.Readings.{HasAssignments, IsAssignmentOf}
use Rattle.clause_rows.proofs.Inside.{needed_inside, roots_inside}
use Rattle.resolution_chains.proofs.Marking.{none_some}
use Rattle.refutations.specs.declared.step.Step.{Step}
use Rattle.refutation_rules.specs.declared.equation.Equation.{Equation}
use Rattle.refutation_rules.specs.Holding.{IsByte, IsHeld, IsTrueEquation, Reads}
use Rattle.refutation_rules.specs.Operators.{equation_in}
use Rattle.refutation_rules.specs.Pairs.{scratch_node}
use Rattle.refutation_rules.proofs.Bits.{bit_at, normal_ordered}
use Rattle.refutation_rules.proofs.Operators.{address_by_place, is_equality}
use Rattle.refutation_rules.proofs.Steps.{none_accepted}
use Rattle.refuted_duties.specs.Refuted.{AreAcceptedFor, equality_among, equality_if, first_variables, ground_of, known_at_first}
use Rattle.refuted_duties.proofs.Bytes.{IsFound, bytes_named, found, pairs_are, scratch_facts}

-- the clauses of a duty are clauses
clauses_ordered : (d : Duty) → AllByRecursion IsClause (duty_clauses d)
unfolding duty_clauses
clauses_ordered d = normal_ordered (reach_rows d ++ (pair_rows d ++ (hypothesis_units d ++ negated_goals d)))

first_or : {A : Type 0} (o p : Option A) (x : A) → option_or o p ≡ Some x → (o ≡ Some x) ⊎ (p ≡ Some x)
first_or None p x h = inr h
first_or (Some y) p x h = inl h

-- the variable of a node's lowest bit
first_is : (d : Duty) (i : ℕ) → i < length d.sheet.now → slice_index (first_variables d) i ≡ first_variable d i
first_is d i b = get_or-map-range_with_len (first_variable d) 0 (length d.sheet.now) i i 0 b (omega arith)

module _ (d : Duty) (sheet : IsSheet d.sheet.now) (whole : IsWhole d) where
  reach_inside : (i : ℕ) → IsTrue (is_in_reach d i) → i < length d.sheet.now
  reach_inside i h = needed_inside d.sheet.now sheet (reach_roots d) (roots_inside d whole) i h

  -- the address of a byte of memory is a node of the sheet
  address_inside : (i : ℕ) → i < length d.sheet.now → IsTrue (is_start (node_at d.sheet.now i)) → address_of (node_at d.sheet.now i) < length d.sheet.now
  address_inside i b memory =
      subst (λ (k : ℕ). k < length d.sheet.now) (sym (address_by_place (λ k. k) (node_at d.sheet.now i) memory))
      (first_inside (arguments (node_at d.sheet.now i)) (at_arguments d.sheet.now sheet (λ j. j < length d.sheet.now) i b (λ j h. omega arith)))
    where
      first_inside : (xs : List ℕ) → AllByRecursion (λ j. j < length d.sheet.now) xs → slice_index xs 0 < length d.sheet.now
      first_inside [] h = omega (arith, b)
      first_inside (x ∷ xs) h = h.0

  module _ (e : Environment) (breaks : Breaks e d) (v : ℕ → Bool) (is : IsAssignmentOf d e v) where
    -- a bit of the reach is the value of its node
    bit_is : (i : ℕ) → IsTrue (is_in_reach d i) → width_at d.sheet.now i ≡ 1 → words.bit (v (first_variable d i)) ≡ value_at e d.sheet.now i
    bit_is i h w =
        sym (bit_at v (first_variable d i))
        ∙ subst (λ (n : ℕ). word_value v n (first_variable d i) ≡ value_at e d.sheet.now i) w (is.reads i h)

    -- what is found to be the equality whose bit a variable is holds where the bit is 1
    node_holds : (x n : ℕ) (p : Equation) → n < length d.sheet.now → equality_if d x n ≡ Some p → v x ≡ true → IsTrueEquation e d.sheet.now p
    node_holds x n p inside h one = elim (cases_Bool (is_in_reach d n && (first_variable d n == x))) [
      | inr f ↦ let none : None ≡ Some p = rw f at h in absurd (none_some p none)
      | inl t ↦
          let both = and_parts (is_in_reach d n) (first_variable d n == x) t in
          let some : equation_in (node_at d.sheet.now n) ≡ Some p = rw t at h in
          let node : node_at d.sheet.now n ≡ Eq p.left p.right = is_equality (node_at d.sheet.now n) p some in
          let alike : IsNode (width_at d.sheet.now) n (Eq p.left p.right) = subst (IsNode (width_at d.sheet.now) n) node (sheet n inside) in
          let width : width_at d.sheet.now n ≡ 1 = width_at-is d.sheet.now sheet n inside ∙ ap (node_width (width_at d.sheet.now)) node in
          let value : value_at e d.sheet.now n ≡ words.equal (value_at e d.sheet.now p.left.0) (value_at e d.sheet.now p.right.0) =
          value_at-is d.sheet.now sheet e n inside ∙ ap (node_value e (width_at d.sheet.now) (value_at e d.sheet.now)) node in
          let bit : v (first_variable d n) ≡ true = ap v (eqb-true (first_variable d n) x both.1) ∙ one in
          let equal : (value_at e d.sheet.now p.left.0 == value_at e d.sheet.now p.right.0) ≡ true =
          bit_same (value_at e d.sheet.now p.left.0 == value_at e d.sheet.now p.right.0) true (sym value ∙ sym (bit_is n both.0 width) ∙ ap words.bit bit) in
          record {
            left = omega (arith, alike.0);
            right = omega (arith, alike.1);
            width = alike.2;
            value = eqb-true (value_at e d.sheet.now p.left.0) (value_at e d.sheet.now p.right.0) equal;
          }
    ]

    equality_holds : (x n : ℕ) (p : Equation) → n ≤ length d.sheet.now → equality_among d x n ≡ Some p → v x ≡ true → IsTrueEquation e d.sheet.now p
    equality_holds x zero p b h one = absurd (none_some p h)
    equality_holds x (suc n) p b h one = elim (first_or (equality_if d x n) (equality_among d x n) p h) [
      | inl here ↦ node_holds x n p (omega arith) here one
      | inr there ↦ equality_holds x n p (omega arith) there one
    ]

    scratch_holds : (i j at : ℕ) → IsByte (ground_of d) i → IsByte (ground_of d) j → scratch_node d.pairs.now i j ≡ Some at
        → v (slice_index (first_variables d) at) ≡ false
        → value_at e d.sheet.now (address_of (node_at d.sheet.now i)) ≡ value_at e d.sheet.now (address_of (node_at d.sheet.now j))
        → HasOneByteAt e (value_at e d.sheet.now (address_of (node_at d.sheet.now i)))
    scratch_holds i j at a b h off same =
        let f = found d sheet whole d.pairs.now (pairs_are d sheet whole) i j at h in
        let lines = scratch_facts d sheet whole f.p f.pair f.node f.scratch in
        let needed_i = bytes_named d sheet whole i a.0 a.1 in
        let needed_j = bytes_named d sheet whole j b.0 b.1 in
        let needed : is_pair_needed d f.p ≡ true = elim f.order [
          | inl o ↦ and_from (is_needed d.sheet.now (named_nodes d) f.p.m.0) (is_needed d.sheet.now (named_nodes d) f.p.n.0)
              (ap (is_needed d.sheet.now (named_nodes d)) o.0 ∙ needed_i) (ap (is_needed d.sheet.now (named_nodes d)) o.1 ∙ needed_j)
          | inr o ↦ and_from (is_needed d.sheet.now (named_nodes d) f.p.m.0) (is_needed d.sheet.now (named_nodes d) f.p.n.0)
              (ap (is_needed d.sheet.now (named_nodes d)) o.0 ∙ needed_j) (ap (is_needed d.sheet.now (named_nodes d)) o.1 ∙ needed_i)
        ] in
        let reach : is_in_reach d at ≡ true =
        list_any-append (λ n. is_needed_by d.sheet.now at n.0) (named_nodes d) (flat_map pair_nodes (needed_pairs d))
        ∙ or_right (is_needed d.sheet.now (named_nodes d) at) (list_any (λ n. is_needed_by d.sheet.now at n.0) (flat_map pair_nodes (needed_pairs d))) (f.reach needed) in
        let node_zero : value_at e d.sheet.now f.node.0 ≡ 0 =
        ap (value_at e d.sheet.now) f.is ∙ sym (bit_is at reach (sym (ap (width_at d.sheet.now) f.is) ∙ lines.is.1)) ∙ ap words.bit (ap v (sym (first_is d at (reach_inside at reach))) ∙ off) in
        let inside_i : address_of (node_at d.sheet.now i) < length d.sheet.now = address_inside i (reach_inside i a.0) a.1 in
        let address_small : value_at e d.sheet.now (address_of (node_at d.sheet.now i)) < 2 ^ 64 =
        small (value_at e d.sheet.now (address_of (node_at d.sheet.now i))) (width_at d.sheet.now (address_of (node_at d.sheet.now i)))
        (value_at-below d.sheet.now sheet e (address_of (node_at d.sheet.now i)) inside_i)
        (width_ranged d.sheet.now sheet (address_of (node_at d.sheet.now i)) inside_i).1 in
        let of_m : value_at e d.sheet.now (address_of (node_at d.sheet.now f.p.m.0)) ≡ value_at e d.sheet.now (address_of (node_at d.sheet.now i)) = elim f.order [
          | inl o ↦ ap (λ (k : ℕ). value_at e d.sheet.now (address_of (node_at d.sheet.now k))) o.0
          | inr o ↦ ap (λ (k : ℕ). value_at e d.sheet.now (address_of (node_at d.sheet.now k))) o.0 ∙ sym same
        ] in
        subst (HasOneByteAt e) of_m
        (breaks.meets.memories (value_at e d.sheet.now (address_of (node_at d.sheet.now f.p.m.0)))
        (subst (λ (k : ℕ). k < 2 ^ 64) (sym of_m) address_small) (lines.outside e node_zero))
      where
        small : (x w : ℕ) → x < 2 ^ w → w ≤ 64 → x < 2 ^ 64
        small x w h k = let grows : 2 ^ w ≤ 2 ^ 64 = power_grows w 64 k in omega (arith, grows, h)

    ground_read : Reads e v (ground_of d)
    ground_read = record {
      sheet = sheet;
      inside = reach_inside;
      words = λ i h. subst (λ (x : ℕ). word_value v (width_at d.sheet.now i) x ≡ value_at e d.sheet.now i) (sym (first_is d i (reach_inside i h))) (is.reads i h);
      equalities = λ x p h one. equality_holds x (length d.sheet.now) p (omega arith) h one;
      scratch = scratch_holds;
    }

    first_held : IsHeld e v (ground_of d) (known_at_first d)
    first_held = record { ordered = clauses_ordered d; clauses = is.meets; gave = tt }

    none_for : (steps : List Step) → AreAcceptedFor d steps → ⊥
    none_for steps h = none_accepted e v (ground_of d) ground_read (known_at_first d) false steps first_held (λ t. both_ways false refl t) h

  -- a duty for which steps are accepted is true
  pub refuted_true : HasAssignments d → (steps : List Step) → AreAcceptedFor d steps → IsTrueDuty d
  refuted_true has steps h = held d sheet whole (λ e breaks. let a = has e breaks in none_for e breaks a.0 a.1 steps h)
