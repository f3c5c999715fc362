-- The variables and the widths of the nodes of a duty's reach, listed by number.
use Rattle.std.proofs.Common.{◌≡◌, ℕ, ◌<◌, ◌≤◌, Bool, true, false, List, [], length, get_or, refl, sym, ◌∙◌, ap, subst, arith, inl, inr, Option, Some, None}
use Rattle.std.specs.Prelude.{map, slice_index, MatchOption}
use Rattle.std.specs.List.{AllByRecursion, flat_map, range_with_len}
use Rattle.std.specs.Option.{option_map}
use Rattle.std.proofs.lemmas.Bool.{cases_Bool}
use Rattle.std.proofs.lemmas.List.FromFn.{get_or-map-range_with_len, length-map-range_with_len}
use Rattle.clauses.specs.declared.clause.Lit.{Lit}
use Rattle.clause_gates.specs.Gates.{positive}
use Rattle.clause_words.specs.Rows.{columns}
use Rattle.node_reach.specs.Reached.{is_marked}
use Rattle.node_rows.specs.NodeRows.{helpers_of, node_clauses}
use Rattle.node_values.specs.declared.node.NodeId.{NodeId}
use Rattle.node_values.specs.Nodes.{IsNode, arguments}
use Rattle.node_values.specs.Sheets.{IsSheet, node_at, width_at}
use Rattle.node_values.proofs.NodeLaws.{AllArguments}
use Rattle.node_values.proofs.SheetLaws.{IsNode_same, at_arguments, width_ranged}
use Rattle.terms.proofs.GrowingNodes.{IsNode_grows}
use Rattle.duty_claims.specs.declared.duty.Duty.{Duty}
use Rattle.duty_claims.specs.declared.duty.StartPair.{StartPair}
use Rattle.duty_claims.specs.Whole.{IsWhole}
use Rattle.clause_rows.specs.DutyClauses.{lowest_bit, pair_row, reach_row, reach_rows}
use Rattle.clause_rows.specs.Numbering.{AreReachWidths, first_variable}
use Rattle.clause_rows.specs.Reach.{IsPairAmong, is_in_reach}
use Rattle.clause_rows.specs.SameRows.{same_row}
use Rattle.clause_rows.proofs.Elements.{all_of, joined_same, map_same}
use Rattle.clause_rows.proofs.Inside.{arguments_in_reach, reach_inside}
use Rattle.clause_rows.proofs.Marked.{marked_inside}
use Rattle.clause_rows.proofs.SameFirsts.{HasSame, columns_end, helpers_few, helpers_same, node_clauses_same}

there_same : (f g : ℕ → ℕ) (P : NodeId → Type 0) (o : Option NodeId) → ((node : NodeId) → P node → f node.0 ≡ g node.0)
    → MatchOption o (Unit {0}) P → option_map (λ node. f node.0) o ≡ option_map (λ node. g node.0) o
there_same f g P None h p = refl
there_same f g P (Some node) h p = λ i. Some (h node p i)

there_more : (P Q : NodeId → Type 0) (o : Option NodeId) → ((node : NodeId) → P node → Q node) → MatchOption o (Unit {0}) P → MatchOption o (Unit {0}) Q
there_more P Q None h p = tt
there_more P Q (Some node) h p = h node p

module _ (d : Duty) (whole : IsWhole d) (sheet : IsSheet d.sheet.now) (marks : List Bool) (reach : (k : ℕ) → is_marked marks k ≡ is_in_reach d k) where
  abbrev InReach : NodeId → Type 0
  InReach node = is_in_reach d node.0 ≡ true

  -- a marked node is in the sheet, and a node of the reach in the list
  pub marked_in_sheet : (k : ℕ) → is_marked marks k ≡ true → k < length d.sheet.now
  marked_in_sheet k h = reach_inside d whole sheet k (sym (reach k) ∙ h)

  pub listed : (k : ℕ) → is_in_reach d k ≡ true → k < length marks
  listed k h = marked_inside marks k (reach k ∙ h)

  -- a node outside the reach has no row
  pub unreached_row : (k : ℕ) → is_in_reach d k ≡ false → reach_row d k ≡ []
  unreached_row k h = rw h refl

  row_or_inside : (bound k : ℕ) → bound ≤ k → (is_in_reach d k ≡ true → k < bound) → reach_row d k ≡ []
  row_or_inside bound k b h = elim (cases_Bool (is_in_reach d k)) [ inl t ↦ absurd (over (h t)) | inr f ↦ unreached_row k f ]
    where
      over : k < bound → ⊥
      over l = omega arith

  pub rows_listed : columns (reach_row d) (length marks) ≡ reach_rows d
  rows_listed =
      columns_end (reach_row d) (length marks) (length d.sheet.now) (λ k b. row_or_inside (length marks) k b (listed k))
      (λ k b. row_or_inside (length d.sheet.now) k b (reach_inside d whole sheet k))

  module _ (widths : List ℕ) (are : AreReachWidths d marks widths) where
    same_width : (j : ℕ) → is_in_reach d j ≡ true → slice_index widths j ≡ width_at d.sheet.now j
    same_width j h = are.marked j (reach j ∙ h)

    same_widths : (i : ℕ) → is_in_reach d i ≡ true → AllArguments (λ j. slice_index widths j ≡ width_at d.sheet.now j) (node_at d.sheet.now i)
    same_widths i h =
        all_of (λ j. is_in_reach d j ≡ true) (λ j. slice_index widths j ≡ width_at d.sheet.now j) (arguments (node_at d.sheet.now i)) same_width
        (arguments_in_reach d whole sheet i h)

    -- a node of the reach is one over the listed widths
    pub node_listed : (i : ℕ) → is_in_reach d i ≡ true → IsNode (slice_index widths) (length widths) (node_at d.sheet.now i)
    node_listed i h =
        let inside : i < length marks = listed i h in
        IsNode_grows (slice_index widths) i (length widths) (node_at d.sheet.now i) (omega (arith, are.len))
        (IsNode_same (width_at d.sheet.now) (slice_index widths) i (node_at d.sheet.now i)
        (all_of (λ j. slice_index widths j ≡ width_at d.sheet.now j) (λ j. width_at d.sheet.now j ≡ slice_index widths j) (arguments (node_at d.sheet.now i))
        (λ j e. sym e) (same_widths i h)) (sheet i (reach_inside d whole sheet i h)))

    pub helpers_listed : (i : ℕ) → is_in_reach d i ≡ true
        → helpers_of (slice_index widths) (node_at d.sheet.now i) ≡ helpers_of (width_at d.sheet.now) (node_at d.sheet.now i)
    helpers_listed i h = helpers_same (slice_index widths) (width_at d.sheet.now) (node_at d.sheet.now i) (same_widths i h)

    pub helpers_bounded : (i : ℕ) → is_in_reach d i ≡ true → helpers_of (slice_index widths) (node_at d.sheet.now i) ≤ 12352
    helpers_bounded i h =
        subst (λ (n : ℕ). n ≤ 12352) (sym (helpers_listed i h))
        (helpers_few (width_at d.sheet.now) (node_at d.sheet.now i)
        (at_arguments d.sheet.now sheet (λ j. width_at d.sheet.now j ≤ 64) i (reach_inside d whole sheet i h)
        (λ j b. (width_ranged d.sheet.now sheet j (below j b)).1)))
      where
        below : (j : ℕ) → j < i → j < length d.sheet.now
        below j b = let inside : i < length d.sheet.now = reach_inside d whole sheet i h in omega arith

  module _ (firsts : List ℕ) (first : firsts ≡ map (first_variable d) (range_with_len 0 (length marks))) where
    pub first_at : (k : ℕ) → is_in_reach d k ≡ true → slice_index firsts k ≡ first_variable d k
    first_at k r =
        ap (λ xs. get_or xs k 0) first
        ∙ get_or-map-range_with_len (first_variable d) 0 (length marks) k k 0 (listed k r) (omega arith)

    pub firsts_length : length firsts ≡ length marks
    firsts_length = ap length first ∙ length-map-range_with_len (first_variable d) 0 (length marks)

    pub first_inside : (k : ℕ) → is_in_reach d k ≡ true → k < length firsts
    first_inside k h = let inside : k < length marks = listed k h in omega (arith, firsts_length)

    -- what stands in the reach has a listed variable
    pub pairs_inside : (pairs : List StartPair) → AllByRecursion (IsPairAmong InReach) pairs
        → AllByRecursion (IsPairAmong (λ node. node.0 < length firsts)) pairs
    pairs_inside pairs among =
        all_of (IsPairAmong InReach) (IsPairAmong (λ node. node.0 < length firsts)) pairs
        (λ p h. record {
          m = first_inside p.m.0 h.m;
          n = first_inside p.n.0 h.n;
          same_at = first_inside p.same_at.0 h.same_at;
          scratch = there_more InReach (λ node. node.0 < length firsts) p.scratch (λ node r. first_inside node.0 r) h.scratch;
        }) among

    pub nodes_inside : (nodes : List NodeId) → AllByRecursion InReach nodes → AllByRecursion (λ node. node.0 < length firsts) nodes
    nodes_inside nodes among = all_of InReach (λ node. node.0 < length firsts) nodes (λ node r. first_inside node.0 r) among

    -- the rows of pairs of bytes
    pub pairs_same : (pairs : List StartPair) → AllByRecursion (IsPairAmong InReach) pairs
        → flat_map (pair_row (slice_index firsts)) pairs ≡ flat_map (pair_row (first_variable d)) pairs
    pairs_same pairs among =
        joined_same (pair_row (slice_index firsts)) (pair_row (first_variable d)) pairs
        (all_of (IsPairAmong InReach) (λ p. pair_row (slice_index firsts) p ≡ pair_row (first_variable d) p) pairs one_same among)
      where
        one_same : (p : StartPair) → IsPairAmong InReach p → pair_row (slice_index firsts) p ≡ pair_row (first_variable d) p
        one_same p b = λ i. same_row
            (first_at p.same_at.0 b.same_at i)
            (there_same (slice_index firsts) (first_variable d) InReach p.scratch (λ node l. first_at node.0 l) b.scratch i)
            (first_at p.m.0 b.m i) (first_at p.n.0 b.n i)

    -- clauses of the lowest bits of nodes
    pub bits_same : (clause : Lit → List Lit) (nodes : List NodeId) → AllByRecursion InReach nodes
        → map (λ n. clause (lowest_bit (slice_index firsts) n)) nodes ≡ map (λ n. clause (lowest_bit (first_variable d) n)) nodes
    bits_same clause nodes among =
        map_same _ _ nodes (all_of InReach (λ n. clause (lowest_bit (slice_index firsts) n) ≡ clause (lowest_bit (first_variable d) n)) nodes
        (λ n l. ap (λ x. clause (positive x)) (first_at n.0 l)) among)

    -- the row of a node of the reach
    pub row_listed : (widths : List ℕ) → AreReachWidths d marks widths → (i : ℕ) → is_in_reach d i ≡ true
        → node_clauses (slice_index firsts) (slice_index widths) (slice_index firsts i) (node_at d.sheet.now i) ≡ reach_row d i
    row_listed widths are i h = rw h (
        ap (λ r. node_clauses (slice_index firsts) (slice_index widths) r (node_at d.sheet.now i)) (first_at i h)
        ∙ node_clauses_same (slice_index firsts) (first_variable d) (slice_index widths) (width_at d.sheet.now) (first_variable d i) (node_at d.sheet.now i)
        (all_of (λ j. is_in_reach d j ≡ true) (HasSame (slice_index firsts) (first_variable d) (slice_index widths) (width_at d.sheet.now))
        (arguments (node_at d.sheet.now i)) (λ j r. (first_at j r, same_width widths are j r)) (arguments_in_reach d whole sheet i h))
        )
