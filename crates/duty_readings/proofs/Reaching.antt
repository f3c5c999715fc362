-- The reach of a whole duty: what it needs, its named nodes, and its pairs of bytes.
use Rattle.std.proofs.Common.{◌≡◌, ℕ, suc, ◌<◌, ◌≤◌, ◌==◌, true, List, ◌∷◌, Option, Some, None, length, refl, sym, ◌∙◌, subst, inl, inr, arith}
use Rattle.std.specs.Prelude.{MatchOption}
use Rattle.std.specs.List.{AllByRecursion, flat_map, list_any, range_with_len}
use Rattle.std.proofs.lemmas.Bool.{and_from, and_parts, or_cases, or_left, or_right}
use Rattle.std.proofs.lemmas.List.Folds.{list_any-append}
use Rattle.node_values.specs.declared.node.Node.{Node}
use Rattle.node_values.specs.declared.node.NodeId.{NodeId}
use Rattle.node_values.specs.Nodes.{arguments}
use Rattle.node_values.specs.Sheets.{IsSheet, node_at}
use Rattle.node_values.proofs.SheetLaws.{at_arguments}
use Rattle.duty_claims.specs.declared.duty.Duty.{Duty}
use Rattle.duty_claims.specs.declared.duty.StartPair.{StartPair}
use Rattle.duty_claims.specs.Needs.{Needs, address_of, is_needed_by, is_start, start_nodes}
use Rattle.duty_claims.specs.Whole.{IsNodeOf, IsWhole, IsWholePair, NeedsOnlyOf}
use Rattle.duty_claims.proofs.Needs.{needed-is, needed_have, needs_go_on, needs_itself}
use Rattle.node_reach.specs.Reached.{is_needed}
use Rattle.clause_rows.specs.Reach.{if_there, is_in_reach, is_pair_needed, named_nodes, needed_pairs, pair_nodes, reach_roots}
use Rattle.duty_readings.proofs.Lists.{all_in_row, any_weaker, appended, at_each_two, each_two_of, flattened, found_each, from_any, kept, mapped, parted, passed, together, unflattened, unmapped, weaker}
use Rattle.duty_readings.proofs.NodeCases.{start_arguments}

-- a fact of the node that may be there
there_has : (P : NodeId → Type 0) (o : Option NodeId) (A : Type 0) (B : NodeId → Type 0) → MatchOption o A B
    → ((g : NodeId) → B g → P g) → AllByRecursion P (if_there o)
there_has P None A B m f = tt
there_has P (Some g) A B m f = (f g m, tt)

module _ (d : Duty) (sheet : IsSheet d.sheet.now) (whole : IsWhole d) where
  abbrev ns : List Node
  ns = d.sheet.now

  abbrev pub InReach : ℕ → Type 0
  InReach k = is_in_reach d k ≡ true

  abbrev pub IsByte : ℕ → Type 0
  IsByte k = is_start (node_at ns k) ≡ true

  -- the named nodes need node k
  abbrev pub IsNamed : ℕ → Type 0
  IsNamed k = is_needed ns (named_nodes d) k ≡ true

  abbrev IsInside : NodeId → Type 0
  IsInside n = n.0 < length ns

  -- what is known of a pair of needed bytes
  pub record IsNeededPair (p : StartPair) : Type 0 where
    pub whole_pair : IsWholePair ns d.scratch.now p
    pub bytes : IsByte p.m.0 × IsByte p.n.0
    pub named : IsNamed p.m.0 × IsNamed p.n.0

  pairs_are_bytes : AllByRecursion (λ p. IsByte p.m.0 × IsByte p.n.0) d.pairs.now
  pairs_are_bytes =
      unmapped (λ (q : ℕ × ℕ). IsByte q.0 × IsByte q.1) (λ (p : StartPair). (p.m.0, p.n.0)) d.pairs.now
      (subst (λ (qs : List (ℕ × ℕ)). AllByRecursion (λ q. IsByte q.0 × IsByte q.1) qs) (sym whole.each_two)
      (each_two_of IsByte (start_nodes ns)
      (kept (λ i. is_start (node_at ns i)) IsByte (range_with_len 0 (length ns))
      (all_in_row (λ i. IsByte i → IsByte i) 0 (length ns) (λ i b h. h)))))

  pub pairs_are_needed : AllByRecursion IsNeededPair (needed_pairs d)
  pairs_are_needed =
      kept (is_pair_needed d) IsNeededPair d.pairs.now
      (weaker (λ (p : StartPair). IsWholePair ns d.scratch.now p × (IsByte p.m.0 × IsByte p.n.0)) (λ p. is_pair_needed d p ≡ true → IsNeededPair p) d.pairs.now
      (λ p w h. record {
        whole_pair = w.0;
        bytes = w.1;
        named = and_parts (is_needed ns (named_nodes d) p.m.0) (is_needed ns (named_nodes d) p.n.0) h;
      })
      (together (IsWholePair ns d.scratch.now) (λ p. IsByte p.m.0 × IsByte p.n.0) d.pairs.now whole.pairs pairs_are_bytes))

  named_inside : AllByRecursion IsInside (named_nodes d)
  named_inside =
      appended IsInside d.hyps.now (d.goal ∷ d.more.now) (weaker (IsNodeOf ns 1) IsInside d.hyps.now (λ n h. h.0) whole.hypotheses)
      (whole.goal.0, weaker (IsNodeOf ns 1) IsInside d.more.now (λ n h. h.0) whole.more)

  roots_inside : AllByRecursion IsInside (reach_roots d)
  roots_inside =
      appended IsInside (named_nodes d) (flat_map pair_nodes (needed_pairs d)) named_inside
      (flattened IsInside pair_nodes (needed_pairs d)
      (weaker IsNeededPair (λ p. AllByRecursion IsInside (pair_nodes p)) (needed_pairs d) (λ p h. (
        h.whole_pair.same_at.is.0,
        there_has IsInside p.scratch _ _ h.whole_pair.scratch (λ g s. s.1.is.0),
      )) pairs_are_needed))

  -- the reach lies in the sheet
  pub inside : (k : ℕ) → InReach k → k < length ns
  inside k h =
      from_any (λ n. is_needed_by ns k n.0) (k < length ns) (reach_roots d)
      (weaker IsInside (λ n. is_needed_by ns k n.0 ≡ true → k < length ns) (reach_roots d)
      (λ n b s. needed_have ns sheet (λ j. j < length ns) below (suc n.0) n.0 k (omega arith) b b s) roots_inside) h
    where
      below : (i : ℕ) → i < length ns → i < length ns → AllByRecursion (λ j. j < length ns) (arguments (node_at ns i))
      below i b h = at_arguments ns sheet (λ j. j < length ns) i b (λ j l. omega arith)

  -- what a node of it needs is in it
  pub reach_on : (i k : ℕ) → InReach i → Needs ns i k → InReach k
  reach_on i k h need =
      any_weaker (λ n. is_needed_by ns i n.0) (λ n. is_needed_by ns k n.0) (reach_roots d)
      (weaker IsInside (λ n. is_needed_by ns i n.0 ≡ true → is_needed_by ns k n.0 ≡ true) (reach_roots d)
      (λ n b s. needs_go_on ns sheet n.0 i k b s need) roots_inside) h

  -- a node needs its arguments
  pub arguments_needed : (i : ℕ) → i < length ns → AllByRecursion (Needs ns i) (arguments (node_at ns i))
  arguments_needed i b =
      weaker (λ j. list_any (is_needed_by ns j) (arguments (node_at ns i)) ≡ true) (Needs ns i) (arguments (node_at ns i))
      (λ j h. needed-is ns sheet j i b ∙ or_right (i == j) (list_any (is_needed_by ns j) (arguments (node_at ns i))) h)
      (found_each (λ j k. is_needed_by ns j k) (arguments (node_at ns i))
      (at_arguments ns sheet (λ j. is_needed_by ns j j ≡ true) i b (λ j l. needs_itself ns sheet j (omega arith))))

  -- and nothing of a higher number
  pub needs_lower : (i k : ℕ) → i < length ns → Needs ns i k → k ≤ i
  needs_lower i k b need = needed_have ns sheet (λ j. j ≤ i) below (suc i) i k (omega arith) b (omega arith) need
    where
      below : (j : ℕ) → j < length ns → j ≤ i → AllByRecursion (λ a. a ≤ i) (arguments (node_at ns j))
      below j c h = at_arguments ns sheet (λ a. a ≤ i) j c (λ a l. omega arith)

  -- the arguments of a node of the reach: in it, needed by the node, and of lower numbers
  abbrev pub IsArgumentOf : ℕ → ℕ → Type 0
  IsArgumentOf i j = (InReach j × Needs ns i j) × (j < i)

  pub reach_arguments : (i : ℕ) → InReach i → AllByRecursion (IsArgumentOf i) (arguments (node_at ns i))
  reach_arguments i h =
      together (λ j. InReach j × Needs ns i j) (λ j. j < i) (arguments (node_at ns i))
      (weaker (Needs ns i) (λ j. InReach j × Needs ns i j) (arguments (node_at ns i)) (λ j need. (reach_on i j h need, need))
      (arguments_needed i (inside i h)))
      (at_arguments ns sheet (λ j. j < i) i (inside i h) (λ j l. l))

  -- the address of a byte is an argument of it
  pub address_is : (i : ℕ) → InReach i → IsByte i → IsArgumentOf i (address_of (node_at ns i))
  address_is i h s =
      (subst (λ (xs : List ℕ). AllByRecursion (IsArgumentOf i) xs) (start_arguments (node_at ns i) s) (reach_arguments i h)).0

  roots_reached : AllByRecursion (λ n. InReach n.0) (reach_roots d)
  roots_reached =
      found_each (λ (n : NodeId) (m : NodeId). is_needed_by ns n.0 m.0) (reach_roots d)
      (weaker IsInside (λ n. is_needed_by ns n.0 n.0 ≡ true) (reach_roots d) (λ n b. needs_itself ns sheet n.0 b) roots_inside)

  named_reached : AllByRecursion (λ n. InReach n.0) (named_nodes d)
  named_reached = (parted (λ (n : NodeId). InReach n.0) (named_nodes d) (flat_map pair_nodes (needed_pairs d)) roots_reached).0

  pub hypotheses_reached : AllByRecursion (λ n. InReach n.0) d.hyps.now
  hypotheses_reached = (parted (λ (n : NodeId). InReach n.0) d.hyps.now (d.goal ∷ d.more.now) named_reached).0

  pub goals_reached : AllByRecursion (λ n. InReach n.0) (d.goal ∷ d.more.now)
  goals_reached = (parted (λ (n : NodeId). InReach n.0) d.hyps.now (d.goal ∷ d.more.now) named_reached).1

  pub pairs_reached : AllByRecursion (λ p. AllByRecursion (λ n. InReach n.0) (pair_nodes p)) (needed_pairs d)
  pairs_reached =
      unflattened (λ (n : NodeId). InReach n.0) pair_nodes (needed_pairs d)
      (parted (λ (n : NodeId). InReach n.0) (named_nodes d) (flat_map pair_nodes (needed_pairs d)) roots_reached).1

  pub named_in_reach : (k : ℕ) → IsNamed k → InReach k
  named_in_reach k h =
      list_any-append (λ n. is_needed_by ns k n.0) (named_nodes d) (flat_map pair_nodes (needed_pairs d))
      ∙ or_left (is_needed ns (named_nodes d) k) (is_needed ns (flat_map pair_nodes (needed_pairs d)) k) h

  -- what a named byte's address needs is named
  named_on : (i k : ℕ) → IsNamed i → IsByte i → Needs ns (address_of (node_at ns i)) k → IsNamed k
  named_on i k h s need =
      let address : IsArgumentOf i (address_of (node_at ns i)) = address_is i (named_in_reach i h) s in
      any_weaker (λ n. is_needed_by ns i n.0) (λ n. is_needed_by ns k n.0) (named_nodes d)
      (weaker IsInside (λ n. is_needed_by ns i n.0 ≡ true → is_needed_by ns k n.0 ≡ true) (named_nodes d)
      (λ n b t. needs_go_on ns sheet n.0 i k b t
      (needs_go_on ns sheet i (address_of (node_at ns i)) k (inside i (named_in_reach i h)) address.0.1 need)) named_inside) h

  -- a byte of the reach is named: the nodes of a pair need no others
  pub bytes_named : (k : ℕ) → IsByte k → InReach k → IsNamed k
  bytes_named k s h =
      elim (or_cases (is_needed ns (named_nodes d) k) (is_needed ns (flat_map pair_nodes (needed_pairs d)) k)
      (sym (list_any-append (λ n. is_needed_by ns k n.0) (named_nodes d) (flat_map pair_nodes (needed_pairs d))) ∙ h)) [
        | inl named ↦ named
        | inr of_pair ↦
            from_any (λ n. is_needed_by ns k n.0) (IsNamed k) (flat_map pair_nodes (needed_pairs d))
            (flattened (λ n. is_needed_by ns k n.0 ≡ true → IsNamed k) pair_nodes (needed_pairs d)
            (weaker IsNeededPair (λ p. AllByRecursion (λ n. is_needed_by ns k n.0 ≡ true → IsNamed k) (pair_nodes p)) (needed_pairs d)
            (λ p q. (
              by_addresses p q p.same_at q.whole_pair.same_at.needs,
              there_has (λ n. is_needed_by ns k n.0 ≡ true → IsNamed k) p.scratch _ _ q.whole_pair.scratch
                  (λ g t. by_addresses p q g t.1.needs),
            )) pairs_are_needed)) of_pair
      ]
    where
      by_addresses : (p : StartPair) → IsNeededPair p → (g : NodeId) → NeedsOnlyOf ns p.m.0 p.n.0 g → is_needed_by ns k g.0 ≡ true → IsNamed k
      by_addresses p q g only need = elim (only k s need) [
        | inl first ↦ named_on p.m.0 k q.named.0 q.bytes.0 first
        | inr second ↦ named_on p.n.0 k q.named.1 q.bytes.1 second
      ]

  -- each two bytes of the reach have a pair
  pub pair_of : (Fact : StartPair → Type 0) → AllByRecursion Fact (needed_pairs d) → (i j : ℕ) → i < j → InReach i → InReach j
      → IsByte i → IsByte j → (p : StartPair) × (p.m.0 ≡ i) × (p.n.0 ≡ j) × Fact p
  pair_of Fact all i j order ri rj bi bj =
      at_each_two Has (λ k. is_start (node_at ns k)) 0 (length ns)
      (subst (λ (qs : List (ℕ × ℕ)). AllByRecursion (λ q. Has q.0 q.1) qs) whole.each_two
      (mapped (λ (q : ℕ × ℕ). Has q.0 q.1) (λ (p : StartPair). (p.m.0, p.n.0)) d.pairs.now
      (weaker (λ p. is_pair_needed d p ≡ true → Fact p) (λ p. Has p.m.0 p.n.0) d.pairs.now
      (λ p h a b. (p, refl, refl, h (and_from (is_needed ns (named_nodes d) p.m.0) (is_needed ns (named_nodes d) p.n.0) a b)))
      (passed (is_pair_needed d) Fact d.pairs.now all))))
      i j (omega arith) order (let b : j < length ns = inside j rj in omega arith) bi bj (bytes_named i bi ri) (bytes_named j bj rj)
    where
      Has : ℕ → ℕ → Type 0
      Has i j = IsNamed i → IsNamed j → (p : StartPair) × (p.m.0 ≡ i) × (p.n.0 ≡ j) × Fact p
