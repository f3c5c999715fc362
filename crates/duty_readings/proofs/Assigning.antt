-- An assignment that reads an environment which breaks a duty, filled node by node.
use Rattle.std.proofs.Common.{◌≡◌, ◌≢◌, ℕ, zero, suc, ◌+◌, ◌/◌, ◌%◌, ◌^◌, ◌<◌, ◌≤◌, ◌==◌, Bool, true, false, List, ◌∷◌, Option, Some, None, length, refl, sym, ◌∙◌, ap, subst, inl, inr, arith, mod-eq_of_lt}
use Rattle.std.specs.Prelude.{MatchOption, option_map}
use Rattle.std.specs.List.{AllByRecursion}
use Rattle.std.proofs.lemmas.Bool.{both_ways, cases_Bool, cases_lt, eqb-true, lt-ltb}
use Rattle.insn_ops.specs.declared.side.Side.{Side}
use Rattle.insn_ops.specs.declared.side.Side.TheVariants.{Left, Right}
use Rattle.insn_semantics.specs.Words as words
use Rattle.clauses.specs.Assignments.{MeetsAll}
use Rattle.clause_words.specs.Numbers.{with_helpers, word_value}
use Rattle.clause_words.proofs.Helpers.{behind}
use Rattle.clause_words.proofs.Numbers.{number_same}
use Rattle.node_rows.specs.NodeRows.{helpers_of, node_clauses}
use Rattle.node_values.specs.declared.node.Node.{Node}
use Rattle.node_values.specs.declared.node.NodeId.{NodeId}
use Rattle.node_values.specs.Nodes.{arguments, node_width}
use Rattle.node_values.specs.Sheets.{IsSheet, node_at, value_at, width_at}
use Rattle.node_values.specs.Values.{Environment, node_value}
use Rattle.node_values.proofs.NodeLaws.{SameAt, node_value_same}
use Rattle.node_values.proofs.SheetLaws.{at_arguments, value_at-below, value_at-is, width_at-is, width_ranged}
use Rattle.row_values.specs.RowValues.{AgreeFrom, ArgumentsHaveBits, ArgumentsStandBefore, is_input}
use Rattle.row_values.proofs.Places.{rows_stay}
use Rattle.row_values.proofs.RowNumbers.{rows_say}
use Rattle.row_values.proofs.WordNumbers.{bits_number}
use Rattle.duty_claims.specs.declared.duty.Duty.{Duty}
use Rattle.duty_claims.specs.declared.duty.StartPair.{StartPair}
use Rattle.duty_claims.specs.Needs.{address_of, side_of}
use Rattle.duty_claims.specs.Truth.{Breaks, HasOneByteAt, IsOne, IsOutsideLines, IsZero}
use Rattle.duty_claims.specs.Whole.{IsInLines, IsNodeOf, IsWhole}
use Rattle.clause_rows.specs.DutyClauses.{pair_row, reach_row}
use Rattle.clause_rows.specs.Numbering.{first_variable, variable_count}
use Rattle.clause_rows.specs.Reach.{if_there, is_in_reach, needed_pairs, pair_nodes}
use Rattle.clause_rows.specs.Readings.{HasAssignments}
use Rattle.clause_rows.proofs.SameBytes.{same_says}
use Rattle.duty_readings.proofs.Clauses.{MeetsParts, parts_to}
use Rattle.duty_readings.proofs.Lists.{together, weaker}
use Rattle.duty_readings.proofs.NodeCases.{input_met, start_address, start_value, start_width}
use Rattle.duty_readings.proofs.Reaching.{InReach, IsArgumentOf, IsByte, IsNeededPair, address_is, goals_reached, hypotheses_reached, inside, named_in_reach, pairs_are_needed, pairs_reached, reach_arguments}
use Rattle.duty_readings.proofs.Variables.{count_in_reach, first_grows, one_bit_value, one_is_true, zero_is_false}

module _ (d : Duty) (sheet : IsSheet d.sheet.now) (whole : IsWhole d) where
  abbrev ns : List Node
  ns = d.sheet.now

  abbrev W : ℕ → ℕ
  W = width_at ns

  abbrev first : ℕ → ℕ
  first = first_variable d

  -- the variables of a node of the reach end where those of later nodes begin
  pub ends_before : (i n : ℕ) → i < n → is_in_reach d i ≡ true → first i + (W i + helpers_of W (node_at ns i)) ≤ first n
  ends_before i n h r = let before : first i + variable_count d i ≤ first n = first_grows d i n h in
      let count : variable_count d i ≡ W i + helpers_of W (node_at ns i) = count_in_reach d i r in omega arith

  pub arguments_have_bits : (i : ℕ) → i < length ns → ArgumentsHaveBits W (node_at ns i)
  arguments_have_bits i b = at_arguments ns sheet (λ j. 0 < W j) i b (λ j l. (width_ranged ns sheet j (omega arith)).0)

  pub arguments_before : (i : ℕ) → is_in_reach d i ≡ true → ArgumentsStandBefore first W (first i) (node_at ns i)
  arguments_before i r =
      weaker (IsArgumentOf d sheet whole i) (λ j. first j + W j < first i + 1) (arguments (node_at ns i))
      (λ j h. let end : first j + (W j + helpers_of W (node_at ns j)) ≤ first i = ends_before j i h.1 h.0.0 in omega arith)
      (reach_arguments d sheet whole i r)

  -- what stands before a node's variables is the same in two assignments
  module _ (v u : ℕ → Bool) (n : ℕ) (same : (x : ℕ) → x < first n → v x ≡ u x) where
    kept_value : (i : ℕ) → i < n → is_in_reach d i ≡ true → word_value v (W i) (first i) ≡ word_value u (W i) (first i)
    kept_value i h r =
        let end : first i + (W i + helpers_of W (node_at ns i)) ≤ first n = ends_before i n h r in
        number_same (λ k. v (first i + k)) (λ k. u (first i + k)) (W i) (λ k b. same (first i + k) (omega arith))

    kept_row : (i : ℕ) → i < n → i < length ns → MeetsAll v (reach_row d i) → MeetsAll u (reach_row d i)
    kept_row i h b m = elim (cases_Bool (is_in_reach d i)) [
      | inl r ↦
          let end : first i + (W i + helpers_of W (node_at ns i)) ≤ first n = ends_before i n h r in
          let width : W i ≡ node_width W (node_at ns i) = width_at-is ns sheet i b in
          rw r (rows_stay v u first W i (first i) (node_at ns i) (sheet i b) (arguments_have_bits i b)
          (λ x low high. same x (omega arith))
          (weaker (IsArgumentOf d sheet whole i) (λ j. AgreeFrom v u (first j) (W j)) (arguments (node_at ns i))
          (λ j a x low high.
          let last : first j + (W j + helpers_of W (node_at ns j)) ≤ first n = ends_before j n (omega (arith, a.1)) a.0.0 in
          same x (omega arith))
          (reach_arguments d sheet whole i r)) (rw r at m))
      | inr out ↦ rw out tt
    ]

  module _ (e : Environment) (breaks : Breaks e d) where
    abbrev value : ℕ → ℕ
    value = value_at e ns

    -- the nodes below n have their values, and their rows are met
    pub record IsFilled (n : ℕ) (v : ℕ → Bool) : Type 0 where
      pub values : (i : ℕ) → i < n → is_in_reach d i ≡ true → word_value v (W i) (first i) ≡ value i
      pub rows : (i : ℕ) → i < n → MeetsAll v (reach_row d i)

    -- one more node of the reach
    module _ (n : ℕ) (b : n < length ns) (r : is_in_reach d n ≡ true) (v : ℕ → Bool) (filled : IsFilled n v) where
      abbrev node : Node
      node = node_at ns n

      abbrev w : ℕ
      w = node_width W node

      -- its bits are those of its value
      abbrev bits : ℕ → Bool
      bits k = value n / 2 ^ k % 2 == 1

      abbrev base : ℕ → Bool
      base = with_helpers v (first n) bits

      width : W n ≡ w
      width = width_at-is ns sheet n b

      base_same : (x : ℕ) → x < first n → v x ≡ base x
      base_same x h = rw (lt-ltb x (first n) h) refl

      below : value n < 2 ^ w
      below = subst (λ (k : ℕ). value n < 2 ^ k) width (value_at-below ns sheet e n b)

      own : (u : ℕ → Bool) → ((k : ℕ) → k < w → u (first n + k) ≡ bits k) → word_value u w (first n) ≡ value n
      own u h = number_same (λ k. u (first n + k)) bits w h ∙ bits_number (value n) w ∙ mod-eq_of_lt below

      fact : word_value base w (first n) ≡ node_value e W (λ a. word_value base (W a) (first a)) node
      fact =
          own base (λ k h. behind v (first n) bits k)
          ∙ value_at-is ns sheet e n b
          ∙ node_value_same e W W value (λ a. word_value base (W a) (first a)) node
          (weaker (IsArgumentOf d sheet whole n) (SameAt e W W value (λ a. word_value base (W a) (first a))) (arguments node)
          (λ j a. (refl, sym (filled.values j a.1 a.0.0) ∙ kept_value v base n base_same j a.1 a.0.0))
          (reach_arguments d sheet whole n r))

      -- and for some helpers its row is met
      met : (h : ℕ → Bool) × MeetsAll (with_helpers base (first n + w) h) (node_clauses first W (first n) node)
      met = elim (cases_Bool (is_input node)) [
        | inl t ↦ (λ k. false, input_met (with_helpers base (first n + w) (λ k. false)) first W (first n) node t)
        | inr f ↦ (rows_say base first W n (first n) node (sheet n b) f (arguments_have_bits n b) (arguments_before n r) e).some fact
      ]

      abbrev after : ℕ → Bool
      after = with_helpers base (first n + w) met.0

      after_base : (x : ℕ) → x < first n + w → base x ≡ after x
      after_base x h = rw (lt-ltb x (first n + w) h) refl

      after_same : (x : ℕ) → x < first n → v x ≡ after x
      after_same x h = base_same x h ∙ after_base x (omega arith)

      after_own : word_value after (W n) (first n) ≡ value n
      after_own =
          ap (λ (k : ℕ). word_value after k (first n)) width
          ∙ own after (λ k h. sym (after_base (first n + k) (omega arith)) ∙ behind v (first n) bits k)

      one_more : IsFilled (suc n) after
      one_more = record {
        values = λ i h ri. elim (cases_lt i n) [
          | inl lower ↦ sym (kept_value v after n after_same i lower ri) ∙ filled.values i lower ri
          | inr upper ↦
              let last : n ≡ i = omega arith in
              subst (λ (j : ℕ). word_value after (W j) (first j) ≡ value j) last after_own
        ];
        rows = λ i h. elim (cases_lt i n) [
          | inl lower ↦ kept_row v after n after_same i lower (omega arith) (filled.rows i lower)
          | inr upper ↦
              let last : n ≡ i = omega arith in
              subst (λ (j : ℕ). MeetsAll after (reach_row d j)) last (rw r met.1)
        ];
      }

    fill : (n : ℕ) → n ≤ length ns → (v : ℕ → Bool) × IsFilled n v
    fill zero b = (λ x. false, record { values = λ i h r. absurd (omega arith); rows = λ i h. absurd (omega arith) })
    fill (suc n) b =
        let lower : (v : ℕ → Bool) × IsFilled n v = fill n (omega arith) in
        elim (cases_Bool (is_in_reach d n)) [
          | inl r ↦ (after n (omega arith) r lower.0 lower.1, one_more n (omega arith) r lower.0 lower.1)
          | inr out ↦ (lower.0, skipped n out lower.0 lower.1)
        ]
      where
        skipped : (n : ℕ) → is_in_reach d n ≡ false → (v : ℕ → Bool) → IsFilled n v → IsFilled (suc n) v
        skipped n out v filled = record {
          values = λ i h r. elim (cases_lt i n) [
            | inl lower ↦ filled.values i lower r
            | inr upper ↦ let last : n ≡ i = omega arith in absurd (both_ways (is_in_reach d n) out (subst (λ (j : ℕ). is_in_reach d j ≡ true) (sym last) r))
          ];
          rows = λ i h. elim (cases_lt i n) [
            | inl lower ↦ filled.rows i lower
            | inr upper ↦ let last : n ≡ i = omega arith in subst (λ (j : ℕ). MeetsAll v (reach_row d j)) last (rw out tt)
          ];
        }

    -- an assignment to all nodes of the reach
    module _ (v : ℕ → Bool) (filled : IsFilled (length ns) v) where
      value_of : (i : ℕ) → is_in_reach d i ≡ true → word_value v (W i) (first i) ≡ value i
      value_of i r = filled.values i (inside d sheet whole i r) r

      -- a node of one bit is its lowest
      bit_of : (n : NodeId) → is_in_reach d n.0 ≡ true → W n.0 ≡ 1 → words.bit (v (first n.0)) ≡ value n.0
      bit_of n r one =
          sym (one_bit_value v (first n.0)) ∙ ap (λ (k : ℕ). word_value v k (first n.0)) (sym one) ∙ value_of n.0 r

      hypotheses_true : AllByRecursion (λ n. v (first n.0) ≡ true) d.hyps.now
      hypotheses_true =
          weaker (λ n. (IsNodeOf ns 1 n × IsOne e ns n) × InReach d sheet whole n.0) (λ n. v (first n.0) ≡ true) d.hyps.now
          (λ n h. one_is_true (v (first n.0)) (bit_of n h.1 h.0.0.1 ∙ h.0.1))
          (together (λ n. IsNodeOf ns 1 n × IsOne e ns n) (λ n. InReach d sheet whole n.0) d.hyps.now
          (together (IsNodeOf ns 1) (IsOne e ns) d.hyps.now whole.hypotheses breaks.meets.hypotheses) (hypotheses_reached d sheet whole))

      goals_false : AllByRecursion (λ n. v (first n.0) ≡ false) (d.goal ∷ d.more.now)
      goals_false =
          weaker (λ n. (IsNodeOf ns 1 n × IsZero e ns n) × InReach d sheet whole n.0) (λ n. v (first n.0) ≡ false) (d.goal ∷ d.more.now)
          (λ n h. zero_is_false (v (first n.0)) (bit_of n h.1 h.0.0.1 ∙ h.0.1))
          (together (λ n. IsNodeOf ns 1 n × IsZero e ns n) (λ n. InReach d sheet whole n.0) (d.goal ∷ d.more.now)
          (together (IsNodeOf ns 1) (IsZero e ns) (d.goal ∷ d.more.now) (whole.goal, whole.more) (breaks.goal, breaks.more))
          (goals_reached d sheet whole))

      -- a byte of the reach is that of its side's memory at its address
      byte_of : (i : ℕ) → is_in_reach d i ≡ true → IsByte d sheet whole i
          → word_value v 8 (first i) ≡ e.memory (side_of (node_at ns i)) (value (address_of (node_at ns i))) % 2 ^ 8
      byte_of i r s =
          let b : i < length ns = inside d sheet whole i r in
          ap (λ (k : ℕ). word_value v k (first i)) (sym (width_at-is ns sheet i b ∙ start_width W (node_at ns i) s))
          ∙ value_of i r ∙ value_at-is ns sheet e i b ∙ start_value e W value (node_at ns i) s

      one_byte : (a : ℕ) → HasOneByteAt e a → (s t : Side) → e.memory s a % 2 ^ 8 ≡ e.memory t a % 2 ^ 8
      one_byte a h Left Left = refl
      one_byte a h Left Right = h
      one_byte a h Right Left = sym h
      one_byte a h Right Right = refl

      -- the memories have one byte where the bytes' sides are the same, or out scratch line has the address
      bytes_at : (s t : Side) (m n a : ℕ) → a ≡ value (address_of (node_at ns m)) → a < 2 ^ 64 → (o : Option NodeId)
          → MatchOption o (s ≡ t) (λ g. (s ≢ t) × IsInLines ns d.scratch.now m n g)
          → AllByRecursion (λ g. is_in_reach d g.0 ≡ true) (if_there o)
          → MatchOption (option_map (λ (g : NodeId). first g.0) o) (Unit {0}) (λ x. v x ≡ false) → e.memory s a % 2 ^ 8 ≡ e.memory t a % 2 ^ 8
      bytes_at s t m n a same_place low None same r off = ap (λ (z : Side). e.memory z a % 2 ^ 8) same
      bytes_at s t m n a same_place low (Some g) lines r off =
          let none : value g.0 ≡ 0 = sym (bit_of g r.0 lines.1.is.1) ∙ ap words.bit off in
          one_byte a (breaks.meets.memories a low
          (subst (λ (z : ℕ). IsOutsideLines e ns d.scratch.now z) (sym same_place) (lines.1.outside e none))) s t

      pairs_met : AllByRecursion (λ p. MeetsAll v (pair_row first p)) (needed_pairs d)
      pairs_met =
          weaker (λ p. IsNeededPair d sheet whole p × AllByRecursion (λ n. InReach d sheet whole n.0) (pair_nodes p)) (λ p. MeetsAll v (pair_row first p)) (needed_pairs d)
          (λ p h. (same_says v (first p.same_at.0) (option_map (λ (g : NodeId). first g.0) p.scratch) (first p.m.0) (first p.n.0)).1 (same p h.0 h.1))
          (together (IsNeededPair d sheet whole) (λ p. AllByRecursion (λ n. InReach d sheet whole n.0) (pair_nodes p)) (needed_pairs d)
          (pairs_are_needed d sheet whole) (pairs_reached d sheet whole))
        where
          same : (p : StartPair) → IsNeededPair d sheet whole p → AllByRecursion (λ n. InReach d sheet whole n.0) (pair_nodes p)
              → v (first p.same_at.0) ≡ true → MatchOption (option_map (λ (g : NodeId). first g.0) p.scratch) (Unit {0}) (λ x. v x ≡ false)
              → word_value v 8 (first p.m.0) ≡ word_value v 8 (first p.n.0)
          same p q r on off =
              let rm : is_in_reach d p.m.0 ≡ true = named_in_reach d sheet whole p.m.0 q.named.0 in
              let rn : is_in_reach d p.n.0 ≡ true = named_in_reach d sheet whole p.n.0 q.named.1 in
              let am : ℕ = value (address_of (node_at ns p.m.0)) in
              let an : ℕ = value (address_of (node_at ns p.n.0)) in
              let one : words.equal am an ≡ 1 = sym (q.whole_pair.same_at.value e) ∙ sym (bit_of p.same_at r.0 q.whole_pair.same_at.is.1) ∙ ap words.bit on in
              let equal : am ≡ an = eqb-true am an (one_is_true (am == an) one) in
              let low : am < 2 ^ 64 = address_below p.m.0 rm q.bytes.0 in
              byte_of p.m.0 rm q.bytes.0
              ∙ bytes_at (side_of (node_at ns p.m.0)) (side_of (node_at ns p.n.0)) p.m.0 p.n.0 am refl low p.scratch q.whole_pair.scratch r.1 off
              ∙ ap (λ (z : ℕ). e.memory (side_of (node_at ns p.n.0)) z % 2 ^ 8) equal
              ∙ sym (byte_of p.n.0 rn q.bytes.1)
            where
              address_below : (i : ℕ) → is_in_reach d i ≡ true → IsByte d sheet whole i → value (address_of (node_at ns i)) < 2 ^ 64
              address_below i r s =
                  let a = address_is d sheet whole i r s in
                  let b : address_of (node_at ns i) < length ns = inside d sheet whole (address_of (node_at ns i)) a.0.0 in
                  subst (λ (k : ℕ). value (address_of (node_at ns i)) < 2 ^ k)
                  (start_address W i (node_at ns i) (sheet i (inside d sheet whole i r)) s) (value_at-below ns sheet e (address_of (node_at ns i)) b)

      pub all_met : MeetsParts d v
      all_met = record { nodes = filled.rows; pairs = pairs_met; hypotheses = hypotheses_true; goals = goals_false }

pub has_assignments : (d : Duty) → IsSheet d.sheet.now → IsWhole d → HasAssignments d
has_assignments d sheet whole e breaks =
    let all : (v : ℕ → Bool) × IsFilled d sheet whole e breaks (length d.sheet.now) v = fill d sheet whole e breaks (length d.sheet.now) (omega arith) in (
      all.0,
      record {
        meets = parts_to d all.0 (all_met d sheet whole e breaks all.0 all.1);
        reads = λ i r. value_of d sheet whole e breaks all.0 all.1 i r;
      },
    )
