-- An environment that an assignment reads: its registers and memories read off the nodes.
use Rattle.std.proofs.Common.{◌≡◌, ◌≢◌, ℕ, zero, suc, ◌+◌, ◌-◌, ◌%◌, ◌^◌, ◌<◌, ◌≤◌, ◌==◌, ◌&&◌, ◌||◌, Bool, true, false, List, [], ◌∷◌, Option, Some, None, length, refl, sym, ◌∙◌, ap, subst, inl, inr, arith, mod-eq_of_lt}
use Rattle.std.specs.Prelude.{MatchOption, option_map}
use Rattle.std.specs.List.{AllByRecursion, list_all}
use Rattle.std.proofs.lemmas.Bool.{and_from, and_parts, both_ways, cases_Bool, cases_lt, eq-eqb, eqb-true, le-leb, leb-true, lt-ltb, or_cases, or_left, or_right}
use Rattle.insn_ops.specs.declared.side.Side.{Side}
use Rattle.insn_ops.specs.declared.side.Side.TheVariants.{Left, Right}
use Rattle.insn_semantics.specs.Words as words
use Rattle.clauses.specs.Assignments.{MeetsAll}
use Rattle.clause_words.specs.Numbers.{with_helpers, word_value}
use Rattle.clause_words.proofs.Helpers.{behind}
use Rattle.clause_words.proofs.Numbers.{number_below}
use Rattle.node_values.specs.declared.node.Node.{Node}
use Rattle.node_values.specs.declared.node.NodeId.{NodeId}
use Rattle.node_values.specs.Nodes.{arguments, node_width}
use Rattle.node_values.specs.Sheets.{IsSheet, node_at, value_at, width_at}
use Rattle.node_values.specs.Values.{Environment, node_value}
use Rattle.node_values.proofs.NodeLaws.{SameAt, node_value_same}
use Rattle.node_values.proofs.SheetLaws.{at_arguments, value_at-is, width_at-is}
use Rattle.terms.specs.Kept.{HasEachNodeOnce}
use Rattle.terms.specs.Made.{is_same_node}
use Rattle.terms.proofs.DistinctNodes.{same_as_itself}
use Rattle.terms.proofs.MadeLaws.{same_node}
use Rattle.row_values.specs.RowValues.{AgreeFrom, is_input}
use Rattle.row_values.proofs.Places.{rows_stay}
use Rattle.row_values.proofs.RowNumbers.{rows_say}
use Rattle.duty_claims.specs.declared.duty.Duty.{Duty}
use Rattle.duty_claims.specs.declared.duty.StartPair.{StartPair}
use Rattle.duty_claims.specs.Needs.{Needs, address_of, is_start, side_of}
use Rattle.duty_claims.specs.Truth.{Breaks, HasOneByteAt, IsOne, IsOutsideLine, IsOutsideLines, IsZero}
use Rattle.duty_claims.specs.Whole.{IsInLines, IsLine, IsNodeOf, IsWhole, NeedsOnlyOf}
use Rattle.duty_claims.proofs.Needs.{needs_go_on, needs_itself}
use Rattle.clause_rows.specs.DutyClauses.{duty_clauses, pair_row}
use Rattle.clause_rows.specs.Numbering.{first_variable}
use Rattle.clause_rows.specs.Reach.{if_there, is_in_reach, needed_pairs, pair_nodes}
use Rattle.clause_rows.specs.Readings.{HasEnvironments, IsEnvironmentOf}
use Rattle.clause_rows.proofs.SameBytes.{same_says}
use Rattle.duty_readings.specs.ReadEnvironment.{byte_read, environment_read, first_value, is_byte_at, is_off_line, is_off_lines, is_reached_node, is_side, number_at, read_number, registers_read}
use Rattle.duty_readings.proofs.Assigning.{arguments_before, arguments_have_bits}
use Rattle.duty_readings.proofs.Clauses.{MeetsParts, parts_from}
use Rattle.duty_readings.proofs.Lists.{together, weaker}
use Rattle.duty_readings.proofs.NodeCases.{input_value, start_value, start_width, unread_memory}
use Rattle.duty_readings.proofs.Reaching.{IsArgumentOf, IsByte, IsNeededPair, address_is, arguments_needed, goals_reached, hypotheses_reached, inside, needs_lower, pair_of, pairs_are_needed, pairs_reached, reach_arguments, reach_on}
use Rattle.duty_readings.proofs.Variables.{one_bit_value, one_is_true, zero_is_false}

first_found : (t : ℕ → Bool) (y : ℕ → ℕ) (i n k : ℕ) → i ≤ k → k < i + n → t k ≡ true
    → (j : ℕ) × (j ≤ k) × (t j ≡ true) × (first_value t y i n ≡ y j)
unfolding first_value
first_found t y i zero k low high h = absurd (omega arith)
first_found t y i (suc n) k low high h = elim (cases_Bool (t i)) [
  | inl t' ↦ (i, low, t', rw t' refl)
  | inr f ↦
      let other : i ≢ k = λ e. both_ways (t k) (subst (λ (z : ℕ). t z ≡ false) e f) h in
      let found : (j : ℕ) × (j ≤ k) × (t j ≡ true) × (first_value t y (i + 1) n ≡ y j) = first_found t y (i + 1) n k (omega arith) (omega arith) h in
      (found.0, found.1, found.2, rw f found.3)
]

first_same : (t s : ℕ → Bool) (y : ℕ → ℕ) (i n : ℕ) → ((k : ℕ) → t k ≡ s k) → first_value t y i n ≡ first_value s y i n
unfolding first_value
first_same t s y i zero h = refl
first_same t s y i (suc n) h = rw (h i, first_same t s y (i + 1) n h) refl

is_itself : (s : Side) → is_side s s ≡ true
unfolding is_side
is_itself Left = refl
is_itself Right = refl

side_same : (s t : Side) → is_side s t ≡ true → t ≡ s
unfolding is_side
side_same Left Left h = refl
side_same Left Right h = absurd (cc)
side_same Right Left h = absurd (cc)
side_same Right Right h = refl

module _ (d : Duty) (sheet : IsSheet d.sheet.now) (distinct : HasEachNodeOnce d.sheet.now) (whole : IsWhole d) (v : ℕ → Bool) (met : MeetsParts d v) where
  abbrev ns : List Node
  ns = d.sheet.now

  abbrev W : ℕ → ℕ
  W = width_at ns

  abbrev first : ℕ → ℕ
  first = first_variable d

  -- the number of a node's bits
  abbrev x : ℕ → ℕ
  x = number_at d v

  abbrev read : Node → ℕ
  read = read_number d v

  abbrev registers : Environment
  registers = registers_read d v

  abbrev is_outside_line : ℕ → NodeId × NodeId → Bool
  is_outside_line = is_off_line d v

  abbrev is_outside : ℕ → Bool
  is_outside = is_off_lines d v

  abbrev bytes : Side → ℕ → ℕ
  bytes = byte_read d v

  abbrev e : Environment
  e = environment_read d v

  abbrev IsRight : ℕ → Type 0
  IsRight k = value_at e ns k ≡ x k

  below : (i w : ℕ) → W i ≡ w → x i % 2 ^ w ≡ x i
  below i w h = mod-eq_of_lt (subst (λ (k : ℕ). x i < 2 ^ k) h (number_below (λ k. v (first i + k)) (W i)))

  -- a node is read as itself
  read_is : (i : ℕ) → is_in_reach d i ≡ true → read (node_at ns i) ≡ x i
  unfolding read_number
  read_is i r =
      let b : i < length ns = inside d sheet whole i r in
      let found = first_found (is_reached_node d (node_at ns i)) x 0 (length ns) i (omega arith) (omega arith) (and_from (is_in_reach d i) (is_same_node (node_at ns i) (node_at ns i)) r (same_as_itself (node_at ns i))) in
      let both = and_parts (is_in_reach d found.0) (is_same_node (node_at ns i) (node_at ns found.0)) found.2 in
      let same : i ≡ found.0 = distinct i found.0 b (inside d sheet whole found.0 both.0) (same_node (node_at ns i) (node_at ns found.0) both.1) in
      found.3 ∙ ap x (sym same)

  -- the row of an operator says its number
  operator_is : (i : ℕ) → is_in_reach d i ≡ true → is_input (node_at ns i) ≡ false → x i ≡ node_value e W x (node_at ns i)
  operator_is i r op =
      let b : i < length ns = inside d sheet whole i r in
      ap (λ (w : ℕ). word_value v w (first i)) (width_at-is ns sheet i b)
      ∙ (rows_say v first W i (first i) (node_at ns i) (sheet i b) op (arguments_have_bits d sheet whole i b) (arguments_before d sheet whole i r) e).only
      (λ k. v (first i + node_width W (node_at ns i) + k))
      (rows_stay v (with_helpers v (first i + node_width W (node_at ns i)) (λ k. v (first i + node_width W (node_at ns i) + k))) first W i (first i) (node_at ns i) (sheet i b)
      (arguments_have_bits d sheet whole i b) (λ y low high. unchanged (first i + node_width W (node_at ns i)) y)
      (at_arguments ns sheet (λ a. AgreeFrom v (with_helpers v (first i + node_width W (node_at ns i)) (λ k. v (first i + node_width W (node_at ns i) + k))) (first a) (W a)) i b
      (λ a l y low high. unchanged (first i + node_width W (node_at ns i)) y))
      (rw r at (met.nodes i b)))
    where
      unchanged : (s y : ℕ) → v y ≡ with_helpers v s (λ k. v (s + k)) y
      unchanged s y = elim (cases_lt y s) [
        | inl low ↦ rw (lt-ltb y s low) refl
        | inr high ↦
            let place : s + (y - s) ≡ y = omega arith in
            sym (ap (with_helpers v s (λ k. v (s + k))) (sym place) ∙ behind v s (λ k. v (s + k)) (y - s) ∙ ap v place)
      ]

  -- a node that is no byte is right where its arguments are
  node_right : (i : ℕ) → is_in_reach d i ≡ true → is_start (node_at ns i) ≡ false → AllByRecursion IsRight (arguments (node_at ns i)) → IsRight i
  node_right i r other all =
      let b : i < length ns = inside d sheet whole i r in
      value_at-is ns sheet e i b
      ∙ node_value_same e W W (value_at e ns) x (node_at ns i)
      (weaker IsRight (SameAt e W W (value_at e ns) x) (arguments (node_at ns i)) (λ j h. (refl, h)) all)
      ∙ elim (cases_Bool (is_input (node_at ns i))) [
        | inl input ↦
            input_value e read (λ side q. refl, λ q. refl, λ side q k. refl, refl) W x (node_at ns i) input other
            ∙ ap (λ (n : ℕ). n % 2 ^ node_width W (node_at ns i)) (read_is i r) ∙ below i (node_width W (node_at ns i)) (width_at-is ns sheet i b)
        | inr op ↦ sym (operator_is i r op)
      ]

  -- a node is right where the bytes that it needs are
  right_above : (bound i : ℕ) → i < bound → is_in_reach d i ≡ true → ((k : ℕ) → IsByte d sheet whole k → Needs ns i k → IsRight k) → IsRight i
  right_above zero i h r given = absurd (omega arith)
  right_above (suc bound) i h r given =
      let b : i < length ns = inside d sheet whole i r in
      elim (cases_Bool (is_start (node_at ns i))) [
        | inl s ↦ given i s (needs_itself ns sheet i b)
        | inr other ↦
            node_right i r other
            (weaker (IsArgumentOf d sheet whole i) IsRight (arguments (node_at ns i))
            (λ j a. right_above bound j (omega (arith, a.1)) a.0.0 (λ k s n. given k s (needs_go_on ns sheet i j k b a.0.1 n)))
            (reach_arguments d sheet whole i r))
      ]

  -- scratch lines need no memory
  unread : (bound i : ℕ) → i < bound → i < length ns → ((k : ℕ) → Needs ns i k → is_start (node_at ns k) ≡ true → ⊥) → value_at e ns i ≡ value_at registers ns i
  unread zero i h b none = absurd (omega arith)
  unread (suc bound) i h b none =
      value_at-is ns sheet e i b
      ∙ node_value_same e W W (value_at e ns) (value_at registers ns) (node_at ns i)
      (weaker (λ j. Needs ns i j × (j < i)) (SameAt e W W (value_at e ns) (value_at registers ns)) (arguments (node_at ns i))
      (λ j a. (refl, unread bound j (omega (arith, a.1)) (omega (arith, a.1)) (λ k n s. none k (needs_go_on ns sheet i j k b a.0 n) s)))
      (together (Needs ns i) (λ j. j < i) (arguments (node_at ns i)) (arguments_needed d sheet whole i b) (at_arguments ns sheet (λ j. j < i) i b (λ j l. l))))
      ∙ unread_memory registers bytes (λ side a. 0) W (value_at registers ns) (node_at ns i) (no_start (is_start (node_at ns i)) (none i (needs_itself ns sheet i b)))
      ∙ sym (value_at-is ns sheet registers i b)
    where
      no_start : (c : Bool) → (c ≡ true → ⊥) → c ≡ false
      no_start true f = absurd (f refl)
      no_start false f = refl

  line_same : (line : NodeId × NodeId) → IsLine ns line → (a : ℕ) → IsOutsideLine registers ns a line ≡ IsOutsideLine e ns a line
  line_same line h a =
      let base : value_at e ns line.0.0 ≡ value_at registers ns line.0.0 = unread (suc line.0.0) line.0.0 (omega arith) h.base.0 (λ k n s. h.needs k (inl n) s) in
      let len : value_at e ns line.1.0 ≡ value_at registers ns line.1.0 = unread (suc line.1.0) line.1.0 (omega arith) h.len.0 (λ k n s. h.needs k (inr n) s) in
      λ i. sym len i ≤ words.minus 64 a (sym base i)

  lines_from : (a : ℕ) (lines : List (NodeId × NodeId)) → AllByRecursion (IsLine ns) lines → list_all (is_outside_line a) lines ≡ true → IsOutsideLines e ns lines a
  lines_from a [] h all = tt
  lines_from a (line ∷ lines) h all =
      let both = and_parts (is_outside_line a line) (list_all (is_outside_line a) lines) all in (
        subst (λ (P : Type 0). P) (line_same line h.0 a) (leb-true (value_at registers ns line.1.0) (words.minus 64 a (value_at registers ns line.0.0)) both.0),
        lines_from a lines h.1 both.1,
      )

  lines_to : (a : ℕ) (lines : List (NodeId × NodeId)) → AllByRecursion (IsLine ns) lines → IsOutsideLines e ns lines a → list_all (is_outside_line a) lines ≡ true
  lines_to a [] h all = refl
  lines_to a (line ∷ lines) h all =
      and_from (is_outside_line a line) (list_all (is_outside_line a) lines)
      (le-leb (value_at registers ns line.1.0) (words.minus 64 a (value_at registers ns line.0.0)) (subst (λ (P : Type 0). P) (sym (line_same line h.0 a)) all.0))
      (lines_to a lines h.1 all.1)

  -- a node of one bit is its lowest
  bit_of : (n : NodeId) → W n.0 ≡ 1 → words.bit (v (first n.0)) ≡ x n.0
  bit_of n one = sym (one_bit_value v (first n.0)) ∙ ap (λ (k : ℕ). word_value v k (first n.0)) (sym one)

  byte_width : (i : ℕ) → is_in_reach d i ≡ true → IsByte d sheet whole i → W i ≡ 8
  byte_width i r s = width_at-is ns sheet i (inside d sheet whole i r) ∙ start_width W (node_at ns i) s

  -- what is known of a pair of needed bytes
  abbrev IsKnown : StartPair → Type 0
  IsKnown p = (IsNeededPair d sheet whole p × AllByRecursion (λ n. is_in_reach d n.0 ≡ true) (pair_nodes p)) × MeetsAll v (pair_row first p)

  known : AllByRecursion IsKnown (needed_pairs d)
  known =
      together (λ p. IsNeededPair d sheet whole p × AllByRecursion (λ n. is_in_reach d n.0 ≡ true) (pair_nodes p)) (λ p. MeetsAll v (pair_row first p)) (needed_pairs d)
      (together (IsNeededPair d sheet whole) (λ p. AllByRecursion (λ n. is_in_reach d n.0 ≡ true) (pair_nodes p)) (needed_pairs d)
      (pairs_are_needed d sheet whole) (pairs_reached d sheet whole))
      met.pairs

  -- all nodes of the reach below a number are right
  abbrev AreRightBelow : ℕ → Type 0
  AreRightBelow n = (k : ℕ) → k < n → is_in_reach d k ≡ true → IsRight k

  -- two bytes m and n of the reach, the nodes below n being right
  module _ (m n : ℕ) (order : m < n) (rm : is_in_reach d m ≡ true) (rn : is_in_reach d n ≡ true)
      (bm : IsByte d sheet whole m) (bn : IsByte d sheet whole n) (lower : AreRightBelow n) where
    abbrev am : ℕ
    am = address_of (node_at ns m)

    abbrev an : ℕ
    an = address_of (node_at ns n)

    first_right : IsRight am
    first_right = let a = address_is d sheet whole m rm bm in lower am (omega (arith, a.1)) a.0.0

    second_right : IsRight an
    second_right = let a = address_is d sheet whole n rn bn in lower an a.1 a.0.0

    pair_node_right : (g : NodeId) → is_in_reach d g.0 ≡ true → NeedsOnlyOf ns m n g → IsRight g.0
    pair_node_right g r only = right_above (suc g.0) g.0 (omega arith) r (λ k s need.
        let rk : is_in_reach d k ≡ true = reach_on d sheet whole g.0 k r need in
        elim (only k s need) [
          | inl one ↦
              let a = address_is d sheet whole m rm bm in
              let le : k ≤ am = needs_lower d sheet whole am k (inside d sheet whole am a.0.0) one in lower k (omega (arith, a.1)) rk
          | inr two ↦
              let a = address_is d sheet whole n rn bn in
              let le : k ≤ an = needs_lower d sheet whole an k (inside d sheet whole an a.0.0) two in lower k (omega (arith, a.1)) rk
        ])

    -- no scratch line has the address where one byte stands for both sides
    off_lines : is_side (side_of (node_at ns n)) (side_of (node_at ns m)) || is_outside (x am) ≡ true → (o : Option NodeId)
        → MatchOption o (side_of (node_at ns m) ≡ side_of (node_at ns n)) (λ g. (side_of (node_at ns m) ≢ side_of (node_at ns n)) × IsInLines ns d.scratch.now m n g)
        → AllByRecursion (λ g. is_in_reach d g.0 ≡ true) (if_there o)
        → MatchOption (option_map (λ (g : NodeId). first g.0) o) (Unit {0}) (λ z. v z ≡ false)
    off_lines h None lines r = tt
    off_lines h (Some g) lines r =
        let outside : is_outside (x am) ≡ true = elim (or_cases (is_side (side_of (node_at ns n)) (side_of (node_at ns m))) (is_outside (x am)) h) [
          | inl same ↦ absurd (lines.0 (side_same (side_of (node_at ns n)) (side_of (node_at ns m)) same))
          | inr off ↦ off
        ] in
        let none : value_at e ns g.0 ≡ 0 =
        lines.1.inside e (subst (λ (a : ℕ). IsOutsideLines e ns d.scratch.now a) (sym first_right) (lines_from (x am) d.scratch.now whole.scratch outside)) in
        zero_is_false (v (first g.0)) (bit_of g lines.1.is.1 ∙ sym (pair_node_right g r.0 lines.1.needs) ∙ none)

  -- bytes that may stand for each other are equal
  pair_same : (p : StartPair) → IsKnown p → p.m.0 < p.n.0 → is_in_reach d p.m.0 ≡ true → is_in_reach d p.n.0 ≡ true → AreRightBelow p.n.0
      → x (address_of (node_at ns p.m.0)) ≡ x (address_of (node_at ns p.n.0))
      → (is_side (side_of (node_at ns p.n.0)) (side_of (node_at ns p.m.0)) || is_outside (x (address_of (node_at ns p.m.0)))) ≡ true
      → x p.m.0 ≡ x p.n.0
  pair_same p q order rm rn lower same off =
      let m : ℕ = p.m.0 in
      let n : ℕ = p.n.0 in
      let bm : IsByte d sheet whole m = q.0.0.bytes.0 in
      let bn : IsByte d sheet whole n = q.0.0.bytes.1 in
      let at : words.equal (value_at e ns (address_of (node_at ns m))) (value_at e ns (address_of (node_at ns n))) ≡ 1 =
      ap words.bit (eq-eqb _ _ (first_right m n order rm rn bm bn lower ∙ same ∙ sym (second_right m n order rm rn bm bn lower))) in
      let on : v (first p.same_at.0) ≡ true =
      one_is_true (v (first p.same_at.0)) (bit_of p.same_at q.0.0.whole_pair.same_at.is.1
      ∙ sym (pair_node_right m n order rm rn bm bn lower p.same_at q.0.1.0 q.0.0.whole_pair.same_at.needs)
      ∙ q.0.0.whole_pair.same_at.value e ∙ at) in
      ap (λ (w : ℕ). word_value v w (first m)) (byte_width m rm bm)
      ∙ (same_says v (first p.same_at.0) (option_map (λ (g : NodeId). first g.0) p.scratch) (first m) (first n)).0 q.1 on
      (off_lines m n order rm rn bm bn lower off p.scratch q.0.0.whole_pair.scratch q.0.1.1)
      ∙ ap (λ (w : ℕ). word_value v w (first n)) (sym (byte_width n rn bn))

  earlier_same : (j i : ℕ) → j < i → is_in_reach d j ≡ true → is_in_reach d i ≡ true → IsByte d sheet whole j → IsByte d sheet whole i → AreRightBelow i
      → x (address_of (node_at ns j)) ≡ x (address_of (node_at ns i))
      → (is_side (side_of (node_at ns i)) (side_of (node_at ns j)) || is_outside (x (address_of (node_at ns j)))) ≡ true
      → x j ≡ x i
  earlier_same j i order rj ri bj bi =
      let pair = pair_of d sheet whole IsKnown known j i order rj ri bj bi in
      subst (λ (b : ℕ). IsSameBelow j b) pair.2 (subst (λ (a : ℕ). IsSameBelow a pair.0.n.0) pair.1 (pair_same pair.0 pair.3)) order rj ri
    where
      IsSameBelow : ℕ → ℕ → Type 0
      IsSameBelow a b =
          a < b → is_in_reach d a ≡ true → is_in_reach d b ≡ true → AreRightBelow b
          → x (address_of (node_at ns a)) ≡ x (address_of (node_at ns b))
          → (is_side (side_of (node_at ns b)) (side_of (node_at ns a)) || is_outside (x (address_of (node_at ns a)))) ≡ true
          → x a ≡ x b

  -- a byte is right where the nodes below it are
  byte_right : (i : ℕ) → is_in_reach d i ≡ true → IsByte d sheet whole i → AreRightBelow i → IsRight i
  unfolding byte_read
  byte_right i r s lower =
      let b : i < length ns = inside d sheet whole i r in
      let a = address_is d sheet whole i r s in
      let side : Side = side_of (node_at ns i) in
      let address : ℕ = x (address_of (node_at ns i)) in
      let here : is_byte_at d v side address i ≡ true =
      and_from _ _ r (and_from _ _ s (and_from _ _ (eq-eqb address address refl) (or_left (is_side side side) (is_outside address) (is_itself side)))) in
      let found = first_found (is_byte_at d v side address) x 0 (length ns) i (omega arith) (omega arith) here in
      value_at-is ns sheet e i b ∙ start_value e W (value_at e ns) (node_at ns i) s
      ∙ ap (λ (z : ℕ). bytes side z % 2 ^ 8) (lower (address_of (node_at ns i)) a.1 a.0.0)
      ∙ ap (λ (z : ℕ). z % 2 ^ 8) (found.3 ∙ equal found.0 found.1 found.2)
      ∙ below i 8 (byte_width i r s)
    where
      equal : (j : ℕ) → j ≤ i → is_byte_at d v (side_of (node_at ns i)) (x (address_of (node_at ns i))) j ≡ true → x j ≡ x i
      equal j le h =
          let one = and_parts _ _ h in
          let two = and_parts _ _ one.1 in
          let three = and_parts _ _ two.1 in
          let same : x (address_of (node_at ns j)) ≡ x (address_of (node_at ns i)) = eqb-true _ _ three.0 in
          elim (cases_lt j i) [
            | inl order ↦
                earlier_same j i order one.0 r two.0 s lower same
                (subst (λ (z : ℕ). (is_side (side_of (node_at ns i)) (side_of (node_at ns j)) || is_outside z) ≡ true) (sym same) three.1)
            | inr last ↦ let e : j ≡ i = omega arith in ap x e
          ]

  bytes_right : (bound i : ℕ) → i < bound → is_in_reach d i ≡ true → IsByte d sheet whole i → IsRight i
  bytes_right zero i h r s = absurd (omega arith)
  bytes_right (suc bound) i h r s =
      byte_right i r s (λ j l rj.
      right_above (suc j) j (omega arith) rj (λ k sk need.
      let le : k ≤ j = needs_lower d sheet whole j k (inside d sheet whole j rj) need in
      bytes_right bound k (omega arith) (reach_on d sheet whole j k rj need) sk))

  all_right : (i : ℕ) → is_in_reach d i ≡ true → IsRight i
  all_right i r = right_above (suc i) i (omega arith) r (λ k s need. bytes_right (suc k) k (omega arith) (reach_on d sheet whole i k r need) s)

  hypotheses_hold : AllByRecursion (IsOne e ns) d.hyps.now
  hypotheses_hold =
      weaker (λ n. (IsNodeOf ns 1 n × (v (first n.0) ≡ true)) × (is_in_reach d n.0 ≡ true)) (IsOne e ns) d.hyps.now
      (λ n h. all_right n.0 h.1 ∙ sym (bit_of n h.0.0.1) ∙ ap words.bit h.0.1)
      (together (λ n. IsNodeOf ns 1 n × (v (first n.0) ≡ true)) (λ n. is_in_reach d n.0 ≡ true) d.hyps.now
      (together (IsNodeOf ns 1) (λ n. v (first n.0) ≡ true) d.hyps.now whole.hypotheses met.hypotheses) (hypotheses_reached d sheet whole))

  goals_fail : AllByRecursion (IsZero e ns) (d.goal ∷ d.more.now)
  goals_fail =
      weaker (λ n. (IsNodeOf ns 1 n × (v (first n.0) ≡ false)) × (is_in_reach d n.0 ≡ true)) (IsZero e ns) (d.goal ∷ d.more.now)
      (λ n h. all_right n.0 h.1 ∙ sym (bit_of n h.0.0.1) ∙ ap words.bit h.0.1)
      (together (λ n. IsNodeOf ns 1 n × (v (first n.0) ≡ false)) (λ n. is_in_reach d n.0 ≡ true) (d.goal ∷ d.more.now)
      (together (IsNodeOf ns 1) (λ n. v (first n.0) ≡ false) (d.goal ∷ d.more.now) (whole.goal, whole.more) met.goals) (goals_reached d sheet whole))

  -- outside the scratch lines both sides read one node
  memories_agree : (a : ℕ) → a < 2 ^ 64 → IsOutsideLines e ns d.scratch.now a → HasOneByteAt e a
  unfolding byte_read
  memories_agree a b outside =
      ap (λ (z : ℕ). z % 2 ^ 8) (first_same (is_byte_at d v Left a) (is_byte_at d v Right a) x 0 (length ns) same)
    where
      off : is_outside a ≡ true
      off = lines_to a d.scratch.now whole.scratch outside

      either : (c k : Bool) → k ≡ true → (c || k) ≡ true
      either c k h = or_right c k h

      same : (k : ℕ) → is_byte_at d v Left a k ≡ is_byte_at d v Right a k
      same k =
          ap (λ (z : Bool). is_in_reach d k && (is_start (node_at ns k) && ((x (address_of (node_at ns k)) == a) && z)))
          (or_right (is_side Left (side_of (node_at ns k))) (is_outside a) off ∙ sym (or_right (is_side Right (side_of (node_at ns k))) (is_outside a) off))

  broken : Breaks e d
  broken = record {
    meets = record { hypotheses = hypotheses_hold; memories = memories_agree };
    goal = goals_fail.0;
    more = goals_fail.1;
  }

pub reads_environment : (d : Duty) → IsSheet d.sheet.now → HasEachNodeOnce d.sheet.now → IsWhole d → (v : ℕ → Bool)
    → MeetsAll v (duty_clauses d) → IsEnvironmentOf d v (environment_read d v)
reads_environment d sheet distinct whole v m =
    let met : MeetsParts d v = parts_from d v m in
    record { breaks = broken d sheet distinct whole v met; reads = λ i r. sym (all_right d sheet distinct whole v met i r) }

pub has_environments : (d : Duty) → IsSheet d.sheet.now → HasEachNodeOnce d.sheet.now → IsWhole d → HasEnvironments d
has_environments d sheet distinct whole v m = (environment_read d v, reads_environment d sheet distinct whole v m)
