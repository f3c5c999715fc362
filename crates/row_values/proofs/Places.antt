-- The variables that rows speak of.
use Rattle.std.proofs.Common.{◌≡◌, ◌≢◌, ℕ, zero, suc, ◌+◌, ◌-◌, ◌/◌, ◌%◌, ◌^◌, ◌<◌, ◌≤◌, ◌==◌, ◌||◌, Bool, true, false, List, [], ◌∷◌, ◌++◌, length, map, min, nat_lt, not, refl, sym, ◌∙◌, ap, ap₂, subst, inl, inr, arith, if◌then◌else◌}
use Rattle.std.specs.List.{AllByRecursion, filter, range_with_len}
use Rattle.std.proofs.lemmas.Bool.{cases_lt, eqb-false, ltb-false, ltb-true}
use Rattle.clauses.specs.declared.clause.Lit.{Lit}
use Rattle.clauses.specs.Assignments.{MeetsAll, clause_value}
use Rattle.clause_gates.specs.Gates.{and_gate, choice_gate, copy_gate, has_odd_ones, majority_gate, negation, positive, signed, xor_gate}
use Rattle.clause_words.specs.Products.{product_helpers, product_row, stage_clauses, stage_start, sum_start}
use Rattle.clause_words.specs.Rows.{all_alike, bit, column, columns, equal_row, last_place, less_column, row_clauses, sum_column, top_exchanged, unit}
use Rattle.clause_words.specs.declared.row.Row.TheVariants as rows
use Rattle.node_rows.specs.NodeRows.{helpers_of, node_clauses}
use Rattle.node_values.specs.declared.node.Node.{Node}
use Rattle.node_values.specs.declared.node.Node.TheVariants.{Const, Reg, Entry, VecByte, Start, Probe, Add, Sub, Mul, And, Or, Xor, Not, Shl, Shr, Sar, Cat, Cut, Sx, Eq, Ult, Slt, If}
use Rattle.node_values.specs.Nodes.{IsNode, arguments, node_width}
use Rattle.row_values.specs.RowValues.{ArgumentsHaveBits, RowsStayInPlace}
use Rattle.row_values.proofs.PlainRows.{least_below}

module _ (P : ℕ → Type 0) where
  -- what clauses speak of has P
  abbrev OfLiterals : List Lit → Type 0
  OfLiterals lits = AllByRecursion (λ l. P l.var) lits

  abbrev pub Speak : List (List Lit) → Type 0
  Speak cs = AllByRecursion OfLiterals cs

  -- so many variables from one on have P
  abbrev pub From : ℕ → ℕ → Type 0
  From first n = (x : ℕ) → first ≤ x → x < first + n → P x

  bit_of : (first n k : ℕ) → From first n → k < n → P (first + k)
  bit_of first n k f b = f (first + k) (omega arith) (omega arith)

  part : (first n start m : ℕ) → From first n → first ≤ start → start + m ≤ first + n → From start m
  part first n start m f low high x a b = f x (omega arith) (omega arith)

  both : (cs ds : List (List Lit)) → Speak cs → Speak ds → Speak (cs ++ ds)
  both [] ds p q = q
  both (c ∷ cs) ds p q = (p.0, both cs ds p.1 q)

  each : (clauses : ℕ → List (List Lit)) (w : ℕ) → ((k : ℕ) → k < w → Speak (clauses k)) → Speak (columns clauses w)
  each clauses zero f = tt
  each clauses (suc w) f = both (columns clauses w) (clauses w) (each clauses w (λ k b. f k (omega arith))) (f w (omega arith))

  by_test : (c : Bool) (cs ds : List (List Lit)) → (c ≡ true → Speak cs) → (c ≡ false → Speak ds) → Speak (if c then cs else ds)
  by_test true cs ds f g = f refl
  by_test false cs ds f g = g refl

  literal_by : (c : Bool) (l m : Lit) → (c ≡ true → P l.var) → (c ≡ false → P m.var) → P (if c then l else m).var
  literal_by true l m f g = f refl
  literal_by false l m f g = g refl

  -- gates
  of_two : (r a : Lit) → P r.var → P a.var → Speak (copy_gate r a)
  of_two r a p q = ((p, (q, tt)), ((p, (q, tt)), tt))

  of_three : (r a b : Lit) → P r.var → P a.var → P b.var → Speak (and_gate r a b)
  of_three r a b p q s = ((p, (q, tt)), ((p, (s, tt)), ((p, (q, (s, tt))), tt)))

  of_majority : (m a b c : Lit) → P m.var → P a.var → P b.var → P c.var → Speak (majority_gate m a b c)
  of_majority m a b c p q s t =
      ((p, (q, (s, tt))), ((p, (q, (t, tt))), ((p, (s, (t, tt))), ((p, (q, (s, tt))), ((p, (q, (t, tt))), ((p, (s, (t, tt))), tt))))))

  of_choice : (r c a b : Lit) → P r.var → P c.var → P a.var → P b.var → Speak (choice_gate r c a b)
  of_choice r c a b p q s t = ((q, (p, (s, tt))), ((q, (p, (s, tt))), ((q, (p, (t, tt))), ((q, (p, (t, tt))), tt))))

  of_signed : (n : ℕ) (ls : List Lit) → OfLiterals ls → OfLiterals (signed n ls)
  of_signed n [] p = tt
  of_signed n (l ∷ ls) p = (literal_by (n % 2 == 1) (negation l) l (λ t. p.0) (λ t. p.0), of_signed (n / 2) ls p.1)

  of_each_signed : (ns : List ℕ) (ls : List Lit) → OfLiterals ls → Speak (map (λ n. signed n ls) ns)
  of_each_signed [] ls p = tt
  of_each_signed (n ∷ ns) ls p = (of_signed n ls p, of_each_signed ns ls p)

  of_xor : (r : Lit) (ls : List Lit) → P r.var → OfLiterals ls → Speak (xor_gate r ls)
  of_xor r ls p q =
      of_each_signed (filter (has_odd_ones (length ls + 1)) (range_with_len 0 (2 ^ (length ls + 1)))) (r ∷ ls) (p, q)

  -- a sum
  sum_places : (w r a b c : ℕ) → From r w → From a w → From b w → From c (w - 1) → Speak (row_clauses w (rows.Sum w r a b c))
  sum_places w r a b c p q s t = each (column (rows.Sum w r a b c)) w col
    where
      col : (k : ℕ) → k < w → Speak (sum_column w (bit r) (bit a) (bit b) (bit c) k)
      col zero h =
          both (xor_gate (bit r 0) (bit a 0 ∷ bit b 0 ∷ [])) (if nat_lt 1 w then and_gate (bit c 0) (bit a 0) (bit b 0) else [])
          (of_xor (bit r 0) (bit a 0 ∷ bit b 0 ∷ []) (bit_of r w 0 p h) (bit_of a w 0 q h, (bit_of b w 0 s h, tt)))
          (by_test (nat_lt 1 w) (and_gate (bit c 0) (bit a 0) (bit b 0)) [] (λ e.
          let more : 1 < w = ltb-true 1 w e in
          of_three (bit c 0) (bit a 0) (bit b 0) (bit_of c (w - 1) 0 t (omega arith)) (bit_of a w 0 q h) (bit_of b w 0 s h)) (λ e. tt))
      col (suc k) h =
          both (xor_gate (bit r (suc k)) (bit a (suc k) ∷ bit b (suc k) ∷ bit c k ∷ []))
          (if nat_lt (suc k + 1) w then majority_gate (bit c (suc k)) (bit a (suc k)) (bit b (suc k)) (bit c k) else [])
          (of_xor (bit r (suc k)) (bit a (suc k) ∷ bit b (suc k) ∷ bit c k ∷ []) (bit_of r w (suc k) p h)
          (bit_of a w (suc k) q h, (bit_of b w (suc k) s h, (bit_of c (w - 1) k t (omega arith), tt))))
          (by_test (nat_lt (suc k + 1) w) (majority_gate (bit c (suc k)) (bit a (suc k)) (bit b (suc k)) (bit c k)) [] (λ e.
          let more : suc k + 1 < w = ltb-true (suc k + 1) w e in
          of_majority (bit c (suc k)) (bit a (suc k)) (bit b (suc k)) (bit c k)
          (bit_of c (w - 1) (suc k) t (omega arith)) (bit_of a w (suc k) q h) (bit_of b w (suc k) s h) (bit_of c (w - 1) k t (omega arith))) (λ e. tt))

  -- an order
  order_places : (w : ℕ) (lower a b : ℕ → Lit) → ((k : ℕ) → k < w → P (lower k).var) → ((k : ℕ) → k < w → P (a k).var)
      → ((k : ℕ) → k < w → P (b k).var) → Speak (columns (less_column lower a b) w)
  order_places w lower a b p q s = each (less_column lower a b) w col
    where
      col : (k : ℕ) → k < w → Speak (less_column lower a b k)
      col zero h = of_three (lower 0) (negation (a 0)) (b 0) (p 0 h) (q 0 h) (s 0 h)
      col (suc k) h =
          of_majority (lower (suc k)) (negation (a (suc k))) (b (suc k)) (lower k) (p (suc k) h) (q (suc k) h) (s (suc k) h) (p k (omega arith))

  last_of : (w r lower k : ℕ) → From r 1 → From lower (w - 1) → k < w → P (last_place w (bit r 0) (bit lower) k).var
  last_of w r lower k p q h =
      literal_by (k + 1 == w) (bit r 0) (bit lower k) (λ t. bit_of r 1 0 p (omega arith))
      (λ t. let other : k + 1 ≢ w = eqb-false (k + 1) w t in bit_of lower (w - 1) k q (omega arith))

  top_of : (w a b k : ℕ) → From a w → From b w → k < w → P (top_exchanged w (bit a) (bit b) k).var
  top_of w a b k p q h = literal_by (k + 1 == w) (bit b k) (bit a k) (λ t. bit_of b w k q h) (λ t. bit_of a w k p h)

  -- an equality
  equal_places : (w r a b h : ℕ) → From r 1 → From a w → From b w → From h w → Speak (equal_row w r a b h)
  equal_places w r a b h p q s t =
      both (row_clauses w (rows.Alike h a b)) (row_clauses w (rows.Each r h) ++ all_alike w r h ∷ [])
      (each (column (rows.Alike h a b)) w (λ k i. of_xor (negation (bit h k)) (bit a k ∷ bit b k ∷ []) (bit_of h w k t i) (bit_of a w k q i, (bit_of b w k s i, tt))))
      (both (row_clauses w (rows.Each r h)) (all_alike w r h ∷ [])
      (each (column (rows.Each r h)) w (λ k i. ((bit_of r 1 0 p (omega arith), (bit_of h w k t i, tt)), tt)))
      ((bit_of r 1 0 p (omega arith), of_range w 0 (omega arith)), tt))
    where
      of_range : (n k : ℕ) → k + n ≤ w → OfLiterals (map (λ k. negation (bit h k)) (range_with_len k n))
      of_range zero k b = tt
      of_range (suc n) k b = (bit_of h w k t (omega arith), of_range n (k + 1) (omega arith))

-- the helpers of a product: no stage begins before the first of them, nor ends behind the last
start_above : (w h k : ℕ) → h ≤ stage_start w h k
start_above w h zero = omega arith
start_above w h (suc k) = let rest : h ≤ stage_start w h k = start_above w h k in omega arith

start_inside : (w h m k : ℕ) → k ≤ m → stage_start w h k ≤ h + stage_start w 0 m
start_inside w h zero k b = let e : k ≡ 0 = omega arith in subst (λ (j : ℕ). stage_start w h j ≤ h + stage_start w 0 0) (sym e) (omega arith)
start_inside w h (suc m) k b =
    let rest : stage_start w h m ≤ h + stage_start w 0 m = start_inside w h m m (omega arith) in
    elim (cases_lt k (suc m)) [
      | inl lower ↦ let low : stage_start w h k ≤ h + stage_start w 0 m = start_inside w h m k (omega arith) in omega arith
      | inr upper ↦
          let e : k ≡ suc m = omega arith in
          subst (λ (j : ℕ). stage_start w h j ≤ h + stage_start w 0 (suc m)) (sym e) (omega arith)
    ]

sum_above : (w h k : ℕ) → h ≤ sum_start w h k
sum_above w h zero = omega arith
sum_above w h (suc k) = let rest : h ≤ stage_start w h k = start_above w h k in omega arith

sum_inside : (w h k : ℕ) → k < w → sum_start w h k + (w - k) ≤ stage_start w h k
sum_inside w h zero b = omega arith
sum_inside w h (suc k) b = omega arith

module _ (P : ℕ → Type 0) (w r a b h : ℕ) (own : From P r w) (first : From P a w) (second : From P b w) (helpers : From P h (product_helpers w)) where
  stage_places : (k : ℕ) → suc k < w → Speak P (stage_clauses w a b h k)
  stage_places k i =
      let low : h ≤ stage_start w h k = start_above w h k in
      let sum : h ≤ sum_start w h k = sum_above w h k in
      let sums : sum_start w h k + (w - k) ≤ stage_start w h k = sum_inside w h k (omega arith) in
      let high : stage_start w h (suc k) ≤ h + product_helpers w = start_inside w h (w - 1) (suc k) (omega arith) in
      both P (row_clauses (w - suc k) (rows.Times (stage_start w h k) a (b + suc k)))
      (row_clauses (w - suc k) (rows.Sum (w - suc k) (stage_start w h k + (w - suc k)) (sum_start w h k + 1) (stage_start w h k)
      (stage_start w h k + (w - suc k) + (w - suc k))))
      (each P (column (rows.Times (stage_start w h k) a (b + suc k))) (w - suc k) (λ j j'.
      of_three P (bit (stage_start w h k) j) (bit a j) (bit (b + suc k) 0)
      (helpers (stage_start w h k + j) (omega arith) (omega arith)) (first (a + j) (omega arith) (omega arith))
      (second (b + suc k + 0) (omega arith) (omega arith))))
      (sum_places P (w - suc k) (stage_start w h k + (w - suc k)) (sum_start w h k + 1) (stage_start w h k)
      (stage_start w h k + (w - suc k) + (w - suc k))
      (part P h (product_helpers w) (stage_start w h k + (w - suc k)) (w - suc k) helpers (omega arith) (omega arith))
      (part P h (product_helpers w) (sum_start w h k + 1) (w - suc k) helpers (omega arith) (omega arith))
      (part P h (product_helpers w) (stage_start w h k) (w - suc k) helpers (omega arith) (omega arith))
      (part P h (product_helpers w) (stage_start w h k + (w - suc k) + (w - suc k)) (w - suc k - 1) helpers (omega arith) (omega arith)))

  product_places : Speak P (product_row w r a b h)
  product_places =
      both P (row_clauses w (rows.Times h a b)) (columns (stage_clauses w a b h) (w - 1)
      ++ columns (λ k. copy_gate (bit r k) (positive (sum_start w h k))) w)
      (each P (column (rows.Times h a b)) w (λ k i.
      let high : stage_start w h 0 ≤ h + product_helpers w = start_inside w h (w - 1) 0 (omega arith) in
      of_three P (bit h k) (bit a k) (bit b 0) (helpers (h + k) (omega arith) (omega arith)) (bit_of P a w k first i)
      (second (b + 0) (omega arith) (omega arith))))
      (both P (columns (stage_clauses w a b h) (w - 1)) (columns (λ k. copy_gate (bit r k) (positive (sum_start w h k))) w)
      (each P (stage_clauses w a b h) (w - 1) (λ k i. stage_places k (omega arith)))
      (each P (λ k. copy_gate (bit r k) (positive (sum_start w h k))) w (λ k i.
      let low : h ≤ sum_start w h k = sum_above w h k in
      let sums : sum_start w h k + (w - k) ≤ stage_start w h k = sum_inside w h k i in
      let high : stage_start w h k ≤ h + product_helpers w = start_inside w h (w - 1) k (omega arith) in
      of_two P (bit r k) (positive (sum_start w h k)) (bit_of P r w k own i) (helpers (sum_start w h k) (omega arith) (omega arith)))))

module _ (P : ℕ → Type 0) (first widths : ℕ → ℕ) (n r : ℕ) where
  -- the row of each operator
  node_places : (node : Node) → IsNode widths n node → ArgumentsHaveBits widths node
      → From P r (node_width widths node + helpers_of widths node)
      → AllByRecursion (λ a. From P (first a) (widths a)) (arguments node) → Speak P (node_clauses first widths r node)
  node_places (Const w c) h p o s =
      each P (column (rows.Const r c)) w (λ k i.
      ((literal_by P (c / 2 ^ k % 2 == 1) (bit r k) (negation (bit r k)) (λ t. o (r + k) (omega arith) (omega arith)) (λ t. o (r + k) (omega arith) (omega arith)), tt), tt))
  node_places (Reg side x) h p o s = tt
  node_places (Entry x) h p o s = tt
  node_places (VecByte side x k) h p o s = tt
  node_places (Start side x) h p o s = tt
  node_places Probe h p o s = tt
  node_places (Add a b) h p o s =
      sum_places P (widths a.0) r (first a.0) (first b.0) (r + widths a.0)
      (λ x l m. o x l (omega arith)) s.0 (λ x l m. s.1.0 x l (omega (arith, h.2))) (λ x l m. o x (omega arith) (omega arith))
  node_places (Sub a b) h p o s =
      sum_places P (widths a.0) (first a.0) r (first b.0) (r + widths a.0)
      s.0 (λ x l m. o x l (omega arith)) (λ x l m. s.1.0 x l (omega (arith, h.2))) (λ x l m. o x (omega arith) (omega arith))
  node_places (Mul a b) h p o s =
      product_places P (widths a.0) r (first a.0) (first b.0) (r + widths a.0)
      (λ x l m. o x l (omega arith)) s.0 (λ x l m. s.1.0 x l (omega (arith, h.2))) (λ x l m. o x (omega arith) (omega arith))
  node_places (And a b) h p o s =
      each P (column (rows.And r (first a.0) (first b.0))) (widths a.0) (λ k i.
      of_three P (bit r k) (bit (first a.0) k) (bit (first b.0) k) (o (r + k) (omega arith) (omega arith))
      (s.0 (first a.0 + k) (omega arith) (omega arith)) (s.1.0 (first b.0 + k) (omega arith) (omega (arith, h.2))))
  node_places (Or a b) h p o s =
      each P (column (rows.Or r (first a.0) (first b.0))) (widths a.0) (λ k i.
      of_three P (bit r k) (bit (first a.0) k) (bit (first b.0) k) (o (r + k) (omega arith) (omega arith))
      (s.0 (first a.0 + k) (omega arith) (omega arith)) (s.1.0 (first b.0 + k) (omega arith) (omega (arith, h.2))))
  node_places (Xor a b) h p o s =
      each P (column (rows.Xor r (first a.0) (first b.0))) (widths a.0) (λ k i.
      of_xor P (bit r k) (bit (first a.0) k ∷ bit (first b.0) k ∷ []) (o (r + k) (omega arith) (omega arith))
      (s.0 (first a.0 + k) (omega arith) (omega arith), (s.1.0 (first b.0 + k) (omega arith) (omega (arith, h.2)), tt)))
  node_places (Not a) h p o s =
      each P (column (rows.Not r (first a.0))) (widths a.0) (λ k i.
      of_two P (bit r k) (bit (first a.0) k) (o (r + k) (omega arith) (omega arith)) (s.0 (first a.0 + k) (omega arith) (omega arith)))
  node_places (Shl a c) h p o s =
      each P (column (rows.Shl r (first a.0) c)) (widths a.0) (λ k i.
      let here : P (r + k) = o (r + k) (omega arith) (omega arith) in
      by_test P (nat_lt k c) (unit (negation (bit r k))) (copy_gate (bit r k) (bit (first a.0) (k - c))) (λ t. ((here, tt), tt))
      (λ t. of_two P (bit r k) (bit (first a.0) (k - c)) here (s.0 (first a.0 + (k - c)) (omega arith) (omega arith))))
  node_places (Shr a c) h p o s =
      each P (column (rows.Shr (widths a.0) r (first a.0) c)) (widths a.0) (λ k i.
      let here : P (r + k) = o (r + k) (omega arith) (omega arith) in
      by_test P (nat_lt (k + c) (widths a.0)) (copy_gate (bit r k) (bit (first a.0) (k + c))) (unit (negation (bit r k)))
      (λ t. let low : k + c < widths a.0 = ltb-true (k + c) (widths a.0) t in
      of_two P (bit r k) (bit (first a.0) (k + c)) here (s.0 (first a.0 + (k + c)) (omega arith) (omega arith)))
      (λ t. ((here, tt), tt)))
  node_places (Sar a c) h p o s =
      each P (column (rows.Sar (widths a.0) r (first a.0) c)) (widths a.0) (λ k i.
      let low : min (k + c) (widths a.0 - 1) < widths a.0 = least_below (k + c) (widths a.0) p.0 in
      of_two P (bit r k) (bit (first a.0) (min (k + c) (widths a.0 - 1))) (o (r + k) (omega arith) (omega arith))
      (s.0 (first a.0 + min (k + c) (widths a.0 - 1)) (omega arith) (omega arith)))
  node_places (Cat high low) h p o s =
      each P (column (rows.Cat (widths low.0) r (first high.0) (first low.0))) (widths high.0 + widths low.0) (λ k i.
      of_two P (bit r k) (if nat_lt k (widths low.0) then bit (first low.0) k else bit (first high.0) (k - widths low.0))
      (o (r + k) (omega arith) (omega arith))
      (literal_by P (nat_lt k (widths low.0)) (bit (first low.0) k) (bit (first high.0) (k - widths low.0))
      (λ t. let below : k < widths low.0 = ltb-true k (widths low.0) t in s.1.0 (first low.0 + k) (omega arith) (omega arith))
      (λ t. let above : widths low.0 ≤ k = ltb-false k (widths low.0) t in s.0 (first high.0 + (k - widths low.0)) (omega arith) (omega arith))))
  node_places (Cut a c m) h p o s =
      each P (column (rows.Cut r (first a.0) c)) m (λ k i.
      of_two P (bit r k) (bit (first a.0) (k + c)) (o (r + k) (omega arith) (omega arith))
      (s.0 (first a.0 + (k + c)) (omega arith) (omega (arith, h.2))))
  node_places (Sx m a) h p o s =
      each P (column (rows.Sx (widths a.0) r (first a.0))) m (λ k i.
      let low : min k (widths a.0 - 1) < widths a.0 = least_below k (widths a.0) p.0 in
      of_two P (bit r k) (bit (first a.0) (min k (widths a.0 - 1))) (o (r + k) (omega arith) (omega arith))
      (s.0 (first a.0 + min k (widths a.0 - 1)) (omega arith) (omega arith)))
  node_places (Eq a b) h p o s =
      equal_places P (widths a.0) r (first a.0) (first b.0) (r + 1)
      (λ x l m. o x l (omega arith)) s.0 (λ x l m. s.1.0 x l (omega (arith, h.2))) (λ x l m. o x (omega arith) (omega arith))
  node_places (Ult a b) h p o s =
      order_places P (widths a.0) (last_place (widths a.0) (bit r 0) (bit (r + 1))) (bit (first a.0)) (bit (first b.0))
      (λ k i. last_of P (widths a.0) r (r + 1) k (λ x l m. o x l (omega arith)) (λ x l m. o x (omega arith) (omega arith)) i)
      (λ k i. s.0 (first a.0 + k) (omega arith) (omega arith)) (λ k i. s.1.0 (first b.0 + k) (omega arith) (omega (arith, h.2)))
  node_places (Slt a b) h p o s =
      let second : From P (first b.0) (widths a.0) = λ x l m. s.1.0 x l (omega (arith, h.2)) in
      order_places P (widths a.0) (last_place (widths a.0) (bit r 0) (bit (r + 1)))
      (top_exchanged (widths a.0) (bit (first a.0)) (bit (first b.0))) (top_exchanged (widths a.0) (bit (first b.0)) (bit (first a.0)))
      (λ k i. last_of P (widths a.0) r (r + 1) k (λ x l m. o x l (omega arith)) (λ x l m. o x (omega arith) (omega arith)) i)
      (λ k i. top_of P (widths a.0) (first a.0) (first b.0) k s.0 second i)
      (λ k i. top_of P (widths a.0) (first b.0) (first a.0) k second s.0 i)
  node_places (If c a b) h p o s =
      each P (column (rows.If r (first c.0) (first a.0) (first b.0))) (widths a.0) (λ k i.
      of_choice P (bit r k) (bit (first c.0) 0) (bit (first a.0) k) (bit (first b.0) k) (o (r + k) (omega arith) (omega arith))
      (s.0 (first c.0 + 0) (omega arith) (omega (arith, p.0)))
      (s.1.0 (first a.0 + k) (omega arith) (omega arith)) (s.1.1.0 (first b.0 + k) (omega arith) (omega (arith, h.2.2))))

-- assignments that agree on what clauses speak of meet them alike
module _ (v u : ℕ → Bool) where
  literals_alike : (ls : List Lit) → OfLiterals (λ x. v x ≡ u x) ls → clause_value v ls ≡ clause_value u ls
  literals_alike [] p = refl
  literals_alike (l ∷ ls) p =
      ap₂ (λ x y. x || y) (ap (λ (z : Bool). if l.neg then not z else z) p.0) (literals_alike ls p.1)

  pub met_alike : (cs : List (List Lit)) → Speak (λ x. v x ≡ u x) cs → MeetsAll v cs → MeetsAll u cs
  met_alike [] p m = tt
  met_alike (c ∷ cs) p m = (sym (literals_alike c p.0) ∙ m.0, met_alike cs p.1 m.1)

pub rows_stay : RowsStayInPlace
rows_stay v u first widths n r node h p o s m =
    met_alike v u (node_clauses first widths r node) (node_places (λ x. v x ≡ u x) first widths n r node h p o s) m
