-- The rows of equalities.
use Rattle.std.proofs.Common.{◌≡◌, ◌↔◌, ℕ, zero, suc, ◌+◌, ◌<◌, ◌==◌, ◌&&◌, ◌||◌, Bool, true, false, [], ◌∷◌, ◌++◌, refl, sym, ◌∙◌, ap, arith, inl, inr, add-one}
use Rattle.std.specs.Prelude.{not, map}
use Rattle.std.specs.List.{list_any, range_with_len}
use Rattle.std.proofs.lemmas.Bool.{cases_lt}
use Rattle.std.proofs.lemmas.List.FromFn.{map-range_with_len_more}
use Rattle.std.proofs.lemmas.List.Folds.{list_any-append}
use Rattle.insn_semantics.specs.Words as words
use Rattle.clauses.specs.declared.clause.Lit.{Lit}
use Rattle.clauses.specs.Assignments.{MeetsAll, clause_value, literal_value}
use Rattle.clause_gates.specs.Gates.{is_odd, negation}
use Rattle.clause_gates.proofs.GateLaws.{is_same, negated_value, xor_says}
use Rattle.clause_words.specs.Numbers.{SayWithHelpers, StandsBefore, with_helpers, word_value}
use Rattle.clause_words.specs.Rows.{all_alike, bit, column, equal_row, row_clauses}
use Rattle.clause_words.specs.declared.row.Row.TheVariants.{Alike, Each}
use Rattle.clause_words.proofs.Helpers.{before, behind, say_same}
use Rattle.clause_words.proofs.Meeting.{append_met, columns_met, met_append, met_columns}
use Rattle.clause_words.proofs.Numbers.{all_below, same_number}
use Rattle.clause_words.proofs.Orders.{bit_is}

all_at : (f : ℕ → Bool) (w : ℕ) → all_below f w ≡ true → (k : ℕ) → k < w → f k ≡ true
all_at f zero h k b = absurd (omega arith)
all_at f (suc w) h k b = elim (cases_lt k w) [
  | inl lower ↦ all_at f w (left (all_below f w) (f w) h) k lower
  | inr upper ↦ let last : w ≡ k = omega arith in ap f (sym last) ∙ right (all_below f w) (f w) h
]
  where
    left : (a b : Bool) → (a && b) ≡ true → a ≡ true
    left true b h = refl
    left false b h = h

    right : (a b : Bool) → (a && b) ≡ true → b ≡ true
    right true b h = h
    right false b h = absurd (cc)

all_same : (f g : ℕ → Bool) (w : ℕ) → ((k : ℕ) → k < w → f k ≡ g k) → all_below f w ≡ all_below g w
all_same f g zero h = refl
all_same f g (suc w) h =
    let low : all_below f w ≡ all_below g w = all_same f g w (λ k b. h k (omega arith)) in
    let top : f w ≡ g w = h w (omega arith) in
    rw (low, top) refl

all_from : (f : ℕ → Bool) (w : ℕ) → ((k : ℕ) → k < w → f k ≡ true) → all_below f w ≡ true
all_from f zero h = refl
all_from f (suc w) h =
    let low : all_below f w ≡ true = all_from f w (λ k b. h k (omega arith)) in
    let top : f w ≡ true = h w (omega arith) in
    rw (low, top) refl

-- some negation is true where not all are
some_false : (v : ℕ → Bool) (l : ℕ → Lit) (w : ℕ)
    → list_any (literal_value v) (map (λ k. negation (l k)) (range_with_len 0 w)) ≡ not (all_below (λ k. literal_value v (l k)) w)
some_false v l zero = refl
some_false v l (suc w) =
    let more : map (λ k. negation (l k)) (range_with_len 0 (suc w)) ≡ map (λ k. negation (l k)) (range_with_len 0 w) ++ negation (l w) ∷ [] =
    ap (λ (n : ℕ). map (λ k. negation (l k)) (range_with_len 0 n)) (sym (add-one w)) ∙ map-range_with_len_more (λ k. negation (l k)) 0 w w (omega arith) in
    ap (list_any (literal_value v)) more
    ∙ list_any-append (literal_value v) (map (λ k. negation (l k)) (range_with_len 0 w)) (negation (l w) ∷ [])
    ∙ rw (some_false v l w, negated_value v (l w)) (turned (all_below (λ k. literal_value v (l k)) w) (literal_value v (l w)))
  where
    turned : (a b : Bool) → (not a || (not b || false)) ≡ not (a && b)
    turned true true = refl
    turned true false = refl
    turned false true = refl
    turned false false = refl

-- alike is not one of two
same_of : (x a b : Bool) → (not x ≡ is_odd (a ∷ b ∷ [])) ↔ (x ≡ is_same a b)
same_of true true true = (λ h. refl, λ h. refl)
same_of true true false = (λ h. sym h, λ h. sym h)
same_of true false true = (λ h. sym h, λ h. sym h)
same_of true false false = (λ h. refl, λ h. refl)
same_of false true true = (λ h. sym h, λ h. sym h)
same_of false true false = (λ h. refl, λ h. refl)
same_of false false true = (λ h. refl, λ h. refl)
same_of false false false = (λ h. sym h, λ h. sym h)

-- the last clause and those before it
result_of : (r c : Bool) → (r ≡ true → c ≡ true) → (r || not c) ≡ true → r ≡ c
result_of true c f g = sym (f refl)
result_of false true f g = g
result_of false false f g = refl

each_of : (r c : Bool) → r ≡ c → (r ≡ true → c ≡ true) × ((r || not c) ≡ true)
each_of true c e = (λ h. sym e, refl)
each_of false true e = (λ h. absurd (cc), e)
each_of false false e = (λ h. h, refl)

implied : (r x : Bool) → (not r || (x || false)) ≡ true → r ≡ true → x ≡ true
implied true true h e = refl
implied true false h e = h
implied false x h e = absurd (cc)

implies : (r x : Bool) → (r ≡ true → x ≡ true) → (not r || (x || false)) ≡ true
implies true x f = rw (f refl) refl
implies false x f = refl

module _ (v : ℕ → Bool) (w r a b h : ℕ) (before_r : StandsBefore h 1 r) (before_a : StandsBefore h w a) (before_b : StandsBefore h w b) where
  abbrev u : (ℕ → Bool) → ℕ → Bool
  u f = with_helpers v h f

  -- whether the arguments are alike at a bit
  abbrev same : ℕ → Bool
  same k = is_same (v (a + k)) (v (b + k))

  result : (f : ℕ → Bool) → literal_value (u f) (bit r 0) ≡ v (r + 0)
  result f = before v h f 1 r 0 before_r (omega arith)

  arguments_are : (f : ℕ → Bool) (k : ℕ) → k < w
      → is_odd (map (literal_value (u f)) (bit a k ∷ bit b k ∷ [])) ≡ is_odd (v (a + k) ∷ v (b + k) ∷ [])
  arguments_are f k i = rw (before v h f w a k before_a i, before v h f w b k before_b i) refl

  -- the helpers are what they stand for
  alike_from : (f : ℕ → Bool) → MeetsAll (u f) (row_clauses w (Alike h a b)) → (k : ℕ) → k < w → f k ≡ same k
  alike_from f m k i =
      let gate : literal_value (u f) (negation (bit h k)) ≡ is_odd (map (literal_value (u f)) (bit a k ∷ bit b k ∷ [])) =
      (xor_says (u f) (negation (bit h k)) (bit a k ∷ bit b k ∷ [])).0 (met_columns (u f) (column (Alike h a b)) w m k i) in
      (same_of (f k) (v (a + k)) (v (b + k))).0
      (ap not (sym (behind v h f k)) ∙ sym (negated_value (u f) (bit h k)) ∙ gate ∙ arguments_are f k i)

  alike_to : (f : ℕ → Bool) → ((k : ℕ) → k < w → f k ≡ same k) → MeetsAll (u f) (row_clauses w (Alike h a b))
  alike_to f s = columns_met (u f) (column (Alike h a b)) w (λ k i.
      (xor_says (u f) (negation (bit h k)) (bit a k ∷ bit b k ∷ [])).1
      (negated_value (u f) (bit h k) ∙ ap not (behind v h f k)
      ∙ (same_of (f k) (v (a + k)) (v (b + k))).1 (s k i) ∙ sym (arguments_are f k i)))

  each_value : (f : ℕ → Bool) (k : ℕ) → clause_value (u f) (negation (bit r 0) ∷ bit h k ∷ []) ≡ (not (v (r + 0)) || (f k || false))
  each_value f k = rw (negated_value (u f) (bit r 0), result f, behind v h f k) refl

  last_value : (f : ℕ → Bool) → clause_value (u f) (all_alike w r h) ≡ (v (r + 0) || not (all_below f w))
  last_value f =
      ap (λ (z : Bool). literal_value (u f) (bit r 0) || z) (some_false (u f) (bit h) w)
      ∙ ap (λ (z : Bool). z || not (all_below (λ k. literal_value (u f) (bit h k)) w)) (result f)
      ∙ ap (λ (z : Bool). v (r + 0) || not z) (all_same (λ k. literal_value (u f) (bit h k)) f w (λ k i. behind v h f k))

  parts : (f : ℕ → Bool) → MeetsAll (u f) (equal_row w r a b h)
      → MeetsAll (u f) (row_clauses w (Alike h a b)) × MeetsAll (u f) (row_clauses w (Each r h) ++ all_alike w r h ∷ [])
  parts f m = append_met (u f) (row_clauses w (Alike h a b)) (row_clauses w (Each r h) ++ all_alike w r h ∷ []) m

  result_is : (f : ℕ → Bool) → MeetsAll (u f) (equal_row w r a b h) → v (r + 0) ≡ all_below f w
  result_is f m =
      let rest : MeetsAll (u f) (row_clauses w (Each r h)) × MeetsAll (u f) (all_alike w r h ∷ []) =
      append_met (u f) (row_clauses w (Each r h)) (all_alike w r h ∷ []) (parts f m).1 in
      result_of (v (r + 0)) (all_below f w)
      (λ e. all_from f w (λ k i. implied (v (r + 0)) (f k) (sym (each_value f k) ∙ (met_columns (u f) (column (Each r h)) w rest.0 k i).0) e))
      (sym (last_value f) ∙ rest.1.0)

  row_to : (f : ℕ → Bool) → ((k : ℕ) → k < w → f k ≡ same k) → v (r + 0) ≡ all_below f w → MeetsAll (u f) (equal_row w r a b h)
  row_to f s e =
      let both : (v (r + 0) ≡ true → all_below f w ≡ true) × ((v (r + 0) || not (all_below f w)) ≡ true) = each_of (v (r + 0)) (all_below f w) e in
      met_append (u f) (row_clauses w (Alike h a b)) (row_clauses w (Each r h) ++ all_alike w r h ∷ []) (alike_to f s)
      (met_append (u f) (row_clauses w (Each r h)) (all_alike w r h ∷ [])
      (columns_met (u f) (column (Each r h)) w
      (λ k i. (each_value f k ∙ implies (v (r + 0)) (f k) (λ t. all_at f w (both.0 t) k i), tt)))
      (last_value f ∙ both.1, tt))

  equal_says : SayWithHelpers v h w (equal_row w r a b h) (v (r + 0) ≡ (word_value v w a == word_value v w b))
  equal_says = record {
    some = λ e. (same, row_to same (λ k i. refl) (e ∙ sym (same_number (λ k. v (a + k)) (λ k. v (b + k)) w)));
    only = λ f m.
        result_is f m ∙ all_same f same w (alike_from f (parts f m).0) ∙ same_number (λ k. v (a + k)) (λ k. v (b + k)) w;
    one = λ f g m n k i. alike_from f (parts f m).0 k i ∙ sym (alike_from g (parts g n).0 k i);
  }

  pub equal_law : SayWithHelpers v h w (equal_row w r a b h) (word_value v 1 r ≡ words.equal (word_value v w a) (word_value v w b))
  equal_law =
      say_same v h w (equal_row w r a b h) (bit_is v r (word_value v w a == word_value v w b)) equal_says
