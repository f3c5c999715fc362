-- The rows that have no helpers, over words that stand before the result.
use Rattle.std.proofs.Common.{◌≡◌, ◌↔◌, ℕ, ◌+◌, ◌-◌, ◌/◌, ◌%◌, ◌^◌, ◌<◌, ◌≤◌, ◌==◌, ◌&&◌, ◌||◌, Bool, true, false, List, [], ◌∷◌, bit_and, bit_or, bit_xor, min, nat_lt, not, refl, sym, ◌∙◌, ap, ap₂, inl, inr, arith, rules, if◌then◌else◌, mod-eq_of_lt}
use Rattle.std.proofs.lemmas.Bool.{cases_lt, ltb-false, ltb-true}
use Rattle.std.proofs.Math.Nat.{min-eq_left, min-eq_right}
use Rattle.insn_semantics.specs.Words as words
use Rattle.clauses.specs.declared.clause.Lit.{Lit}
use Rattle.clauses.specs.Assignments.{MeetsAll, literal_value}
use Rattle.clause_gates.specs.Gates.{copy_gate, is_odd, negation, not_gate, or_gate, positive}
use Rattle.clause_gates.proofs.GateLaws.{choice_says, xor_says}
use Rattle.clause_words.specs.Numbers.{SayWithHelpers, StandsBefore, number_of, with_helpers, word_value}
use Rattle.clause_words.specs.Rows.{bit, column, columns, row_clauses, unit}
use Rattle.clause_words.specs.declared.row.Row.TheVariants as rows
use Rattle.clause_words.proofs.Helpers.{before}
use Rattle.clause_words.proofs.Meeting.{and_says, columns_met, copy_says, met_columns}
use Rattle.clause_words.proofs.Numbers.{bits_same, number_same}
use Rattle.row_values.proofs.WordNumbers.{and_number, bits_number, chosen_number, cut_number, extended_number, joined_number, left_number, not_number, or_number, right_number, signed_number, xor_number}

-- clauses that say what a bit is, with the bit named otherwise
said : {M : Type 0} {z c d : Bool} → (M ↔ (z ≡ c)) → c ≡ d → M ↔ (z ≡ d)
said s e = (λ m. s.0 m ∙ e, λ q. s.1 (q ∙ sym e))

true_unit : (b : Bool) → (((b || false) ≡ true) × Unit {0}) ↔ (b ≡ true)
true_unit true = (λ m. refl, λ e. (refl, tt))
true_unit false = (λ m. m.0, λ e. (e, tt))

false_unit : (b : Bool) → (((not b || false) ≡ true) × Unit {0}) ↔ (b ≡ false)
false_unit true = (λ m. sym m.0, λ e. (sym e, tt))
false_unit false = (λ m. refl, λ e. (refl, tt))

-- a choice of bits, in each case alike
chosen_alike : (c : Bool) (s t x y : Bool) → (c ≡ true → s ≡ x) → (c ≡ false → t ≡ y)
    → (if c then s else t) ≡ (if c then x else y)
chosen_alike true s t x y f g = f refl
chosen_alike false s t x y f g = g refl

module _ (v : ℕ → Bool) where
  or_says : (r a b : Lit) → MeetsAll v (or_gate r a b) ↔ (literal_value v r ≡ (literal_value v a || literal_value v b))
  or_says r a b = search (rules)

  not_says : (r a : Lit) → MeetsAll v (not_gate r a) ↔ (literal_value v r ≡ not (literal_value v a))
  not_says r a = search (rules)

  pub unit_says : (x : ℕ) (c : Bool) → MeetsAll v (unit (if c then positive x else negation (positive x))) ↔ (v x ≡ c)
  unit_says x true = true_unit (v x)
  unit_says x false = false_unit (v x)

  -- clauses by a test
  either_says : (c : Bool) (cs ds : List (List Lit)) (z s t : Bool) → (c ≡ true → MeetsAll v cs ↔ (z ≡ s))
      → (c ≡ false → MeetsAll v ds ↔ (z ≡ t)) → MeetsAll v (if c then cs else ds) ↔ (z ≡ (if c then s else t))
  either_says true cs ds z s t f g = f refl
  either_says false cs ds z s t f g = g refl

  chosen_value : (c : Bool) (l m : Lit) → literal_value v (if c then l else m) ≡ (if c then literal_value v l else literal_value v m)
  chosen_value true l m = refl
  chosen_value false l m = refl

pub least_below : (k n : ℕ) → 0 < n → min k (n - 1) < n
least_below k n h = elim (cases_lt k n) [
  | inl low ↦ let e : min k (n - 1) ≡ k = min-eq_left (omega arith) in omega arith
  | inr high ↦ let e : min k (n - 1) ≡ n - 1 = min-eq_right (omega arith) in omega arith
]

module _ (v : ℕ → Bool) (r w : ℕ) where
  abbrev u : (ℕ → Bool) → ℕ → Bool
  u f = with_helpers v (r + w) f

  -- the bits of a word before the result are those that they were
  held : (f : ℕ → Bool) (m word k : ℕ) → StandsBefore r m word → k < m → u f (word + k) ≡ v (word + k)
  held f m word k s b = before v (r + w) f m word k (omega arith) b

  -- columns that say each what a bit is say the number
  plain : (clauses : ℕ → List (List Lit)) (bits : ℕ → Bool) (value : ℕ)
      → ((f : ℕ → Bool) (k : ℕ) → k < w → MeetsAll (u f) (clauses k) ↔ (u f (r + k) ≡ bits k)) → number_of bits w ≡ value
      → SayWithHelpers v (r + w) 0 (columns clauses w) (word_value v w r ≡ value)
  plain clauses bits value says number = record {
    some = λ e. (
      λ k. false,
      columns_met (u (λ k. false)) clauses w (λ k i.
          (says (λ k. false) k i).1
          (own (λ k. false) k i ∙ bits_same (λ j. v (r + j)) bits w (e ∙ sym number) k i)),
    );
    only = λ f m.
        number_same (λ j. v (r + j)) bits w
        (λ k i. sym (own f k i) ∙ (says f k i).0 (met_columns (u f) clauses w m k i)) ∙ number;
    one = λ f g m n k i. absurd (omega arith);
  }
    where
      own : (f : ℕ → Bool) (k : ℕ) → k < w → u f (r + k) ≡ v (r + k)
      own f k i = before v (r + w) f w r k (omega arith) i

  pub const_row : (n : ℕ) → n < 2 ^ w → SayWithHelpers v (r + w) 0 (row_clauses w (rows.Const r n)) (word_value v w r ≡ n)
  const_row n h =
      plain (column (rows.Const r n)) (λ k. n / 2 ^ k % 2 == 1) n
      (λ f k i. unit_says (u f) (r + k) (n / 2 ^ k % 2 == 1)) (bits_number n w ∙ mod-eq_of_lt h)

  -- rows of two words of w bits
  module _ (a b : ℕ) (before_a : StandsBefore r w a) (before_b : StandsBefore r w b) where
    pub and_row : SayWithHelpers v (r + w) 0 (row_clauses w (rows.And r a b)) (word_value v w r ≡ bit_and (word_value v w a) (word_value v w b))
    and_row =
        plain (column (rows.And r a b)) (λ k. v (a + k) && v (b + k)) (bit_and (word_value v w a) (word_value v w b))
        (λ f k i. said (and_says (u f) (bit r k) (bit a k) (bit b k)) (ap₂ (λ x y. x && y) (held f w a k before_a i) (held f w b k before_b i)))
        (and_number (λ k. v (a + k)) (λ k. v (b + k)) w)

    pub or_row : SayWithHelpers v (r + w) 0 (row_clauses w (rows.Or r a b)) (word_value v w r ≡ bit_or (word_value v w a) (word_value v w b))
    or_row =
        plain (column (rows.Or r a b)) (λ k. v (a + k) || v (b + k)) (bit_or (word_value v w a) (word_value v w b))
        (λ f k i. said (or_says (u f) (bit r k) (bit a k) (bit b k)) (ap₂ (λ x y. x || y) (held f w a k before_a i) (held f w b k before_b i)))
        (or_number (λ k. v (a + k)) (λ k. v (b + k)) w)

    pub xor_row : SayWithHelpers v (r + w) 0 (row_clauses w (rows.Xor r a b)) (word_value v w r ≡ bit_xor (word_value v w a) (word_value v w b))
    xor_row =
        plain (column (rows.Xor r a b)) (λ k. is_odd (v (a + k) ∷ v (b + k) ∷ [])) (bit_xor (word_value v w a) (word_value v w b))
        (λ f k i.
        said (xor_says (u f) (bit r k) (bit a k ∷ bit b k ∷ []))
        (ap₂ (λ x y. is_odd (x ∷ y ∷ [])) (held f w a k before_a i) (held f w b k before_b i)))
        (xor_number (λ k. v (a + k)) (λ k. v (b + k)) w)

    pub if_row : (c : ℕ) → StandsBefore r 1 c → SayWithHelpers v (r + w) 0 (row_clauses w (rows.If r c a b))
        (word_value v w r ≡ words.choice (words.bit (v (c + 0))) (word_value v w a) (word_value v w b))
    if_row c before_c =
        plain (column (rows.If r c a b)) (λ k. if v (c + 0) then v (a + k) else v (b + k))
        (words.choice (words.bit (v (c + 0))) (word_value v w a) (word_value v w b))
        (λ f k i.
        said (choice_says (u f) (bit r k) (bit c 0) (bit a k) (bit b k))
        (ap (λ (z : Bool). if z then u f (a + k) else u f (b + k)) (held f 1 c 0 before_c (omega arith))
        ∙ chosen_alike (v (c + 0)) (u f (a + k)) (u f (b + k)) (v (a + k)) (v (b + k))
        (λ t. held f w a k before_a i) (λ t. held f w b k before_b i)))
        (chosen_number (v (c + 0)) (λ k. v (a + k)) (λ k. v (b + k)) w)

  -- rows of one word of w bits
  module _ (a : ℕ) (before_a : StandsBefore r w a) where
    pub not_row : SayWithHelpers v (r + w) 0 (row_clauses w (rows.Not r a)) (word_value v w r ≡ words.complement w (word_value v w a))
    not_row =
        plain (column (rows.Not r a)) (λ k. not (v (a + k))) (words.complement w (word_value v w a))
        (λ f k i. said (not_says (u f) (bit r k) (bit a k)) (ap not (held f w a k before_a i)))
        (not_number (λ k. v (a + k)) w)

    pub left_row : (by : ℕ) → by < w → SayWithHelpers v (r + w) 0 (row_clauses w (rows.Shl r a by))
        (word_value v w r ≡ words.left_shift w (word_value v w a) by)
    left_row by h =
        plain (column (rows.Shl r a by)) (λ k. if nat_lt k by then false else v (a + (k - by)))
        (words.left_shift w (word_value v w a) by)
        (λ f k i.
        either_says (u f) (nat_lt k by) (unit (negation (bit r k))) (copy_gate (bit r k) (bit a (k - by))) (u f (r + k))
        false (v (a + (k - by)))
        (λ t. unit_says (u f) (r + k) false)
        (λ t. said (copy_says (u f) (bit r k) (bit a (k - by))) (held f w a (k - by) before_a (omega arith))))
        (left_number (λ k. v (a + k)) w by (omega arith))

    pub right_row : (by : ℕ) → by < w → SayWithHelpers v (r + w) 0 (row_clauses w (rows.Shr w r a by))
        (word_value v w r ≡ words.right_shift (word_value v w a) by)
    right_row by h =
        plain (column (rows.Shr w r a by)) (λ k. if nat_lt (k + by) w then v (a + (k + by)) else false)
        (words.right_shift (word_value v w a) by)
        (λ f k i.
        either_says (u f) (nat_lt (k + by) w) (copy_gate (bit r k) (bit a (k + by))) (unit (negation (bit r k))) (u f (r + k))
        (v (a + (k + by))) false
        (λ t. said (copy_says (u f) (bit r k) (bit a (k + by))) (held f w a (k + by) before_a (ltb-true (k + by) w t)))
        (λ t. unit_says (u f) (r + k) false))
        (right_number (λ k. v (a + k)) w by (omega arith))

    pub signed_row : (by : ℕ) → 0 < by → by < w → SayWithHelpers v (r + w) 0 (row_clauses w (rows.Sar w r a by))
        (word_value v w r ≡ words.signed_shift w (word_value v w a) by)
    signed_row by some h =
        plain (column (rows.Sar w r a by)) (λ k. v (a + min (k + by) (w - 1))) (words.signed_shift w (word_value v w a) by)
        (λ f k i.
        said (copy_says (u f) (bit r k) (bit a (min (k + by) (w - 1))))
        (held f w a (min (k + by) (w - 1)) before_a (least_below (k + by) w (omega arith))))
        (signed_number (λ k. v (a + k)) w by some h)

  -- rows of words of other widths
  pub cut_row : (a m k : ℕ) → StandsBefore r m a → k + w ≤ m → SayWithHelpers v (r + w) 0 (row_clauses w (rows.Cut r a k))
      (word_value v w r ≡ words.cut (word_value v m a) k w)
  cut_row a m k before_a h =
      plain (column (rows.Cut r a k)) (λ j. v (a + (j + k))) (words.cut (word_value v m a) k w)
      (λ f j i. said (copy_says (u f) (bit r j) (bit a (j + k))) (held f m a (j + k) before_a (omega arith)))
      (cut_number (λ j. v (a + j)) m k w h)

  pub extended_row : (a m : ℕ) → StandsBefore r m a → 0 < m → m ≤ w → SayWithHelpers v (r + w) 0 (row_clauses w (rows.Sx m r a))
      (word_value v w r ≡ words.sign_extension m w (word_value v m a))
  extended_row a m before_a some h =
      plain (column (rows.Sx m r a)) (λ k. v (a + min k (m - 1))) (words.sign_extension m w (word_value v m a))
      (λ f k i.
      said (copy_says (u f) (bit r k) (bit a (min k (m - 1))))
      (held f m a (min k (m - 1)) before_a (least_below k m some)))
      (extended_number (λ k. v (a + k)) m w some h)

-- a word in front of another
pub joined_row : (v : ℕ → Bool) (r n m high low : ℕ) → StandsBefore r n high → StandsBefore r m low
    → SayWithHelpers v (r + (n + m)) 0 (row_clauses (n + m) (rows.Cat m r high low))
    (word_value v (n + m) r ≡ words.concatenation m (word_value v n high) (word_value v m low))
joined_row v r n m high low before_high before_low =
    plain v r (n + m) (column (rows.Cat m r high low)) (λ k. if nat_lt k m then v (low + k) else v (high + (k - m)))
    (words.concatenation m (word_value v n high) (word_value v m low))
    (λ f k i.
    said (copy_says (u v r (n + m) f) (bit r k) (if nat_lt k m then bit low k else bit high (k - m)))
    (chosen_value (u v r (n + m) f) (nat_lt k m) (bit low k) (bit high (k - m))
    ∙ chosen_alike (nat_lt k m) (u v r (n + m) f (low + k)) (u v r (n + m) f (high + (k - m))) (v (low + k)) (v (high + (k - m)))
    (λ t. held v r (n + m) f m low k before_low (ltb-true k m t))
    (λ t. let upper : m ≤ k = ltb-false k m t in held v r (n + m) f n high (k - m) before_high (omega arith))))
    (joined_number (λ k. v (high + k)) (λ k. v (low + k)) n m)
