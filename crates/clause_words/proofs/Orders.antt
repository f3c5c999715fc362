-- The rows of orders.
use Rattle.std.proofs.Common.{◌≡◌, ◌≢◌, ◌↔◌, ℕ, zero, suc, ◌+◌, ◌-◌, ◌*◌, ◌^◌, ◌<◌, ◌==◌, ◌&&◌, Bool, refl, sym, ◌∙◌, ap, arith, inl, inr, if◌then◌else◌}
use Rattle.std.specs.Prelude.{not, nat_lt}
use Rattle.std.proofs.lemmas.Bool.{cases_Bool, eq-eqb, eqb-false, eqb-true, ne_eqb}
use Rattle.insn_semantics.specs.Words as words
use Rattle.clauses.specs.declared.clause.Lit.{Lit}
use Rattle.clauses.specs.Assignments.{MeetsAll, literal_value}
use Rattle.clause_gates.specs.Gates.{majority, negation}
use Rattle.clause_gates.proofs.GateLaws.{majority_says, negated_value}
use Rattle.clause_words.specs.Numbers.{SayWithHelpers, StandsBefore, number_of, with_helpers, word_value}
use Rattle.clause_words.specs.Rows.{bit, columns, last_place, less_column, row_clauses, top_exchanged}
use Rattle.clause_words.specs.declared.row.Row.TheVariants.{Less, SignedLess}
use Rattle.clause_words.proofs.Helpers.{before, behind, say_same}
use Rattle.clause_words.proofs.Meeting.{and_says, columns_met, met_columns}
use Rattle.clause_words.proofs.Numbers.{below_bits, below_number, bit_same, number_below, number_same, one_bit, signed_split}

-- a row of w columns over literals whose values below w are these bits
module _ (v : ℕ → Bool) (w : ℕ) (lower a b : ℕ → Lit) (x y : ℕ → Bool)
    (first : (k : ℕ) → k < w → literal_value v (a k) ≡ x k) (second : (k : ℕ) → k < w → literal_value v (b k) ≡ y k) where
  turned : (k : ℕ) → k < w → literal_value v (negation (a k)) ≡ not (x k)
  turned k h = negated_value v (a k) ∙ ap not (first k h)

  pub less_from : MeetsAll v (columns (less_column lower a b) w) → (k : ℕ) → k < w → literal_value v (lower k) ≡ below_bits x y k
  less_from m zero h =
      (and_says v (lower 0) (negation (a 0)) (b 0)).0 (met_columns v (less_column lower a b) w m 0 h)
      ∙ ap (λ (z : Bool). z && literal_value v (b 0)) (turned 0 h) ∙ ap (λ (z : Bool). not (x 0) && z) (second 0 h)
  less_from m (suc k) h =
      (majority_says v (lower (suc k)) (negation (a (suc k))) (b (suc k)) (lower k)).0 (met_columns v (less_column lower a b) w m (suc k) h)
      ∙ ap (λ (z : Bool). majority z (literal_value v (b (suc k))) (literal_value v (lower k))) (turned (suc k) h)
      ∙ ap (λ (z : Bool). majority (not (x (suc k))) z (literal_value v (lower k))) (second (suc k) h)
      ∙ ap (λ (z : Bool). majority (not (x (suc k))) (y (suc k)) z) (less_from m k (omega arith))

  pub less_to : ((k : ℕ) → k < w → literal_value v (lower k) ≡ below_bits x y k) → MeetsAll v (columns (less_column lower a b) w)
  less_to s = columns_met v (less_column lower a b) w each
    where
      each : (k : ℕ) → k < w → MeetsAll v (less_column lower a b k)
      each zero h =
          (and_says v (lower 0) (negation (a 0)) (b 0)).1
          (s 0 h ∙ sym (ap (λ (z : Bool). z && literal_value v (b 0)) (turned 0 h) ∙ ap (λ (z : Bool). not (x 0) && z) (second 0 h)))
      each (suc k) h =
          (majority_says v (lower (suc k)) (negation (a (suc k))) (b (suc k)) (lower k)).1
          (s (suc k) h ∙ sym (ap (λ (z : Bool). majority z (literal_value v (b (suc k))) (literal_value v (lower k))) (turned (suc k) h)
          ∙ ap (λ (z : Bool). majority (not (x (suc k))) z (literal_value v (lower k))) (second (suc k) h)
          ∙ ap (λ (z : Bool). majority (not (x (suc k))) (y (suc k)) z) (s k (omega arith))))

-- the same with helpers behind a variable, and the result before it
module _ (v : ℕ → Bool) (w r h : ℕ) (before_r : StandsBefore h 1 r) (a b : ℕ → Lit) (x y : ℕ → Bool)
    (first : (f : ℕ → Bool) (k : ℕ) → k < w → literal_value (with_helpers v h f) (a k) ≡ x k)
    (second : (f : ℕ → Bool) (k : ℕ) → k < w → literal_value (with_helpers v h f) (b k) ≡ y k) where
  abbrev place : ℕ → Lit
  place = last_place w (bit r 0) (bit h)

  abbrev u : (ℕ → Bool) → ℕ → Bool
  u f = with_helpers v h f

  top_is : (f : ℕ → Bool) (k : ℕ) → k + 1 ≡ w → literal_value (u f) (place k) ≡ v (r + 0)
  top_is f k e = rw (eq-eqb (k + 1) w e) (before v h f 1 r 0 before_r (omega arith))

  helper_is : (f : ℕ → Bool) (k : ℕ) → k + 1 ≢ w → literal_value (u f) (place k) ≡ f k
  helper_is f k e = rw (ne_eqb (k + 1) w e) (behind v h f k)

  found : (f : ℕ → Bool) → MeetsAll (u f) (columns (less_column place a b) w) → (k : ℕ) → k < w
      → literal_value (u f) (place k) ≡ below_bits x y k
  found f m = less_from (u f) w place a b x y (first f) (second f) m

  -- the row says that the result is the order
  pub less_says : (m : ℕ) → w ≡ suc m
      → SayWithHelpers v h (w - 1) (columns (less_column place a b) w) (v (r + 0) ≡ nat_lt (number_of x w) (number_of y w))
  less_says m size = record {
    some = λ e. (below_bits x y, less_to (u (below_bits x y)) w place a b x y (first (below_bits x y)) (second (below_bits x y)) (each e));
    only = λ f met.
        sym (top_is f m (omega arith)) ∙ found f met m (omega arith) ∙ below_number x y m
        ∙ ap (λ (n : ℕ). nat_lt (number_of x n) (number_of y n)) (sym size);
    one = λ f g met other k i.
        sym (helper_is f k (λ e. omega arith)) ∙ found f met k (omega arith)
        ∙ sym (sym (helper_is g k (λ e. omega arith)) ∙ found g other k (omega arith));
  }
    where
      each : v (r + 0) ≡ nat_lt (number_of x w) (number_of y w) → (k : ℕ) → k < w
          → literal_value (u (below_bits x y)) (place k) ≡ below_bits x y k
      each e k i = elim (cases_Bool (k + 1 == w)) [
        | inl t ↦
            let top : k + 1 ≡ w = eqb-true (k + 1) w t in
            let last : m ≡ k = omega arith in
            top_is (below_bits x y) k top ∙ e ∙ ap (λ (n : ℕ). nat_lt (number_of x n) (number_of y n)) size
            ∙ sym (below_number x y m) ∙ ap (below_bits x y) last
        | inr t ↦ helper_is (below_bits x y) k (eqb-false (k + 1) w t)
      ]

-- a bit is a number of one bit
pub bit_is : (v : ℕ → Bool) (r : ℕ) (c : Bool) → (v (r + 0) ≡ c) ↔ (word_value v 1 r ≡ words.bit c)
bit_is v r c = (
  λ e. one_bit (λ k. v (r + k)) ∙ ap words.bit e,
  λ e. bit_same (v (r + 0)) c (sym (one_bit (λ k. v (r + k))) ∙ e),
)

module _ (v : ℕ → Bool) (w r a b h : ℕ) (some : 0 < w) (before_r : StandsBefore h 1 r) (before_a : StandsBefore h w a) (before_b : StandsBefore h w b) where
  pub less_law : SayWithHelpers v h (w - 1) (row_clauses w (Less w r a b h))
      (word_value v 1 r ≡ words.below (word_value v w a) (word_value v w b))
  less_law =
      say_same v h (w - 1) (row_clauses w (Less w r a b h)) (bit_is v r (nat_lt (word_value v w a) (word_value v w b)))
      (less_says v w r h before_r (bit a) (bit b) (λ k. v (a + k)) (λ k. v (b + k))
      (λ f k i. before v h f w a k before_a i) (λ f k i. before v h f w b k before_b i) (w - 1) (omega arith))

  -- the bits with the highest exchanged
  abbrev exchanged : ℕ → ℕ → ℕ → Bool
  exchanged m n k = if k + 1 == w then v (n + k) else v (m + k)

  exchanged_value : (m n : ℕ) → StandsBefore h w m → StandsBefore h w n → (f : ℕ → Bool) (k : ℕ) → k < w
      → literal_value (with_helpers v h f) (top_exchanged w (bit m) (bit n) k) ≡ exchanged m n k
  exchanged_value m n p q f k i = elim (cases_Bool (k + 1 == w)) [
    | inl t ↦ rw t (before v h f w n k q i)
    | inr t ↦ rw t (before v h f w m k p i)
  ]

  -- its number: the low bits, and the other's highest
  exchanged_number : (m n t : ℕ) → w ≡ suc t
      → number_of (exchanged m n) w ≡ number_of (λ k. v (m + k)) t + 2 ^ t * words.bit (v (n + t))
  exchanged_number m n t size =
      ap (number_of (exchanged m n)) size
      ∙ ap (λ (z : ℕ). z + 2 ^ t * words.bit (exchanged m n t)) (number_same (exchanged m n) (λ k. v (m + k)) t low)
      ∙ rw (eq-eqb (t + 1) w (omega arith)) refl
    where
      low : (k : ℕ) → k < t → exchanged m n k ≡ v (m + k)
      low k i = rw (ne_eqb (k + 1) w (λ e. omega arith)) refl

  pub signed_law : SayWithHelpers v h (w - 1) (row_clauses w (SignedLess w r a b h))
      (word_value v 1 r ≡ words.signed_below w (word_value v w a) (word_value v w b))
  signed_law =
      say_same v h (w - 1) (row_clauses w (SignedLess w r a b h))
      (bit_is v r (nat_lt (words.plus w (word_value v w a) (2 ^ (w - 1))) (words.plus w (word_value v w b) (2 ^ (w - 1)))))
      (say_same v h (w - 1) (row_clauses w (SignedLess w r a b h)) (along same)
      (less_says v w r h before_r (top_exchanged w (bit a) (bit b)) (top_exchanged w (bit b) (bit a)) (exchanged a b) (exchanged b a)
      (exchanged_value a b before_a before_b) (exchanged_value b a before_b before_a) (w - 1) (omega arith)))
    where
      along : {c d : Bool} → c ≡ d → (v (r + 0) ≡ c) ↔ (v (r + 0) ≡ d)
      along e = (λ p. p ∙ e, λ p. p ∙ sym e)

      whole : (m : ℕ) → word_value v w m ≡ number_of (λ k. v (m + k)) (w - 1) + 2 ^ (w - 1) * words.bit (v (m + (w - 1)))
      whole m = let size : w ≡ suc (w - 1) = omega arith in ap (λ (n : ℕ). word_value v n m) size

      twice : (n : ℕ) → 2 ^ suc n ≡ 2 ^ n + 2 ^ n
      twice n = omega arith

      double : 2 ^ w ≡ 2 ^ (w - 1) + 2 ^ (w - 1)
      double = let size : w ≡ suc (w - 1) = omega arith in ap (λ (n : ℕ). 2 ^ n) size ∙ twice (w - 1)

      same : nat_lt (number_of (exchanged a b) w) (number_of (exchanged b a) w)
          ≡ nat_lt (words.plus w (word_value v w a) (2 ^ (w - 1))) (words.plus w (word_value v w b) (2 ^ (w - 1)))
      same =
          rw (exchanged_number a b (w - 1) (omega arith), exchanged_number b a (w - 1) (omega arith), whole a, whole b, double)
          (signed_split (v (a + (w - 1))) (v (b + (w - 1))) (number_of (λ k. v (a + k)) (w - 1)) (number_of (λ k. v (b + k)) (w - 1)) (2 ^ (w - 1))
          (number_below (λ k. v (a + k)) (w - 1)) (number_below (λ k. v (b + k)) (w - 1)))
