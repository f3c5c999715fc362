-- The rows of sums.
use Rattle.std.proofs.Common.{◌≡◌, ℕ, zero, suc, ◌+◌, ◌-◌, ◌^◌, ◌<◌, ◌&&◌, Bool, true, false, List, [], ◌∷◌, refl, sym, ◌∙◌, ap, arith, if◌then◌else◌}
use Rattle.std.specs.Prelude.{nat_lt}
use Rattle.insn_semantics.specs.Words as words
use Rattle.clauses.specs.declared.clause.Lit.{Lit}
use Rattle.clauses.specs.Assignments.{MeetsAll, literal_value}
use Rattle.clause_gates.specs.Gates.{and_gate, majority, majority_gate, xor_gate}
use Rattle.clause_gates.proofs.GateLaws.{majority_says, xor_says}
use Rattle.clause_words.specs.Numbers.{SayWithHelpers, StandsBefore, with_helpers, word_value}
use Rattle.clause_words.specs.Rows.{bit, columns, row_clauses, sum_column}
use Rattle.clause_words.specs.declared.row.Row.TheVariants.{Sum}
use Rattle.clause_words.proofs.Helpers.{before, behind, say_same}
use Rattle.clause_words.proofs.Meeting.{and_says, append_met, columns_met, met_append, met_columns}
use Rattle.clause_words.proofs.Numbers.{bits_same, carry_into, difference, number_below, number_same, sum_bit, sum_number}

less_true : (a b : ℕ) → a < b → nat_lt a b ≡ true
less_true a b h = grind arith

less_from : (a b : ℕ) → nat_lt a b ≡ true → a < b
less_from a b h = grind arith

-- a majority with a false one
two_of : (a b : Bool) → majority a b false ≡ (a && b)
two_of true true = refl
two_of true false = refl
two_of false true = refl
two_of false false = refl

-- clauses that are there under a test
met_if : (v : ℕ → Bool) (t : Bool) (cs : List (List Lit)) → (t ≡ true → MeetsAll v cs) → MeetsAll v (if t then cs else [])
met_if v true cs h = h refl
met_if v false cs h = tt

if_met : (v : ℕ → Bool) (t : Bool) (cs : List (List Lit)) → MeetsAll v (if t then cs else []) → t ≡ true → MeetsAll v cs
if_met v true cs m e = m
if_met v false cs m e = absurd (cc)

-- a row of w columns over literals whose values below w are these bits
module _ (v : ℕ → Bool) (w : ℕ) (r a b carry : ℕ → Lit) (x y : ℕ → Bool)
    (first : (k : ℕ) → k < w → literal_value v (a k) ≡ x k) (second : (k : ℕ) → k < w → literal_value v (b k) ≡ y k) where
  -- its bits are those of the sum, and its helpers the carries
  pub record IsSum : Type 0 where
    pub own : (k : ℕ) → k < w → literal_value v (r k) ≡ sum_bit x y k
    pub carries : (k : ℕ) → k + 1 < w → literal_value v (carry k) ≡ carry_into x y (suc k)

  met_carries : MeetsAll v (columns (sum_column w r a b carry) w) → (k : ℕ) → k + 1 < w
      → literal_value v (carry k) ≡ carry_into x y (suc k)
  met_carries m zero h =
      let col : MeetsAll v (sum_column w r a b carry 0) = met_columns v (sum_column w r a b carry) w m 0 (omega arith) in
      let parts : MeetsAll v (xor_gate (r 0) (a 0 ∷ b 0 ∷ [])) × MeetsAll v (if nat_lt 1 w then and_gate (carry 0) (a 0) (b 0) else []) =
      append_met v (xor_gate (r 0) (a 0 ∷ b 0 ∷ [])) (if nat_lt 1 w then and_gate (carry 0) (a 0) (b 0) else []) col in
      let gate : MeetsAll v (and_gate (carry 0) (a 0) (b 0)) =
      if_met v (nat_lt 1 w) (and_gate (carry 0) (a 0) (b 0)) parts.1 (less_true 1 w (omega arith)) in
      (and_says v (carry 0) (a 0) (b 0)).0 gate ∙ ap (λ (z : Bool). z && literal_value v (b 0)) (first 0 (omega arith))
      ∙ ap (λ (z : Bool). x 0 && z) (second 0 (omega arith)) ∙ sym (two_of (x 0) (y 0))
  met_carries m (suc k) h =
      let col : MeetsAll v (sum_column w r a b carry (suc k)) = met_columns v (sum_column w r a b carry) w m (suc k) (omega arith) in
      let parts : MeetsAll v (xor_gate (r (suc k)) (a (suc k) ∷ b (suc k) ∷ carry k ∷ []))
      × MeetsAll v (if nat_lt (suc k + 1) w then majority_gate (carry (suc k)) (a (suc k)) (b (suc k)) (carry k) else []) =
      append_met v (xor_gate (r (suc k)) (a (suc k) ∷ b (suc k) ∷ carry k ∷ []))
      (if nat_lt (suc k + 1) w then majority_gate (carry (suc k)) (a (suc k)) (b (suc k)) (carry k) else []) col in
      let gate : MeetsAll v (majority_gate (carry (suc k)) (a (suc k)) (b (suc k)) (carry k)) =
      if_met v (nat_lt (suc k + 1) w) (majority_gate (carry (suc k)) (a (suc k)) (b (suc k)) (carry k)) parts.1
      (less_true (suc k + 1) w h) in
      (majority_says v (carry (suc k)) (a (suc k)) (b (suc k)) (carry k)).0 gate
      ∙ rw (first (suc k) (omega arith), second (suc k) (omega arith), met_carries m k (omega arith)) refl

  met_own : MeetsAll v (columns (sum_column w r a b carry) w) → (k : ℕ) → k < w → literal_value v (r k) ≡ sum_bit x y k
  met_own m zero h =
      let col : MeetsAll v (sum_column w r a b carry 0) = met_columns v (sum_column w r a b carry) w m 0 (omega arith) in
      let parts : MeetsAll v (xor_gate (r 0) (a 0 ∷ b 0 ∷ [])) × MeetsAll v (if nat_lt 1 w then and_gate (carry 0) (a 0) (b 0) else []) =
      append_met v (xor_gate (r 0) (a 0 ∷ b 0 ∷ [])) (if nat_lt 1 w then and_gate (carry 0) (a 0) (b 0) else []) col in
      (xor_says v (r 0) (a 0 ∷ b 0 ∷ [])).0 parts.0 ∙ rw (first 0 h, second 0 h) refl
  met_own m (suc k) h =
      let col : MeetsAll v (sum_column w r a b carry (suc k)) = met_columns v (sum_column w r a b carry) w m (suc k) (omega arith) in
      let parts : MeetsAll v (xor_gate (r (suc k)) (a (suc k) ∷ b (suc k) ∷ carry k ∷ []))
      × MeetsAll v (if nat_lt (suc k + 1) w then majority_gate (carry (suc k)) (a (suc k)) (b (suc k)) (carry k) else []) =
      append_met v (xor_gate (r (suc k)) (a (suc k) ∷ b (suc k) ∷ carry k ∷ []))
      (if nat_lt (suc k + 1) w then majority_gate (carry (suc k)) (a (suc k)) (b (suc k)) (carry k) else []) col in
      (xor_says v (r (suc k)) (a (suc k) ∷ b (suc k) ∷ carry k ∷ [])).0 parts.0
      ∙ rw (first (suc k) h, second (suc k) h, met_carries m k (omega arith)) refl

  pub sum_from : MeetsAll v (columns (sum_column w r a b carry) w) → IsSum
  sum_from m = record { own = met_own m; carries = met_carries m }

  own_met : IsSum → (k : ℕ) → k < w → MeetsAll v (sum_column w r a b carry k)
  own_met s zero h =
      met_append v (xor_gate (r 0) (a 0 ∷ b 0 ∷ [])) (if nat_lt 1 w then and_gate (carry 0) (a 0) (b 0) else [])
      ((xor_says v (r 0) (a 0 ∷ b 0 ∷ [])).1 (s.own 0 h ∙ rw (first 0 h, second 0 h) refl))
      (met_if v (nat_lt 1 w) (and_gate (carry 0) (a 0) (b 0)) (λ t.
      let more : 1 < w = less_from 1 w t in
      (and_says v (carry 0) (a 0) (b 0)).1 (s.carries 0 (omega arith) ∙ two_of (x 0) (y 0) ∙ rw (first 0 h, second 0 h) refl)))
  own_met s (suc k) h =
      met_append v (xor_gate (r (suc k)) (a (suc k) ∷ b (suc k) ∷ carry k ∷ []))
      (if nat_lt (suc k + 1) w then majority_gate (carry (suc k)) (a (suc k)) (b (suc k)) (carry k) else [])
      ((xor_says v (r (suc k)) (a (suc k) ∷ b (suc k) ∷ carry k ∷ [])).1
      (s.own (suc k) h ∙ rw (first (suc k) h, second (suc k) h, s.carries k (omega arith)) refl))
      (met_if v (nat_lt (suc k + 1) w) (majority_gate (carry (suc k)) (a (suc k)) (b (suc k)) (carry k)) (λ t.
      let more : suc k + 1 < w = less_from (suc k + 1) w t in
      (majority_says v (carry (suc k)) (a (suc k)) (b (suc k)) (carry k)).1
      (s.carries (suc k) more ∙ rw (first (suc k) h, second (suc k) h, s.carries k (omega arith)) refl)))

  pub sum_to : IsSum → MeetsAll v (columns (sum_column w r a b carry) w)
  sum_to s = columns_met v (sum_column w r a b carry) w (own_met s)

module _ (v : ℕ → Bool) (w r a b h : ℕ) (before_r : StandsBefore h w r) (before_a : StandsBefore h w a) (before_b : StandsBefore h w b) where
  -- the bits of the arguments
  abbrev x : ℕ → Bool
  x k = v (a + k)

  abbrev y : ℕ → Bool
  y k = v (b + k)

  -- these are the bits whatever the helpers
  module _ (f : ℕ → Bool) where
    abbrev u : ℕ → Bool
    u = with_helpers v h f

    first_bits : (k : ℕ) → k < w → literal_value u (bit a k) ≡ x k
    first_bits k i = before v h f w a k before_a i

    second_bits : (k : ℕ) → k < w → literal_value u (bit b k) ≡ y k
    second_bits k i = before v h f w b k before_b i

    sum_found : MeetsAll u (row_clauses w (Sum w r a b h)) → IsSum u w (bit r) (bit a) (bit b) (bit h) x y first_bits second_bits
    sum_found m = sum_from u w (bit r) (bit a) (bit b) (bit h) x y first_bits second_bits m

    sum_put : IsSum u w (bit r) (bit a) (bit b) (bit h) x y first_bits second_bits → MeetsAll u (row_clauses w (Sum w r a b h))
    sum_put s = sum_to u w (bit r) (bit a) (bit b) (bit h) x y first_bits second_bits s

  helper_is : (f : ℕ → Bool) → MeetsAll (with_helpers v h f) (row_clauses w (Sum w r a b h)) → (k : ℕ) → k < w - 1 → f k ≡ carry_into x y (suc k)
  helper_is f m k i = sym (behind v h f k) ∙ (sum_found f m).carries k (omega arith)

  pub sum_law : SayWithHelpers v h (w - 1) (row_clauses w (Sum w r a b h))
      (word_value v w r ≡ words.plus w (word_value v w a) (word_value v w b))
  sum_law = record {
    some = λ e.
        let f : ℕ → Bool = λ k. carry_into x y (suc k) in
        let bits : (k : ℕ) → k < w → v (r + k) ≡ sum_bit x y k = bits_same (λ k. v (r + k)) (sum_bit x y) w (e ∙ sym (sum_number x y w)) in (
          f,
          sum_put f (record {
            own = λ k i. before v h f w r k before_r i ∙ bits k i;
            carries = λ k i. behind v h f k;
          }),
        );
    only = λ f m.
        number_same (λ k. v (r + k)) (sum_bit x y) w (λ k i. sym (before v h f w r k before_r i) ∙ (sum_found f m).own k i)
        ∙ sum_number x y w;
    one = λ f g m n k i. helper_is f m k i ∙ sym (helper_is g n k i);
  }

-- the same row for a difference
pub difference_law : (v : ℕ → Bool) (w r a b h : ℕ) → StandsBefore h w r → StandsBefore h w a → StandsBefore h w b
    → SayWithHelpers v h (w - 1) (row_clauses w (Sum w a r b h))
    (word_value v w r ≡ words.minus w (word_value v w a) (word_value v w b))
difference_law v w r a b h p q s =
    say_same v h (w - 1) (row_clauses w (Sum w a r b h))
    (difference (2 ^ w) (word_value v w a) (word_value v w b) (word_value v w r)
    (number_below (λ k. v (a + k)) w) (number_below (λ k. v (b + k)) w) (number_below (λ k. v (r + k)) w))
    (sum_law v w a r b h q p s)
