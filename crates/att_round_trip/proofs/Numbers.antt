-- Immediates as they are printed and read again.
use Rattle.std.proofs.Common.{◌≡◌, ◌⊎◌, inl, inr, ⊎_elim, ℕ, ◌-◌, ◌/◌, ◌%◌, ◌^◌, ◌<◌, ◌≤◌, eqb, Bool, true, false, ◌||◌, cond, nat_lt, nat_le, ◌++◌, codes, decimal, refl, sym, subst, arith}
use Rattle.std.proofs.lemmas.Bool.{eqb-true, or_left, or_cases}
use Rattle.std.proofs.lemmas.Bool.Decides.{nat_tests}
use Rattle.insn_table.specs.Classes.{greatest_immediate, immediate_depth, is_immediate}
use Rattle.insn_table.specs.declared.insn.Operand.TheVariants.{Imm}
use Rattle.att_statements.specs.Operands.{Immediate, IsBetween, IsOperandText}
use Rattle.att_statements.specs.Statements.{word_of}
use Rattle.text_parts.proofs.Printed.{decimal-is}
use Rattle.insn_text.specs.InsnText.{number_text, numbers_of, operand_text}
use Rattle.att_round_trip.proofs.Tokens.{IsToken, number-token}

word-below : (n : ℕ) → n < 2 ^ 64 → word_of false n ≡ n
word-below n lt = grind (arith, nat_tests)

word-above : (n : ℕ) → 0 < n → n ≤ 2 ^ 63 → word_of true n ≡ 2 ^ 64 - n
word-above n some le = grind (arith, nat_tests)

-- at most the greatest, or as far below 0 at most
abbrev InRange : ℕ → ℕ → ℕ → Type 0
InRange greatest depth v = (v ≤ greatest) ⊎ (2 ^ 64 - depth ≤ v)

-- the number v modulo m as it is read again
record Again (m greatest depth bound v : ℕ) : Type 0 where
  negative : Bool
  amount : ℕ
  read : IsOperandText (number_text m v) (Immediate negative amount)
  token : IsToken (number_text m v)
  same : v % m ≡ word_of negative amount % m
  within : IsBetween (2 ^ 63) (2 ^ 63 - 1) negative amount
  fits : InRange greatest depth v → InRange greatest depth (word_of negative amount)
  kept : v < bound → word_of negative amount ≡ v

-- what a number that is not negative, and what a negative one has to be
record Facts (m greatest depth bound v word : ℕ) : Type 0 where
  same : v % m ≡ word % m
  fits : InRange greatest depth v → InRange greatest depth word
  kept : v < bound → word ≡ v

again-by : (m greatest depth bound v : ℕ) (t : Bool) → nat_lt (v % m) (m / 2) ≡ t → v % m < 2 ^ 64
    → (t ≡ true → v % m ≤ 2 ^ 63 - 1) → (t ≡ false → (0 < m - v % m) × (m - v % m ≤ 2 ^ 63))
    → (t ≡ true → Facts m greatest depth bound v (v % m)) → (t ≡ false → Facts m greatest depth bound v (2 ^ 64 - (m - v % m)))
    → Again m greatest depth bound v
unfolding number_text
again-by m greatest depth bound v true is low few far here there =
    let facts : Facts m greatest depth bound v (word_of false (v % m)) = rw (word-below (v % m) low) (here refl) in
    record {
      negative = false;
      amount = v % m;
      read = rw is (decimal (v % m), refl, inl (decimal-is (v % m) low));
      token = number-token m v true is low (λ e. cc);
      same = facts.same;
      within = few refl;
      fits = facts.fits;
      kept = facts.kept;
    }
again-by m greatest depth bound v false is low few far here there =
    let some = (far refl).0 in
    let less = (far refl).1 in
    let facts : Facts m greatest depth bound v (word_of true (m - v % m)) = rw (word-above (m - v % m) some less) (there refl) in
    record {
      negative = true;
      amount = m - v % m;
      read = rw is (codes "-" ++ decimal (m - v % m), refl, (decimal (m - v % m), refl, inl (decimal-is (m - v % m) (omega arith))));
      token = number-token m v false is low (λ e. omega arith);
      same = facts.same;
      within = less;
      fits = facts.fits;
      kept = facts.kept;
    }

low_half : (a b : ℕ) (t : Bool) → nat_lt a b ≡ t → t ≡ true → a < b
low_half a b t is e = grind (arith, nat_tests)

high_half : (a b : ℕ) (t : Bool) → nat_lt a b ≡ t → t ≡ false → b ≤ a
high_half a b t is e = grind (arith, nat_tests)

again-8 : (v : ℕ) → v < 2 ^ 64 → (t : Bool) → nat_lt (v % 2 ^ 8) (2 ^ 8 / 2) ≡ t → Again (2 ^ 8) (2 ^ 8 - 1) (2 ^ 7) (2 ^ 7) v
again-8 v lt t is =
    let low = low_half (v % 2 ^ 8) (2 ^ 8 / 2) t is in
    let high = high_half (v % 2 ^ 8) (2 ^ 8 / 2) t is in
    again-by (2 ^ 8) (2 ^ 8 - 1) (2 ^ 7) (2 ^ 7) v t is (omega arith) (λ e. omega arith) (λ e. let far = high e in (omega arith, omega arith))
    (λ e. let near = low e in record { same = omega arith; fits = λ r. inl (omega arith); kept = λ less. omega arith })
    (λ e. let far = high e in record { same = omega arith; fits = λ r. inr (omega arith); kept = λ less. absurd (omega arith) })

again-16 : (v : ℕ) → v < 2 ^ 64 → (t : Bool) → nat_lt (v % 2 ^ 16) (2 ^ 16 / 2) ≡ t → Again (2 ^ 16) (2 ^ 16 - 1) (2 ^ 15) (2 ^ 15) v
again-16 v lt t is =
    let low = low_half (v % 2 ^ 16) (2 ^ 16 / 2) t is in
    let high = high_half (v % 2 ^ 16) (2 ^ 16 / 2) t is in
    again-by (2 ^ 16) (2 ^ 16 - 1) (2 ^ 15) (2 ^ 15) v t is (omega arith) (λ e. omega arith) (λ e. let far = high e in (omega arith, omega arith))
    (λ e. let near = low e in record { same = omega arith; fits = λ r. inl (omega arith); kept = λ less. omega arith })
    (λ e. let far = high e in record { same = omega arith; fits = λ r. inr (omega arith); kept = λ less. absurd (omega arith) })

again-32 : (v : ℕ) → v < 2 ^ 64 → (t : Bool) → nat_lt (v % 2 ^ 32) (2 ^ 32 / 2) ≡ t → Again (2 ^ 32) (2 ^ 32 - 1) (2 ^ 31) (2 ^ 31) v
again-32 v lt t is =
    let low = low_half (v % 2 ^ 32) (2 ^ 32 / 2) t is in
    let high = high_half (v % 2 ^ 32) (2 ^ 32 / 2) t is in
    again-by (2 ^ 32) (2 ^ 32 - 1) (2 ^ 31) (2 ^ 31) v t is (omega arith) (λ e. omega arith) (λ e. let far = high e in (omega arith, omega arith))
    (λ e. let near = low e in record { same = omega arith; fits = λ r. inl (omega arith); kept = λ less. omega arith })
    (λ e. let far = high e in record { same = omega arith; fits = λ r. inr (omega arith); kept = λ less. absurd (omega arith) })

again-64 : (v : ℕ) → v < 2 ^ 64 → (t : Bool) → nat_lt (v % 2 ^ 64) (2 ^ 64 / 2) ≡ t → Again (2 ^ 64) (2 ^ 31 - 1) (2 ^ 31) (2 ^ 64) v
again-64 v lt t is =
    let low = low_half (v % 2 ^ 64) (2 ^ 64 / 2) t is in
    let high = high_half (v % 2 ^ 64) (2 ^ 64 / 2) t is in
    again-by (2 ^ 64) (2 ^ 31 - 1) (2 ^ 31) (2 ^ 64) v t is (omega arith) (λ e. let near = low e in omega arith) (λ e. let far = high e in (omega arith, omega arith))
    (λ e.
    let near = low e in
    let whole : v % 2 ^ 64 ≡ v = omega arith in
    record { same = omega arith; fits = λ r. subst (InRange (2 ^ 31 - 1) (2 ^ 31)) (sym whole) r; kept = λ less. whole })
    (λ e.
    let far = high e in
    let whole : 2 ^ 64 - (2 ^ 64 - v % 2 ^ 64) ≡ v = omega arith in
    record { same = omega arith; fits = λ r. subst (InRange (2 ^ 31 - 1) (2 ^ 31)) (sym whole) r; kept = λ less. whole })

-- by the tests of the width
again-of : (a b c : Bool) (v : ℕ) → v < 2 ^ 64
    → Again (cond a (2 ^ 8) (cond b (2 ^ 16) (cond c (2 ^ 32) (2 ^ 64)))) (cond a (2 ^ 8 - 1) (cond b (2 ^ 16 - 1) (cond c (2 ^ 32 - 1) (2 ^ 31 - 1))))
    (cond a (2 ^ 7) (cond b (2 ^ 15) (2 ^ 31))) (cond a (2 ^ 7) (cond b (2 ^ 15) (cond c (2 ^ 31) (2 ^ 64)))) v
again-of true b c v lt = again-8 v lt (nat_lt (v % 2 ^ 8) (2 ^ 8 / 2)) refl
again-of false true c v lt = again-16 v lt (nat_lt (v % 2 ^ 16) (2 ^ 16 / 2)) refl
again-of false false true v lt = again-32 v lt (nat_lt (v % 2 ^ 32) (2 ^ 32 / 2)) refl
again-of false false false v lt = again-64 v lt (nat_lt (v % 2 ^ 64) (2 ^ 64 / 2)) refl

below-bound : (w v : ℕ) (a b c : Bool) → eqb w 8 ≡ a → eqb w 16 ≡ b → eqb w 32 ≡ c → v < w → v < 2 ^ 64
    → v < cond a (2 ^ 7) (cond b (2 ^ 15) (cond c (2 ^ 31) (2 ^ 64)))
below-bound w v true b c ea eb ec less lt = let e = eqb-true w 8 ea in omega arith
below-bound w v false true c ea eb ec less lt = let e = eqb-true w 16 eb in omega arith
below-bound w v false false true ea eb ec less lt = let e = eqb-true w 32 ec in omega arith
below-bound w v false false false ea eb ec less lt = lt

-- the width of a vector
abbrev pub IsVectorWidth : ℕ → Type 0
IsVectorWidth w = (w ≡ 128) ⊎ (w ≡ 256)

no_word : (w n : ℕ) → n < 128 → w ≡ n → IsVectorWidth w → ⊥
no_word w n less e (inl f) = omega arith
no_word w n less e (inr f) = omega arith

below-whole : (w v : ℕ) (a b c : Bool) → eqb w 8 ≡ a → eqb w 16 ≡ b → eqb w 32 ≡ c → IsVectorWidth w → v < 2 ^ 64
    → v < cond a (2 ^ 7) (cond b (2 ^ 15) (cond c (2 ^ 31) (2 ^ 64)))
below-whole w v true b c ea eb ec wide lt = absurd (no_word w 8 (omega arith) (eqb-true w 8 ea) wide)
below-whole w v false true c ea eb ec wide lt = absurd (no_word w 16 (omega arith) (eqb-true w 16 eb) wide)
below-whole w v false false true ea eb ec wide lt = absurd (no_word w 32 (omega arith) (eqb-true w 32 ec) wide)
below-whole w v false false false ea eb ec wide lt = lt

-- what is printed of an immediate of a form of w bits, and how it is read again
pub record NumberAgain (w v : ℕ) : Type 0 where
  pub negative : Bool
  pub amount : ℕ
  pub read : IsOperandText (operand_text w (Imm v)) (Immediate negative amount)
  pub token : IsToken (operand_text w (Imm v))
  pub same : v % numbers_of w ≡ word_of negative amount % numbers_of w
  pub within : IsBetween (2 ^ 63) (2 ^ 63 - 1) negative amount
  pub fits : is_immediate w v ≡ true → is_immediate w (word_of negative amount) ≡ true
  pub kept : v < w → word_of negative amount ≡ v
  pub whole : IsVectorWidth w → word_of negative amount ≡ v

in-range : (greatest depth v : ℕ) → (nat_le v greatest || nat_le (2 ^ 64 - depth) v) ≡ true → InRange greatest depth v
in-range greatest depth v h = ⊎_elim (λ (e : nat_le v greatest ≡ true). inl (le v greatest e)) (λ (e : nat_le (2 ^ 64 - depth) v ≡ true). inr (le (2 ^ 64 - depth) v e)) (or_cases _ _ h)
  where
    le : (a b : ℕ) → nat_le a b ≡ true → a ≤ b
    le a b e = grind (arith, nat_tests)

range-in : (greatest depth v : ℕ) → InRange greatest depth v → (nat_le v greatest || nat_le (2 ^ 64 - depth) v) ≡ true
range-in greatest depth v (inl low) = or_left (nat_le v greatest) _ (test v greatest low)
  where
    test : (a b : ℕ) → a ≤ b → nat_le a b ≡ true
    test a b e = grind (arith, nat_tests)
range-in greatest depth v (inr high) = either (nat_le v greatest) (nat_le (2 ^ 64 - depth) v) (test (2 ^ 64 - depth) v high)
  where
    test : (a b : ℕ) → a ≤ b → nat_le a b ≡ true
    test a b e = grind (arith, nat_tests)

    either : (x y : Bool) → y ≡ true → (x || y) ≡ true
    either true y e = refl
    either false y e = e

-- each number below 2^64 is read again
pub number-again : (w v : ℕ) → v < 2 ^ 64 → NumberAgain w v
unfolding operand_text
number-again w v lt =
    let it = again-of (eqb w 8) (eqb w 16) (eqb w 32) v lt in
    record {
      negative = it.negative;
      amount = it.amount;
      read = it.read;
      token = it.token;
      same = it.same;
      within = it.within;
      fits = λ h. range-in (greatest_immediate w) (immediate_depth w) (word_of it.negative it.amount) (it.fits (in-range (greatest_immediate w) (immediate_depth w) v h));
      kept = λ less. it.kept (below-bound w v (eqb w 8) (eqb w 16) (eqb w 32) refl refl refl less lt);
      whole = λ wide. it.kept (below-whole w v (eqb w 8) (eqb w 16) (eqb w 32) refl refl refl wide lt);
    }
