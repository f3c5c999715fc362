-- What the flags and the conditions say after a sum and a difference of words: whether the signed result has a word,
-- which operand is below the other, and whether the sum is negative.
use Rattle.std.proofs.Common.{◌≡◌, ℕ, ◌+◌, ◌-◌, ◌*◌, ◌/◌, ◌%◌, ◌^◌, ◌<◌, ◌==◌, Bool, true, false, Some, refl, sym, ◌∙◌, ap, subst, inl, inr, arith}
use Rattle.std.specs.Prelude.{ℤ, pos, ◌+ℤ◌, ◌-ℤ◌, ◌||◌, bit_and, bit_xor, int_le, int_lt, nat_le, nat_lt, not}
use Rattle.std.specs.Option.{option_map}
use Rattle.std.proofs.lemmas.Bool.{cases_order, eq-eqb, ne_eqb}
use Rattle.std.proofs.lemmas.Int.{ints}
use Rattle.std.proofs.lemmas.Nat.{pow-add, pow_pos, mod_below}
use Rattle.std.proofs.lemmas.Nat.Bits.{bit_at_and, bit_at_xor}
use Rattle.std.proofs.Math.Nat.{mod-eq_of_lt}
use Rattle.insn_ops.specs.declared.op.Cond.TheVariants as conds
use Rattle.insn_ops.specs.declared.op.Flags.{Flags}
use Rattle.insn_ops.specs.declared.op.Op.TheVariants as ops
use Rattle.insn_semantics.specs.Conditions.{cond_of, either}
use Rattle.insn_semantics.specs.FlagRules.{flags_after}
use Rattle.insn_semantics.specs.SignedNumbers.{has_word, signed_number}
use Rattle.insn_semantics.specs.Words.{bit, minus, plus, cut, signed_below}
use Rattle.insn_semantics.proofs.ConditionLaws.{be_is_either, le_is_either, opposites_differ}
use Rattle.insn_semantics.proofs.SignedSums.{Half, Low, High, SignedSum, difference_less, difference_overflows, half_of, over, signed, signed_sum, sum_less, sum_overflows, turned, turned_order, turned_sum}
use Rattle.insn_semantics.proofs.WordLaws.{once_around, plus-minus}

-- a Bool as a word of one bit, tested
pub bit-test : (b : Bool) → (bit b == 1) ≡ b
bit-test true = refl
bit-test false = refl

pub halves : (w : ℕ) → 0 < w → 2 ^ (w - 1) + 2 ^ (w - 1) ≡ 2 ^ w
halves w some =
    let whole : w - 1 + 1 ≡ w = omega arith in
    let product : 2 ^ w ≡ 2 ^ (w - 1) * 2 = rw whole at (pow-add 2 (w - 1) 1) in
    omega arith

pub signed_number-is : (w a : ℕ) → 0 < w → signed_number w a ≡ signed (2 ^ (w - 1)) a
signed_number-is w a some = rw (halves w some) refl

-- the overflow of a sum r, by the highest bits of a, b and r
sum_overflow_by_tops : (a b r k : ℕ) → cut (bit_and (bit_xor a r) (bit_xor b r)) k 1 ≡ over (cut a k 1) (cut b k 1) (cut r k 1)
unfolding over
sum_overflow_by_tops a b r k = simp (bit_at_and, bit_at_xor)

-- the overflow of a difference r is that of the sum r + b, whose result is a
difference_overflow_by_tops : (a b r k : ℕ) → cut (bit_and (bit_xor a b) (bit_xor a r)) k 1 ≡ over (cut r k 1) (cut b k 1) (cut a k 1)
unfolding over
difference_overflow_by_tops a b r k = simp (bit_at_and, bit_at_xor) (omega arith)

-- the sum of two words, at the highest bit
sum_of_words : (w a b : ℕ) → 0 < w → a < 2 ^ w → b < 2 ^ w
    → SignedSum (2 ^ (w - 1)) (cut a (w - 1) 1) (cut (plus w a b) (w - 1) 1) (over (cut a (w - 1) 1) (cut b (w - 1) 1) (cut (plus w a b) (w - 1) 1))
    (signed (2 ^ (w - 1)) a) (signed (2 ^ (w - 1)) b) (signed (2 ^ (w - 1)) (plus w a b))
sum_of_words w a b some la lb =
    let half : 2 ^ (w - 1) + 2 ^ (w - 1) ≡ 2 ^ w = halves w some in
    let h : ℕ = 2 ^ (w - 1) in
    subst (λ (p : ℕ). SignedSum h (a / h % 2) ((a + b) % p / h % 2) (over (a / h % 2) (b / h % 2) ((a + b) % p / h % 2)) (signed h a) (signed h b) (signed h ((a + b) % p))) half
    (signed_sum h a b (omega arith) (omega arith))

-- the difference of two words: with the right operand it makes the left one
difference_of_words : (w a b : ℕ) → 0 < w → a < 2 ^ w → b < 2 ^ w
    → SignedSum (2 ^ (w - 1)) (cut (minus w a b) (w - 1) 1) (cut a (w - 1) 1) (over (cut (minus w a b) (w - 1) 1) (cut b (w - 1) 1) (cut a (w - 1) 1))
    (signed (2 ^ (w - 1)) (minus w a b)) (signed (2 ^ (w - 1)) b) (signed (2 ^ (w - 1)) a)
difference_of_words w a b some la lb =
    rw (plus-minus w a b la lb) at (sum_of_words w (minus w a b) b some (mod_below (a + (2 ^ w - b)) (2 ^ w) (pow_pos w)) lb)

half_of_word : (w a : ℕ) → 0 < w → a < 2 ^ w → Half (2 ^ (w - 1)) a (cut a (w - 1) 1) (signed (2 ^ (w - 1)) a)
half_of_word w a some word =
    let half : 2 ^ (w - 1) + 2 ^ (w - 1) ≡ 2 ^ w = halves w some in
    half_of (2 ^ (w - 1)) a (omega arith)

below_two_halves : (w a : ℕ) → 0 < w → a < 2 ^ w → a < 2 ^ (w - 1) + 2 ^ (w - 1)
below_two_halves w a some word = rw (halves w some) word

-- a sum overflows where the signed sum has no word
pub overflow_after_add : (w a b : ℕ) (before : Flags) → 0 < w → a < 2 ^ w → b < 2 ^ w
    → (flags_after ops.Add w a b before).of ≡ Some (not (has_word w (signed_number w a +ℤ signed_number w b)))
unfolding flags_after
overflow_after_add w a b before some la lb =
    let r : ℕ = plus w a b in
    let word : r < 2 ^ w = mod_below (a + b) (2 ^ w) (pow_pos w) in
    rw (sum_overflow_by_tops a b (plus w a b) (w - 1), signed_number-is w a some, signed_number-is w b some)
    (ap Some (sum_overflows _ _ _ _ _ _ _ _ (below_two_halves w r some word) (half_of_word w r some word) (sum_of_words w a b some la lb)))

-- and a difference where the signed difference has none
pub overflow_after_sub : (w a b : ℕ) (before : Flags) → 0 < w → a < 2 ^ w → b < 2 ^ w
    → (flags_after ops.Sub w a b before).of ≡ Some (not (has_word w (signed_number w a -ℤ signed_number w b)))
unfolding flags_after
overflow_after_sub w a b before some la lb =
    let r : ℕ = minus w a b in
    let word : r < 2 ^ w = mod_below (a + (2 ^ w - b)) (2 ^ w) (pow_pos w) in
    rw (difference_overflow_by_tops a b (minus w a b) (w - 1), signed_number-is w a some, signed_number-is w b some)
    (ap Some (difference_overflows _ _ _ _ _ _ _ _ (below_two_halves w r some word) (half_of_word w r some word) (difference_of_words w a b some la lb)))

-- after a comparison `l` holds where the left operand is below the right one as a signed number
pub signed_less_after_cmp : (w a b : ℕ) (before : Flags) → 0 < w → a < 2 ^ w → b < 2 ^ w
    → cond_of conds.L (flags_after ops.Cmp w a b before) ≡ Some (int_lt (signed_number w a) (signed_number w b))
unfolding flags_after
signed_less_after_cmp w a b before some la lb =
    let r : ℕ = minus w a b in
    let word : r < 2 ^ w = mod_below (a + (2 ^ w - b)) (2 ^ w) (pow_pos w) in
    rw (difference_overflow_by_tops a b (minus w a b) (w - 1), signed_number-is w a some, signed_number-is w b some)
    (ap Some (difference_less _ _ _ _ _ _ _ _ (below_two_halves w r some word) (half_of_word w r some word) (difference_of_words w a b some la lb)))

-- after a sum it holds where the signed sum is negative
pub signed_less_after_add : (w a b : ℕ) (before : Flags) → 0 < w → a < 2 ^ w → b < 2 ^ w
    → cond_of conds.L (flags_after ops.Add w a b before) ≡ Some (int_lt (signed_number w a +ℤ signed_number w b) (pos 0))
unfolding flags_after
signed_less_after_add w a b before some la lb =
    let r : ℕ = plus w a b in
    let word : r < 2 ^ w = mod_below (a + b) (2 ^ w) (pow_pos w) in
    rw (sum_overflow_by_tops a b (plus w a b) (w - 1), signed_number-is w a some, signed_number-is w b some)
    (ap Some (sum_less _ _ _ _ _ _ _ _ (below_two_halves w r some word) (half_of_word w r some word) (sum_of_words w a b some la lb)))

-- a word with its highest bit turned is its signed number and 2^(w - 1)
turned_word : (w a : ℕ) → 0 < w → a < 2 ^ w → pos (plus w a (2 ^ (w - 1))) ≡ signed_number w a +ℤ pos (2 ^ (w - 1))
turned_word w a some word =
    rw (signed_number-is w a some, ← halves w some) (turned (2 ^ (w - 1)) a (below_two_halves w a some word))

-- so words are below by the sign exactly where their signed numbers are below
pub signed_below-is : (w a b : ℕ) → 0 < w → a < 2 ^ w → b < 2 ^ w → signed_below w a b ≡ bit (int_lt (signed_number w a) (signed_number w b))
signed_below-is w a b some la lb =
    ap bit (turned_order _ _ (2 ^ (w - 1)) (signed_number w a) (signed_number w b) (turned_word w a some la) (turned_word w b some lb))

-- the same two facts, with the words turned
pub less_after_cmp : (w a b : ℕ) (before : Flags) → 0 < w → a < 2 ^ w → b < 2 ^ w
    → cond_of conds.L (flags_after ops.Cmp w a b before) ≡ Some (signed_below w a b == 1)
less_after_cmp w a b before some la lb =
    signed_less_after_cmp w a b before some la lb ∙ ap Some (sym (rw (signed_below-is w a b some la lb) (bit-test _)))

pub less_after_add : (w a b : ℕ) (before : Flags) → 0 < w → a < 2 ^ w → b < 2 ^ w
    → cond_of conds.L (flags_after ops.Add w a b before) ≡ Some (nat_lt (plus w a (2 ^ (w - 1)) + plus w b (2 ^ (w - 1))) (2 ^ w))
less_after_add w a b before some la lb =
    signed_less_after_add w a b before some la lb
    ∙ ap Some (sym (turned_sum _ _ (2 ^ (w - 1)) (signed_number w a) (signed_number w b) (turned_word w a some la) (turned_word w b some lb)) ∙ ap (nat_lt _) (halves w some))

-- `b` holds where the left operand is below the right one as a whole number
pub below_after_cmp : (w a b : ℕ) (before : Flags) → cond_of conds.B (flags_after ops.Cmp w a b before) ≡ Some (nat_lt a b)
unfolding flags_after
below_after_cmp w a b before = ap Some (bit-test _ ∙ bit-test _)

difference_zero : (p a b : ℕ) → a < p → b < p → ((a + (p - b)) % p == 0) ≡ (a == b)
difference_zero p a b la lb = elim (cases_order a b) [
  | inl e ↦ rw (once_around p 0 (a + (p - b)) (omega arith) (omega arith), eq-eqb a b e) refl
  | inr (inl l) ↦
      let word : a + (p - b) < p = omega arith in
      rw (mod-eq_of_lt word, ne_eqb a b (omega arith), ne_eqb (a + (p - b)) 0 (omega arith)) refl
  | inr (inr g) ↦ rw (once_around p (a - b) (a + (p - b)) (omega arith) (omega arith), ne_eqb a b (omega arith), ne_eqb (a - b) 0 (omega arith)) refl
]

-- and `e` where they are equal
pub equal_after_cmp : (w a b : ℕ) (before : Flags) → a < 2 ^ w → b < 2 ^ w
    → cond_of conds.E (flags_after ops.Cmp w a b before) ≡ Some (a == b)
unfolding flags_after
equal_after_cmp w a b before la lb = ap Some (bit-test _ ∙ bit-test _ ∙ difference_zero (2 ^ w) a b la lb)

-- The other conditions after a comparison, by what they have to do with these three.
not_below : (a b : ℕ) → not (nat_lt a b) ≡ nat_le b a
not_below a b = grind arith

not_above : (a b : ℕ) → not (nat_le a b) ≡ nat_lt b a
not_above a b = grind arith

below_or_equal : (a b : ℕ) → (nat_lt a b || (a == b)) ≡ nat_le a b
below_or_equal a b = grind arith

not_less : (x y : ℤ) → not (int_lt x y) ≡ int_le y x
not_less x y = grind (arith, ints)

not_greater : (x y : ℤ) → not (int_le x y) ≡ int_lt y x
not_greater x y = grind (arith, ints)

equal_or_less : (h a b ta tb : ℕ) (x y : ℤ) → a < h + h → b < h + h → Half h a ta x → Half h b tb y → ((a == b) || int_lt x y) ≡ int_le x y
equal_or_less h a b ta tb x y la lb (Low d e f) (Low i j k) = grind (arith, ints)
equal_or_less h a b ta tb x y la lb (Low d e f) (High i j k) = grind (arith, ints)
equal_or_less h a b ta tb x y la lb (High d e f) (Low i j k) = grind (arith, ints)
equal_or_less h a b ta tb x y la lb (High d e f) (High i j k) = grind (arith, ints)

equal_or_less_words : (w a b : ℕ) → 0 < w → a < 2 ^ w → b < 2 ^ w
    → ((a == b) || int_lt (signed_number w a) (signed_number w b)) ≡ int_le (signed_number w a) (signed_number w b)
equal_or_less_words w a b some la lb =
    rw (signed_number-is w a some, signed_number-is w b some)
    (equal_or_less (2 ^ (w - 1)) a b _ _ _ _ (below_two_halves w a some la) (below_two_halves w b some lb) (half_of_word w a some la) (half_of_word w b some lb))

pub not_equal_after_cmp : (w a b : ℕ) (before : Flags) → a < 2 ^ w → b < 2 ^ w
    → cond_of conds.Ne (flags_after ops.Cmp w a b before) ≡ Some (not (a == b))
not_equal_after_cmp w a b before la lb = opposites_differ conds.E (flags_after ops.Cmp w a b before) ∙ ap (option_map not) (equal_after_cmp w a b before la lb)

pub not_below_after_cmp : (w a b : ℕ) (before : Flags) → cond_of conds.Ae (flags_after ops.Cmp w a b before) ≡ Some (nat_le b a)
not_below_after_cmp w a b before = opposites_differ conds.B (flags_after ops.Cmp w a b before) ∙ ap (option_map not) (below_after_cmp w a b before) ∙ ap Some (not_below a b)

pub below_or_equal_after_cmp : (w a b : ℕ) (before : Flags) → a < 2 ^ w → b < 2 ^ w
    → cond_of conds.Be (flags_after ops.Cmp w a b before) ≡ Some (nat_le a b)
below_or_equal_after_cmp w a b before la lb =
    be_is_either (flags_after ops.Cmp w a b before) ∙ (λ i. either (below_after_cmp w a b before i) (equal_after_cmp w a b before la lb i)) ∙ ap Some (below_or_equal a b)

pub above_after_cmp : (w a b : ℕ) (before : Flags) → a < 2 ^ w → b < 2 ^ w
    → cond_of conds.A (flags_after ops.Cmp w a b before) ≡ Some (nat_lt b a)
above_after_cmp w a b before la lb =
    opposites_differ conds.Be (flags_after ops.Cmp w a b before) ∙ ap (option_map not) (below_or_equal_after_cmp w a b before la lb) ∙ ap Some (not_above a b)

pub not_less_after_cmp : (w a b : ℕ) (before : Flags) → 0 < w → a < 2 ^ w → b < 2 ^ w
    → cond_of conds.Ge (flags_after ops.Cmp w a b before) ≡ Some (int_le (signed_number w b) (signed_number w a))
not_less_after_cmp w a b before some la lb =
    opposites_differ conds.L (flags_after ops.Cmp w a b before) ∙ ap (option_map not) (signed_less_after_cmp w a b before some la lb) ∙ ap Some (not_less (signed_number w a) (signed_number w b))

pub less_or_equal_after_cmp : (w a b : ℕ) (before : Flags) → 0 < w → a < 2 ^ w → b < 2 ^ w
    → cond_of conds.Le (flags_after ops.Cmp w a b before) ≡ Some (int_le (signed_number w a) (signed_number w b))
less_or_equal_after_cmp w a b before some la lb =
    le_is_either (flags_after ops.Cmp w a b before)
    ∙ (λ i. either (equal_after_cmp w a b before la lb i) (signed_less_after_cmp w a b before some la lb i))
    ∙ ap Some (equal_or_less_words w a b some la lb)

pub greater_after_cmp : (w a b : ℕ) (before : Flags) → 0 < w → a < 2 ^ w → b < 2 ^ w
    → cond_of conds.G (flags_after ops.Cmp w a b before) ≡ Some (int_lt (signed_number w b) (signed_number w a))
greater_after_cmp w a b before some la lb =
    opposites_differ conds.Le (flags_after ops.Cmp w a b before) ∙ ap (option_map not) (less_or_equal_after_cmp w a b before some la lb) ∙ ap Some (not_greater (signed_number w a) (signed_number w b))

pub ruleset comparisons = (
  less_after_cmp,
  below_after_cmp,
  equal_after_cmp,
  less_after_add,
  signed_less_after_cmp,
  signed_less_after_add,
  signed_below-is,
  not_equal_after_cmp,
  not_below_after_cmp,
  below_or_equal_after_cmp,
  above_after_cmp,
  not_less_after_cmp,
  less_or_equal_after_cmp,
  greater_after_cmp,
)

pub ruleset overflows = (overflow_after_add, overflow_after_sub)
