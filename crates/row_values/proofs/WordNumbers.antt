-- The numbers of words whose bits are those of other words.
use Rattle.std.proofs.Common.{◌≡◌, ℕ, zero, suc, ◌+◌, ◌-◌, ◌*◌, ◌/◌, ◌%◌, ◌^◌, ◌<◌, ◌≤◌, ◌==◌, ◌&&◌, ◌||◌, Bool, true, false, [], ◌∷◌, bit_and, bit_or, bit_xor, min, nat_lt, not, refl, sym, ◌∙◌, ap, ap₂, inl, inr, arith, if◌then◌else◌, one-add}
use Rattle.std.proofs.lemmas.Bool.{cases_lt, lt-ltb, le-ltb}
use Rattle.std.proofs.lemmas.Nat.{and_block, mod-pow-add, mod_below, mod_low, or_block, pow-add, pow_pos, shl_below, shr_high, xor_block}
use Rattle.std.proofs.Math.Nat.{min-eq_left, min-eq_right}
use Rattle.insn_semantics.specs.Words as words
use Rattle.clause_gates.specs.Gates.{is_odd}
use Rattle.clause_words.specs.Numbers.{number_of}
use Rattle.clause_words.proofs.Numbers.{number_below, number_same, one_bit}
use Rattle.clause_words.proofs.ProductNumbers.{number_split}

-- bits that are all the same
alike_number : (b : Bool) (w : ℕ) → number_of (λ k. b) w ≡ words.bit b * (2 ^ w - 1)
alike_number b zero = by_bit b
  where
    by_bit : (b : Bool) → 0 ≡ words.bit b * (2 ^ 0 - 1)
    by_bit true = refl
    by_bit false = refl
alike_number b (suc w) =
    ap (λ (n : ℕ). n + 2 ^ w * words.bit b) (alike_number b w) ∙ one_more b (2 ^ w) (2 ^ suc w) (pow_pos w) (omega arith)
  where
    one_more : (b : Bool) (p q : ℕ) → 0 < p → q ≡ 2 * p → words.bit b * (p - 1) + p * words.bit b ≡ words.bit b * (q - 1)
    one_more true p q h e = omega arith
    one_more false p q h e = omega arith

none_number : (w : ℕ) → number_of (λ k. false) w ≡ 0
none_number w = alike_number false w ∙ none (2 ^ w - 1)
  where
    none : (n : ℕ) → 0 * n ≡ 0
    none n = omega arith

-- a word is its high bits in front of its low ones
high_low : (f : ℕ → Bool) (w n m : ℕ) → w ≡ n + m
    → number_of f w ≡ words.concatenation n (number_of (λ k. f (n + k)) m) (number_of f n)
high_low f w n m e =
    ap (number_of f) e ∙ number_split f n m ∙ turned (number_of f n) (2 ^ n) (number_of (λ k. f (n + k)) m)
  where
    turned : (l p h : ℕ) → l + p * h ≡ h * p + l
    turned l p h = omega arith

low_bits : (f : ℕ → Bool) (w n : ℕ) → n ≤ w → number_of f w % 2 ^ n ≡ number_of f n
low_bits f w n h =
    ap (λ (z : ℕ). z % 2 ^ n) (high_low f w n (w - n) (omega arith))
    ∙ mod_low (number_of (λ k. f (n + k)) (w - n)) n (number_of f n) (number_below f n)

high_bits : (f : ℕ → Bool) (w n : ℕ) → n ≤ w → number_of f w / 2 ^ n ≡ number_of (λ k. f (n + k)) (w - n)
high_bits f w n h =
    ap (λ (z : ℕ). z / 2 ^ n) (high_low f w n (w - n) (omega arith))
    ∙ shr_high (number_of (λ k. f (n + k)) (w - n)) n (number_of f n) (number_below f n)

-- bits of which the high ones are 0
low_number : (f : ℕ → Bool) (w n : ℕ) → n ≤ w → ((k : ℕ) → f (n + k) ≡ false) → number_of f w ≡ number_of f n
low_number f w n h none =
    high_low f w n (w - n) (omega arith)
    ∙ ap (λ (z : ℕ). z * 2 ^ n + number_of f n)
    (number_same (λ k. f (n + k)) (λ k. false) (w - n) (λ k b. none k) ∙ none_number (w - n))
    ∙ plain (2 ^ n) (number_of f n)
  where
    plain : (p l : ℕ) → 0 * p + l ≡ l
    plain p l = omega arith

-- the bits of a number
parity : (n : ℕ) → words.bit (n % 2 == 1) ≡ n % 2
parity n = by_rest (n % 2) (mod_below n 2 (omega arith))
  where
    by_rest : (m : ℕ) → m < 2 → words.bit (m == 1) ≡ m
    by_rest zero h = refl
    by_rest (suc zero) h = refl
    by_rest (suc (suc m)) h = absurd (omega arith)

pub bits_number : (n w : ℕ) → number_of (λ k. n / 2 ^ k % 2 == 1) w ≡ n % 2 ^ w
bits_number n zero = omega arith
bits_number n (suc w) =
    ap₂ (λ (l b : ℕ). l + 2 ^ w * b) (bits_number n w) (parity (n / 2 ^ w))
    ∙ turned (n % 2 ^ w) (2 ^ w) (n / 2 ^ w % 2)
    ∙ sym (ap (λ (k : ℕ). n % 2 ^ k) (sym (one-add w)) ∙ mod-pow-add n 1 w)
  where
    turned : (l p b : ℕ) → l + p * b ≡ b * p + l
    turned l p b = omega arith

-- an operator bit by bit
module _ (op : ℕ → ℕ → ℕ) (of : Bool → Bool → Bool)
    (bits : (a b : Bool) → words.bit (of a b) ≡ op (words.bit a) (words.bit b))
    (block : (k a b r s : ℕ) → r < 2 ^ k → s < 2 ^ k → op (a * 2 ^ k + r) (b * 2 ^ k + s) ≡ op a b * 2 ^ k + op r s)
    (none : 0 ≡ op 0 0) where
  bitwise_number : (f g : ℕ → Bool) (w : ℕ) → number_of (λ k. of (f k) (g k)) w ≡ op (number_of f w) (number_of g w)
  bitwise_number f g zero = none
  bitwise_number f g (suc w) =
      ap₂ (λ (l b : ℕ). l + 2 ^ w * b) (bitwise_number f g w) (bits (f w) (g w))
      ∙ turned (op (number_of f w) (number_of g w)) (2 ^ w) (op (words.bit (f w)) (words.bit (g w)))
      ∙ sym (block w (words.bit (f w)) (words.bit (g w)) (number_of f w) (number_of g w) (number_below f w) (number_below g w))
      ∙ ap₂ op (sym (turned (number_of f w) (2 ^ w) (words.bit (f w)))) (sym (turned (number_of g w) (2 ^ w) (words.bit (g w))))
    where
      turned : (l p b : ℕ) → l + p * b ≡ b * p + l
      turned l p b = omega arith

pub and_number : (f g : ℕ → Bool) (w : ℕ) → number_of (λ k. f k && g k) w ≡ bit_and (number_of f w) (number_of g w)
and_number = bitwise_number bit_and (λ a b. a && b) bits and_block refl
  where
    bits : (a b : Bool) → words.bit (a && b) ≡ bit_and (words.bit a) (words.bit b)
    bits true true = refl
    bits true false = refl
    bits false true = refl
    bits false false = refl

pub or_number : (f g : ℕ → Bool) (w : ℕ) → number_of (λ k. f k || g k) w ≡ bit_or (number_of f w) (number_of g w)
or_number = bitwise_number bit_or (λ a b. a || b) bits or_block refl
  where
    bits : (a b : Bool) → words.bit (a || b) ≡ bit_or (words.bit a) (words.bit b)
    bits true true = refl
    bits true false = refl
    bits false true = refl
    bits false false = refl

pub xor_number : (f g : ℕ → Bool) (w : ℕ)
    → number_of (λ k. is_odd (f k ∷ g k ∷ [])) w ≡ bit_xor (number_of f w) (number_of g w)
xor_number = bitwise_number bit_xor (λ a b. is_odd (a ∷ b ∷ [])) bits xor_block refl
  where
    bits : (a b : Bool) → words.bit (is_odd (a ∷ b ∷ [])) ≡ bit_xor (words.bit a) (words.bit b)
    bits true true = refl
    bits true false = refl
    bits false true = refl
    bits false false = refl

-- each bit turned
pub not_number : (f : ℕ → Bool) (w : ℕ) → number_of (λ k. not (f k)) w ≡ words.complement w (number_of f w)
not_number f w = rest (number_of (λ k. not (f k)) w) (number_of f w) (2 ^ w) (whole w)
  where
    rest : (s t p : ℕ) → s + t + 1 ≡ p → s ≡ p - 1 - t
    rest s t p e = omega arith

    one_more : (b : Bool) (s t p q : ℕ) → s + t + 1 ≡ p → q ≡ 2 * p → (s + p * words.bit (not b)) + (t + p * words.bit b) + 1 ≡ q
    one_more true s t p q e d = omega arith
    one_more false s t p q e d = omega arith

    whole : (w : ℕ) → number_of (λ k. not (f k)) w + number_of f w + 1 ≡ 2 ^ w
    whole zero = refl
    whole (suc w) =
        one_more (f w) (number_of (λ k. not (f k)) w) (number_of f w) (2 ^ w) (2 ^ suc w) (whole w) (omega arith)

-- a word in front of another
pub joined_number : (f g : ℕ → Bool) (n m : ℕ)
    → number_of (λ k. if nat_lt k m then g k else f (k - m)) (n + m) ≡ words.concatenation m (number_of f n) (number_of g m)
joined_number f g n m =
    high_low (λ k. if nat_lt k m then g k else f (k - m)) (n + m) m n (omega arith)
    ∙ ap₂ (words.concatenation m)
    (number_same (λ k. if nat_lt (m + k) m then g (m + k) else f (m + k - m)) f n high)
    (number_same (λ k. if nat_lt k m then g k else f (k - m)) g m low)
  where
    high : (k : ℕ) → k < n → (if nat_lt (m + k) m then g (m + k) else f (m + k - m)) ≡ f k
    high k b = let e : m + k - m ≡ k = omega arith in rw (le-ltb (m + k) m (omega arith)) (ap f e)

    low : (k : ℕ) → k < m → (if nat_lt k m then g k else f (k - m)) ≡ g k
    low k b = rw (lt-ltb k m b) refl

-- shifts, with zeros
pub left_number : (f : ℕ → Bool) (w k : ℕ) → k ≤ w
    → number_of (λ j. if nat_lt j k then false else f (j - k)) w ≡ words.left_shift w (number_of f w) k
left_number f w k h =
    ap (number_of (λ j. if nat_lt j k then false else f (j - k))) size
    ∙ joined_number f (λ j. false) (w - k) k
    ∙ ap (λ (z : ℕ). number_of f (w - k) * 2 ^ k + z) (none_number k)
    ∙ plain (number_of f (w - k) * 2 ^ k)
    ∙ sym (mod_low (number_of (λ j. f (w - k + j)) k) w (number_of f (w - k) * 2 ^ k) (below (shl_below (number_of f (w - k)) (w - k) k (number_below f (w - k)))))
    ∙ ap (λ (z : ℕ). z % 2 ^ w) (sym (whole (number_of (λ j. f (w - k + j)) k) (number_of f (w - k)) (2 ^ (w - k)) (2 ^ k) (2 ^ w) (power ∙ pow-add 2 (w - k) k)))
    ∙ ap (λ (z : ℕ). z * 2 ^ k % 2 ^ w) (sym (high_low f w (w - k) k size))
  where
    size : w ≡ w - k + k
    size = omega arith

    power : 2 ^ w ≡ 2 ^ (w - k + k)
    power = ap (λ (n : ℕ). 2 ^ n) size

    below : number_of f (w - k) * 2 ^ k < 2 ^ (w - k + k) → number_of f (w - k) * 2 ^ k < 2 ^ w
    below b = omega (arith, b, power)

    plain : (n : ℕ) → n + 0 ≡ n
    plain n = omega arith

    whole : (t l p q o : ℕ) → o ≡ p * q → (t * p + l) * q ≡ t * o + l * q
    whole t l p q o e = spread ∙ ap (λ (z : ℕ). t * z + l * q) (sym e)
      where
        spread : (t * p + l) * q ≡ t * (p * q) + l * q
        spread = omega arith

pub right_number : (f : ℕ → Bool) (w k : ℕ) → k ≤ w
    → number_of (λ j. if nat_lt (j + k) w then f (j + k) else false) w ≡ words.right_shift (number_of f w) k
right_number f w k h =
    low_number (λ j. if nat_lt (j + k) w then f (j + k) else false) w (w - k) (omega arith) above
    ∙ number_same (λ j. if nat_lt (j + k) w then f (j + k) else false) (λ j. f (k + j)) (w - k) low
    ∙ sym (high_bits f w k h)
  where
    above : (j : ℕ) → (if nat_lt (w - k + j + k) w then f (w - k + j + k) else false) ≡ false
    above j = rw (le-ltb (w - k + j + k) w (omega arith)) refl

    low : (j : ℕ) → j < w - k → (if nat_lt (j + k) w then f (j + k) else false) ≡ f (k + j)
    low j b = let e : j + k ≡ k + j = omega arith in rw (lt-ltb (j + k) w (omega arith)) (ap f e)

-- bits from a place on
pub cut_number : (f : ℕ → Bool) (w k n : ℕ) → k + n ≤ w → number_of (λ j. f (j + k)) n ≡ words.cut (number_of f w) k n
cut_number f w k n h =
    number_same (λ j. f (j + k)) (λ j. f (k + j)) n (λ j b. ap f (turned j))
    ∙ sym (ap (λ (z : ℕ). z % 2 ^ n) (high_bits f w k (omega arith)) ∙ low_bits (λ j. f (k + j)) (w - k) n (omega arith))
  where
    turned : (j : ℕ) → j + k ≡ k + j
    turned j = omega arith

-- the highest bit
top_number : (f : ℕ → Bool) (m : ℕ) → 0 < m → words.top m (number_of f m) ≡ words.bit (f (m - 1))
top_number f m h =
    ap (λ (z : ℕ). z % 2) (high_bits f m (m - 1) (omega arith) ∙ ap (number_of (λ k. f (m - 1 + k))) one ∙ one_bit (λ k. f (m - 1 + k)))
    ∙ ap (λ (z : ℕ). words.bit (f z) % 2) last
    ∙ by_bit (f (m - 1))
  where
    one : m - (m - 1) ≡ 1
    one = omega arith

    last : m - 1 + 0 ≡ m - 1
    last = omega arith

    by_bit : (b : Bool) → words.bit b % 2 ≡ words.bit b
    by_bit true = refl
    by_bit false = refl

-- to more bits by the sign
pub extended_number : (f : ℕ → Bool) (m n : ℕ) → 0 < m → m ≤ n
    → number_of (λ k. f (min k (m - 1))) n ≡ words.sign_extension m n (number_of f m)
extended_number f m n some h =
    high_low (λ k. f (min k (m - 1))) n m (n - m) (omega arith)
    ∙ ap₂ (words.concatenation m)
    (number_same (λ k. f (min (m + k) (m - 1))) (λ k. f (m - 1)) (n - m) (λ k b. ap f (min-eq_right (omega arith))) ∙ alike_number (f (m - 1)) (n - m))
    (number_same (λ k. f (min k (m - 1))) f m (λ k b. ap f (min-eq_left (omega arith))))
    ∙ scaled (f (m - 1)) (2 ^ m) (2 ^ (n - m)) (2 ^ n) (number_of f m) (pow_pos (n - m)) (power ∙ pow-add 2 m (n - m))
    ∙ ap (λ (z : ℕ). z * (2 ^ n - 2 ^ m) + number_of f m) (sym (top_number f m some))
  where
    power : 2 ^ n ≡ 2 ^ (m + (n - m))
    power = let e : n ≡ m + (n - m) = omega arith in ap (λ (z : ℕ). 2 ^ z) e

    scaled : (b : Bool) (p q o a : ℕ) → 0 < q → o ≡ p * q → words.bit b * (q - 1) * p + a ≡ words.bit b * (o - p) + a
    scaled false p q o a s e = omega arith
    scaled true p q o a s e = ap (λ (z : ℕ). z + a) (less (q - 1) (e ∙ ap (λ (z : ℕ). p * z) whole))
      where
        whole : q ≡ (q - 1) + 1
        whole = omega arith

        less : (d : ℕ) → o ≡ p * (d + 1) → 1 * d * p ≡ 1 * (o - p)
        less d e = omega arith

pub signed_number : (f : ℕ → Bool) (w k : ℕ) → 0 < k → k < w
    → number_of (λ j. f (min (j + k) (w - 1))) w ≡ words.signed_shift w (number_of f w) k
signed_number f w k some h =
    number_same (λ j. f (min (j + k) (w - 1))) (λ j. f (k + min j (w - k - 1))) w (λ j b. ap f (moved j))
    ∙ extended_number (λ j. f (k + j)) (w - k) w (omega arith) (omega arith)
    ∙ ap (words.sign_extension (w - k) w) (sym (high_bits f w k (omega arith)))
  where
    moved : (j : ℕ) → min (j + k) (w - 1) ≡ k + min j (w - k - 1)
    moved j = elim (cases_lt j (w - k)) [
      | inl low ↦ min-eq_left (omega arith) ∙ turned ∙ ap (λ (z : ℕ). k + z) (sym (min-eq_left (omega arith)))
      | inr high ↦ min-eq_right (omega arith) ∙ last ∙ ap (λ (z : ℕ). k + z) (sym (min-eq_right (omega arith)))
    ]
      where
        turned : j + k ≡ k + j
        turned = omega arith

        last : w - 1 ≡ k + (w - k - 1)
        last = omega arith

-- one of two words
pub chosen_number : (c : Bool) (f g : ℕ → Bool) (w : ℕ)
    → number_of (λ k. if c then f k else g k) w ≡ words.choice (words.bit c) (number_of f w) (number_of g w)
chosen_number true f g w = refl
chosen_number false f g w = refl
