-- Numbers by their bits, and the bits of sums and orders.
use Rattle.std.proofs.Common.{◌≡◌, ◌↔◌, ◌⊎◌, ℕ, zero, suc, ◌+◌, ◌-◌, ◌*◌, ◌%◌, ◌^◌, ◌<◌, ◌≤◌, ◌==◌, ◌&&◌, ◌||◌, Bool, true, false, [], ◌∷◌, refl, sym, ◌∙◌, ap, subst, arith, inl, inr}
use Rattle.std.specs.Prelude.{not, nat_lt}
use Rattle.std.proofs.lemmas.Bool.{cases_Bool, cases_lt, eqb-true, eq-eqb, ne_eqb, eqb-false}
use Rattle.std.proofs.Math.Nat.{add-mod_right, add-mul-mod_self_left, mod-eq_of_lt}
use Rattle.insn_semantics.specs.Words as words
use Rattle.clause_gates.specs.Gates.{is_odd, majority}
use Rattle.clause_gates.proofs.GateLaws.{is_same}
use Rattle.clause_words.specs.Numbers.{number_of}

pub number_below : (f : ℕ → Bool) (w : ℕ) → number_of f w < 2 ^ w
number_below f zero = omega arith
number_below f (suc w) = by_bit (f w) (number_of f w) w (number_below f w)
  where
    by_bit : (b : Bool) (n w : ℕ) → n < 2 ^ w → n + 2 ^ w * words.bit b < 2 ^ suc w
    by_bit true n w h = omega arith
    by_bit false n w h = omega arith

pub number_same : (f g : ℕ → Bool) (w : ℕ) → ((k : ℕ) → k < w → f k ≡ g k) → number_of f w ≡ number_of g w
number_same f g zero h = refl
number_same f g (suc w) h =
    let low : number_of f w ≡ number_of g w = number_same f g w (λ k b. h k (omega arith)) in
    let top : f w ≡ g w = h w (omega arith) in
    rw (low, top) refl

-- two words of one number and one highest bit
split : (x y : Bool) (m n p : ℕ) → m < p → n < p → m + p * words.bit x ≡ n + p * words.bit y → (m ≡ n) × (x ≡ y)
split true true m n p a b e = (omega arith, refl)
split true false m n p a b e = absurd (omega arith)
split false true m n p a b e = absurd (omega arith)
split false false m n p a b e = (omega arith, refl)

-- words of one number have the same bits
pub bits_same : (f g : ℕ → Bool) (w : ℕ) → number_of f w ≡ number_of g w → (k : ℕ) → k < w → f k ≡ g k
bits_same f g zero e k b = absurd (omega arith)
bits_same f g (suc w) e k b =
    let both : (number_of f w ≡ number_of g w) × (f w ≡ g w) =
    split (f w) (g w) (number_of f w) (number_of g w) (2 ^ w) (number_below f w) (number_below g w) e in
    elim (cases_lt k w) [
      | inl lower ↦ bits_same f g w both.0 k lower
      | inr upper ↦ let last : w ≡ k = omega arith in subst (λ (j : ℕ). f j ≡ g j) last both.1
    ]

-- the carry into a column, and the bit of a sum
abbrev pub carry_into : (ℕ → Bool) → (ℕ → Bool) → ℕ → Bool
carry_into a b zero = false
carry_into a b (suc k) = majority (a k) (b k) (carry_into a b k)

abbrev pub sum_bit : (ℕ → Bool) → (ℕ → Bool) → ℕ → Bool
sum_bit a b k = is_odd (a k ∷ b k ∷ carry_into a b k ∷ [])

-- one more column of a sum
column_sum : (x y c : Bool) (m n s p : ℕ) → m + n ≡ s + p * words.bit c
    → (m + p * words.bit x) + (n + p * words.bit y)
    ≡ (s + p * words.bit (is_odd (x ∷ y ∷ c ∷ []))) + (p + p) * words.bit (majority x y c)
column_sum true true true m n s p e = omega arith
column_sum true true false m n s p e = omega arith
column_sum true false true m n s p e = omega arith
column_sum true false false m n s p e = omega arith
column_sum false true true m n s p e = omega arith
column_sum false true false m n s p e = omega arith
column_sum false false true m n s p e = omega arith
column_sum false false false m n s p e = omega arith

sum_split : (a b : ℕ → Bool) (w : ℕ) → number_of a w + number_of b w ≡ number_of (sum_bit a b) w + 2 ^ w * words.bit (carry_into a b w)
sum_split a b zero = refl
sum_split a b (suc w) =
    let double : 2 ^ suc w ≡ 2 ^ w + 2 ^ w = omega arith in
    rw double (column_sum (a w) (b w) (carry_into a b w) (number_of a w) (number_of b w) (number_of (sum_bit a b) w) (2 ^ w) (sum_split a b w))

-- a number below p with a multiple of p
low_part : (n p : ℕ) (c : Bool) → n < p → (n + p * words.bit c) % p ≡ n
low_part n p c h = add-mul-mod_self_left n p (words.bit c) ∙ mod-eq_of_lt h

-- the sum, modulo 2^w
pub sum_number : (a b : ℕ → Bool) (w : ℕ) → number_of (sum_bit a b) w ≡ words.plus w (number_of a w) (number_of b w)
sum_number a b w =
    sym (ap (λ (n : ℕ). n % 2 ^ w) (sum_split a b w)
    ∙ low_part (number_of (sum_bit a b) w) (2 ^ w) (carry_into a b w) (number_below (sum_bit a b) w))

-- a number below twice p, modulo p
abbrev ReducedOnce : ℕ → ℕ → ℕ → Type 0
ReducedOnce p x m = ((x < p) × (m ≡ x)) ⊎ ((p ≤ x) × (m + p ≡ x))

reduced_once : (p x : ℕ) → x < p + p → ReducedOnce p x (x % p)
reduced_once p x h = elim (cases_lt x p) [
  | inl lower ↦ inl (lower, mod-eq_of_lt lower)
  | inr upper ↦
      let rest : x - p < p = omega arith in
      let sum : x ≡ (x - p) + p = omega arith in
      let low : x % p ≡ x - p = ap (λ (n : ℕ). n % p) sum ∙ once (x - p) p rest in
      inr (upper, omega arith)
]
  where
    once : (n p : ℕ) → n < p → (n + p) % p ≡ n
    once n p h = add-mod_right n p ∙ mod-eq_of_lt h

-- a sum that gives the first is a difference
pub difference : (p a b r : ℕ) → a < p → b < p → r < p → (a ≡ (r + b) % p) ↔ (r ≡ (a + (p - b)) % p)
difference p a b r x y z =
    by_cases ((r + b) % p) ((a + (p - b)) % p) (reduced_once p (r + b) (omega arith)) (reduced_once p (a + (p - b)) (omega arith))
  where
    by_cases : (s t : ℕ) → ReducedOnce p (r + b) s → ReducedOnce p (a + (p - b)) t → (a ≡ s) ↔ (r ≡ t)
    by_cases s t (inl h) (inl k) = (λ e. omega arith, λ e. omega arith)
    by_cases s t (inl h) (inr k) = (λ e. omega arith, λ e. omega arith)
    by_cases s t (inr h) (inl k) = (λ e. omega arith, λ e. omega arith)
    by_cases s t (inr h) (inr k) = (λ e. omega arith, λ e. omega arith)

-- whether the lowest k + 1 bits of a are below those of b
abbrev pub below_bits : (ℕ → Bool) → (ℕ → Bool) → ℕ → Bool
below_bits a b zero = not (a 0) && b 0
below_bits a b (suc k) = majority (not (a (suc k))) (b (suc k)) (below_bits a b k)

order_true : (m n : ℕ) → m < n → nat_lt m n ≡ true
order_true m n h = grind arith

order_false : (m n : ℕ) → n ≤ m → nat_lt m n ≡ false
order_false m n h = grind arith

-- two pairs of numbers in one order
same_order : (a b m n : ℕ) → (a < b → m < n) → (m < n → a < b) → nat_lt a b ≡ nat_lt m n
same_order a b m n f g = elim (cases_lt a b) [
  | inl l ↦ order_true a b l ∙ sym (order_true m n (f l))
  | inr u ↦ order_false a b u ∙ sym (order_false m n (not_less (λ h. let l : a < b = g h in omega arith)))
]
  where
    not_less : (m < n → ⊥) → n ≤ m
    not_less never = elim (cases_lt m n) [ inl h ↦ absurd (never h) | inr h ↦ h ]

alike : (a b m n : ℕ) → (a ≡ b → m ≡ n) → (m ≡ n → a ≡ b) → (a == b) ≡ (m == n)
alike a b m n f g = elim (cases_Bool (a == b)) [
  | inl e ↦ e ∙ sym (eq-eqb m n (f (eqb-true a b e)))
  | inr e ↦ e ∙ sym (ne_eqb m n (λ h. eqb-false a b e (g h)))
]

or_false : (c : Bool) → (c || false) ≡ c
or_false true = refl
or_false false = refl

and_true' : (c : Bool) → (c && true) ≡ c
and_true' true = refl
and_true' false = refl

and_false' : (c : Bool) → (c && false) ≡ false
and_false' true = refl
and_false' false = refl

-- one more bit of an order
column_order : (x y c : Bool) (m n p : ℕ) → m < p → n < p → c ≡ nat_lt m n
    → majority (not x) y c ≡ nat_lt (m + p * words.bit x) (n + p * words.bit y)
column_order true true c m n p a b e = alike c m n p e
  where
    alike : (c : Bool) (m n p : ℕ) → c ≡ nat_lt m n → c ≡ nat_lt (m + p * 1) (n + p * 1)
    alike c m n p e = e ∙ same_order m n (m + p * 1) (n + p * 1) (λ h. omega arith) (λ h. omega arith)
column_order true false c m n p a b e = sym (order_false (m + p * 1) (n + p * 0) (omega arith))
column_order false true c m n p a b e = sym (order_true (m + p * 0) (n + p * 1) (omega arith))
column_order false false c m n p a b e = or_false c ∙ e ∙ same_order m n (m + p * 0) (n + p * 0) (λ h. omega arith) (λ h. omega arith)

pub below_number : (a b : ℕ → Bool) (k : ℕ) → below_bits a b k ≡ nat_lt (number_of a (suc k)) (number_of b (suc k))
below_number a b zero = first (a 0) (b 0)
  where
    first : (x y : Bool) → (not x && y) ≡ nat_lt (0 + 2 ^ 0 * words.bit x) (0 + 2 ^ 0 * words.bit y)
    first true true = refl
    first true false = refl
    first false true = refl
    first false false = refl
below_number a b (suc k) =
    column_order (a (suc k)) (b (suc k)) (below_bits a b k) (number_of a (suc k)) (number_of b (suc k)) (2 ^ suc k)
    (number_below a (suc k)) (number_below b (suc k)) (below_number a b k)

-- the order by the sign: the highest bits exchanged
pub signed_split : (x y : Bool) (m n p : ℕ) → m < p → n < p
    → nat_lt (m + p * words.bit y) (n + p * words.bit x)
    ≡ nat_lt ((m + p * words.bit x + p) % (p + p)) ((n + p * words.bit y + p) % (p + p))
signed_split x y m n p a b =
    rw (turned x m p a, turned y n p b) (by_bits x y)
  where
    turned : (x : Bool) (m p : ℕ) → m < p → (m + p * words.bit x + p) % (p + p) ≡ m + p * words.bit (not x)
    turned true m p a =
        elim (reduced_once (p + p) (m + p * 1 + p) (omega arith)) [ inl h ↦ absurd (omega arith) | inr h ↦ omega arith ]
    turned false m p a = let e : m + p * 0 + p ≡ m + p * 1 = omega arith in mod-eq_of_lt (omega arith) ∙ e

    by_bits : (x y : Bool) → nat_lt (m + p * words.bit y) (n + p * words.bit x) ≡ nat_lt (m + p * words.bit (not x)) (n + p * words.bit (not y))
    by_bits true true = same_order (m + p * 1) (n + p * 1) (m + p * 0) (n + p * 0) (λ h. omega arith) (λ h. omega arith)
    by_bits true false = refl
    by_bits false true = refl
    by_bits false false = same_order (m + p * 0) (n + p * 0) (m + p * 1) (n + p * 1) (λ h. omega arith) (λ h. omega arith)

-- whether all of the lowest w are true
abbrev pub all_below : (ℕ → Bool) → ℕ → Bool
all_below f zero = true
all_below f (suc w) = all_below f w && f w

pub same_number : (a b : ℕ → Bool) (w : ℕ) → all_below (λ k. is_same (a k) (b k)) w ≡ (number_of a w == number_of b w)
same_number a b zero = refl
same_number a b (suc w) =
    column_same (a w) (b w) (all_below (λ k. is_same (a k) (b k)) w) (number_of a w) (number_of b w) (2 ^ w)
    (number_below a w) (number_below b w) (same_number a b w)
  where
    column_same : (x y c : Bool) (m n p : ℕ) → m < p → n < p → c ≡ (m == n)
        → (c && is_same x y) ≡ (m + p * words.bit x == n + p * words.bit y)
    column_same true true c m n p a b e = and_true' c ∙ e ∙ alike m n (m + p * 1) (n + p * 1) (λ h. omega arith) (λ h. omega arith)
    column_same true false c m n p a b e = and_false' c ∙ sym (ne_eqb (m + p * 1) (n + p * 0) (λ h. omega arith))
    column_same false true c m n p a b e = and_false' c ∙ sym (ne_eqb (m + p * 0) (n + p * 1) (λ h. omega arith))
    column_same false false c m n p a b e = and_true' c ∙ e ∙ alike m n (m + p * 0) (n + p * 0) (λ h. omega arith) (λ h. omega arith)

-- a number of one bit
pub one_bit : (f : ℕ → Bool) → number_of f 1 ≡ words.bit (f 0)
one_bit f = by_bit (f 0)
  where
    by_bit : (b : Bool) → 0 + 2 ^ 0 * words.bit b ≡ words.bit b
    by_bit true = refl
    by_bit false = refl

pub bit_same : (a b : Bool) → words.bit a ≡ words.bit b → a ≡ b
bit_same true true e = refl
bit_same true false e = absurd (omega arith)
bit_same false true e = absurd (omega arith)
bit_same false false e = refl
