-- Decimal numbers by their digits.
use Rattle.std.proofs.Common.{◌≡◌, ◌⊎◌, inl, inr, ℕ, suc, zero, ◌+◌, ◌*◌, ◌/◌, ◌%◌, ◌<◌, ◌≤◌, ◌^◌, List, [], ◌∷◌, ◌++◌, length, get_or, refl, sym, ap, ◌∙◌, arith}
use Rattle.std.specs.Prelude.{decimal}
use Rattle.std.specs.Char.{digit_value}
use Rattle.std.specs.Str.Parse.{AllDigits, digits_value, digits_value_after}
use Rattle.std.proofs.lemmas.Fmt.{decimal_is_IsNumeral, decimal_digit, decimal_step, first_decimal}
use Rattle.std.proofs.lemmas.Str.{digit_value_digit}
use Rattle.std.proofs.lemmas.Str.Parse.{digit_from_value}

pub all_digits : (n : ℕ) → n < 2 ^ 64 → AllDigits 10 (decimal n)
all_digits n h = (decimal_is_IsNumeral n h).0.1

pub value_of_decimal : (n : ℕ) → n < 2 ^ 64 → digits_value 10 (decimal n) ≡ n
value_of_decimal n h = (decimal_is_IsNumeral n h).1

-- a digit is 48 and its value
pub digit_is : (b : ℕ) → digit_value b < 10 → 48 + digit_value b ≡ b
digit_is b h = let e = digit_value_digit b (digit_from_value b h) in omega arith

-- one digit
pub decimal_one : (b : ℕ) → digit_value b < 10 → decimal (digit_value b) ≡ b ∷ []
decimal_one b h = decimal_digit (digit_value b) h ∙ ap (λ (c : ℕ). c ∷ []) (digit_is b h)

quotient : (n d : ℕ) → d < 10 → (n * 10 + d) / 10 ≡ n
quotient n d h = omega arith

remainder : (n d : ℕ) → d < 10 → (n * 10 + d) % 10 ≡ d
remainder n d h = omega arith

-- one digit more
pub decimal_more : (n b : ℕ) → 0 < n → digit_value b < 10 → n * 10 + digit_value b < 2 ^ 64
    → decimal (n * 10 + digit_value b) ≡ decimal n ++ b ∷ []
decimal_more n b some h fits =
    decimal_step (n * 10 + digit_value b) (omega arith) fits
    ∙ (ap (λ (m : ℕ). decimal m ++ (48 + (n * 10 + digit_value b) % 10) ∷ []) (quotient n (digit_value b) h)
    ∙ (ap (λ (d : ℕ). decimal n ++ (48 + d) ∷ []) (remainder n (digit_value b) h)
    ∙ ap (λ (c : ℕ). decimal n ++ c ∷ []) (digit_is b h)))

-- a text that begins with digits and goes on otherwise, against digits that go on with no digit
pub within : (xs t zs : List ℕ) (c : ℕ) (y : List ℕ) → AllDigits 10 xs → 10 ≤ digit_value c → xs ++ t ≡ zs ++ c ∷ y
    → (r : List ℕ) × ((zs ≡ xs ++ r) × (t ≡ r ++ c ∷ y))
within [] t zs c y all apart e = (zs, (refl, e))
within (x ∷ xs) t [] c y all apart e = absurd (let is = heads x c (xs ++ t) y e in omega (arith, all.0, ap digit_value is))
  where
    heads : (b c : ℕ) (x y : List ℕ) → b ∷ x ≡ c ∷ y → b ≡ c
    heads b c x y e = cc
within (x ∷ xs) t (z ∷ zs) c y all apart e =
    let again = within xs t zs c y all.1 apart (tails x z (xs ++ t) (zs ++ c ∷ y) e) in
    (again.0, (ap (λ (d : ℕ). d ∷ zs) (sym (heads x z (xs ++ t) (zs ++ c ∷ y) e)) ∙ ap (λ (l : List ℕ). x ∷ l) again.1.0, again.1.1))
  where
    heads : (b c : ℕ) (x y : List ℕ) → b ∷ x ≡ c ∷ y → b ≡ c
    heads b c x y e = cc

    tails : (b c : ℕ) (x y : List ℕ) → b ∷ x ≡ c ∷ y → x ≡ y
    tails b c x y e = cc

value_grows : (n : ℕ) (ds : List ℕ) → n ≤ digits_value_after 10 n ds
value_grows n [] = omega arith
value_grows n (d ∷ ds) = let h = value_grows (n * 10 + digit_value d) ds in omega arith

value_append : (n : ℕ) (xs ys : List ℕ) → digits_value_after 10 n (xs ++ ys) ≡ digits_value_after 10 (digits_value_after 10 n xs) ys
value_append n [] ys = refl
value_append n (x ∷ xs) ys = value_append (n * 10 + digit_value x) xs ys

-- a number that begins as n and a digit b goes on, is at least n and that digit
pub decimal_longer : (m n b : ℕ) (r : List ℕ) → m < 2 ^ 64 → n < 2 ^ 64 → decimal m ≡ decimal n ++ b ∷ r
    → n * 10 + digit_value b ≤ m
decimal_longer m n b r low small e =
    let value : digits_value 10 (decimal m) ≡ digits_value_after 10 (digits_value 10 (decimal n)) (b ∷ r) =
    ap (λ (l : List ℕ). digits_value 10 l) e ∙ value_append 0 (decimal n) (b ∷ r) in
    let known = value_of_decimal m low in let front = value_of_decimal n small in
    let is : m ≡ digits_value_after 10 (n * 10 + digit_value b) r =
    sym known ∙ (value ∙ ap (λ (k : ℕ). digits_value_after 10 (k * 10 + digit_value b) r) front) in
    let grown = value_grows (n * 10 + digit_value b) r in omega arith

-- no number goes on behind a leading 0
pub decimal_zero : (m b : ℕ) (r : List ℕ) → m < 2 ^ 64 → decimal m ≡ decimal 0 ++ b ∷ r → ⊥
decimal_zero m b r low e =
    let zero_is : decimal 0 ≡ 48 ∷ [] = decimal_digit 0 (omega arith) in
    let is : decimal m ≡ 48 ∷ (b ∷ r) = e ∙ ap (λ (l : List ℕ). l ++ b ∷ r) zero_is in
    zero_or_more m is
  where
    zero_or_more : (k : ℕ) → decimal m ≡ 48 ∷ (b ∷ r) → ⊥
    zero_or_more k is = elim (cases m) [ inl z ↦ at_zero z is | inr s ↦ above s is ]
      where
        cases : (n : ℕ) → (n ≡ 0) ⊎ (0 < n)
        cases zero = inl refl
        cases (suc n) = inr (omega arith)

        at_zero : m ≡ 0 → decimal m ≡ 48 ∷ (b ∷ r) → ⊥
        at_zero z is =
            let one : length (decimal m) ≡ 1 = ap (λ (n : ℕ). length (decimal n)) z ∙ ap (λ (l : List ℕ). length l) (decimal_digit 0 (omega arith)) in
            let two : length (decimal m) ≡ length (48 ∷ (b ∷ r)) = ap (λ (l : List ℕ). length l) is in omega arith

        above : 0 < m → decimal m ≡ 48 ∷ (b ∷ r) → ⊥
        above s is = let f = first_decimal m s low in let g : get_or (decimal m) 0 0 ≡ 48 = ap (λ (l : List ℕ). get_or l 0 0) is in omega arith
