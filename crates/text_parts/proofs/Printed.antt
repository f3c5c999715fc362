-- What is written of a number or of bytes is read as them.
use Rattle.std.proofs.Common.{◌≡◌, ℕ, zero, suc, ◌+◌, ◌*◌, ◌/◌, ◌%◌, ◌^◌, ◌<◌, inl, inr, true, false, ltb, List, [], ◌∷◌, length, get_or, Some, slice_get, decimal, refl, sym, ap, ◌∙◌, subst, arith}
use Rattle.std.specs.Char.{digit_value, is_digit}
use Rattle.std.specs.Fmt.{digit_glyph, digits}
use Rattle.std.specs.List.{AllByRecursion}
use Rattle.std.specs.Str.Parse.{AllDigits, digits_value}
use Rattle.std.proofs.lemmas.Bool.{lt-ltb}
use Rattle.std.proofs.lemmas.Bool.Decides.{nat_tests}
use Rattle.std.proofs.lemmas.Fmt.{decimal-digits_value, decimal_digit, decimal_is_IsNumeral, digits_is_IsNumeral, first_decimal}
use Rattle.std.proofs.lemmas.Option.{get_or_from_slice_get, slice_get-get_or}
use Rattle.std.proofs.lemmas.Str.Parse.{IsNumeralModel, numerals_by_value, tells_digits}
use Rattle.text_parts.specs.Bytes.{AreHexBytes, bytes_text}
use Rattle.text_parts.specs.Numbers.{IsDecimal, IsHexadecimal, amount_of, value_text}
use Rattle.text_parts.proofs.NumberTexts.{amount-only}

-- a decimal text of n

zero_alone : (n : ℕ) → n < 2 ^ 64 → slice_get (decimal n) 0 ≡ Some 48 → length (decimal n) ≡ 1
zero_alone zero small first = ap length (decimal_digit 0 (omega arith))
zero_alone (suc n) small first =
    let high = first_decimal (suc n) (omega arith) small in
    let same : get_or (decimal (suc n)) 0 0 ≡ 48 = get_or_from_slice_get (decimal (suc n)) 0 48 0 first in
    absurd (omega (arith, high, same))

-- what is written of a number is a decimal text of it
pub decimal-is : (n : ℕ) → n < 2 ^ 64 → IsDecimal (decimal n) n
decimal-is n small =
    let is = decimal_is_IsNumeral n small in
    record { digits = is.0; leading = zero_alone n small; value = sym is.1 }

own : IsNumeralModel (AllDigits 10) (digits_value 10)
own = numerals_by_value (AllDigits 10) tells_digits

-- a number has one decimal text
pub decimal-one : (text : List ℕ) (n : ℕ) → n < 2 ^ 64 → IsDecimal text n → text ≡ decimal n
decimal-one text n small is =
    let first : slice_get text 0 ≡ Some (get_or text 0 0) = slice_get-get_or text 0 0 is.digits.0 in
    let short : get_or text 0 0 ≡ 48 → length text ≡ 1 = λ e. is.leading (first ∙ ap (λ (b : ℕ). Some b) e) in
    let value_small : digits_value 10 text < 2 ^ 64 = subst (λ (m : ℕ). m < 2 ^ 64) is.value small in
    sym (decimal-digits_value own text is.digits.1 is.digits.0 short value_small) ∙ ap decimal (sym is.value)

-- what is written of a value is a hexadecimal text of it
pub value-is : (n : ℕ) → n < 2 ^ 64 → IsHexadecimal (value_text n) n
unfolding value_text
value-is n small =
    let is = digits_is_IsNumeral 16 false (omega arith) (omega arith) n (wide n small) in
    record { behind = digits 16 false n; spelled = refl; digits = is.0; value = sym is.1 }
  where
    wide : (n : ℕ) → n < 2 ^ 64 → n < 16 ^ 64
    wide n small = omega arith

-- both are read as the number
pub decimal-read : (n : ℕ) → n < 2 ^ 64 → amount_of (decimal n) ≡ Some n
decimal-read n small = amount-only (decimal n) n (inl (decimal-is n small))

pub value-read : (n : ℕ) → n < 2 ^ 64 → amount_of (value_text n) ≡ Some n
value-read n small = amount-only (value_text n) n (inr (value-is n small))

-- bytes

glyph-value : (d : ℕ) → d < 16 → digit_value (digit_glyph false d) ≡ d
glyph-value d small = grind (arith, nat_tests)

glyph-digit : (d : ℕ) → d < 16 → is_digit (digit_glyph false d) 16 ≡ true
glyph-digit d small = ap (λ (v : ℕ). ltb v 16) (glyph-value d small) ∙ lt-ltb d 16 small

-- what is written of bytes spells them
pub bytes-are : (bytes : List ℕ) → AllByRecursion (λ b. b < 256) bytes → AreHexBytes (bytes_text bytes) bytes
bytes-are [] small = refl
bytes-are (b ∷ bs) small =
    let high : b / 16 < 16 = omega (arith, small.0) in
    let low : b % 16 < 16 = omega arith in
    let whole : b ≡ 16 * digit_value (digit_glyph false (b / 16)) + digit_value (digit_glyph false (b % 16)) =
    omega (arith, glyph-value (b / 16) high, glyph-value (b % 16) low) in
    (digit_glyph false (b / 16), digit_glyph false (b % 16), bytes_text bs, refl, glyph-digit (b / 16) high, glyph-digit (b % 16) low, whole, bytes-are bs small.1)
