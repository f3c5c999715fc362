-- Numbers as texts. `IsNumeral radix text` says that the text is one digit or more, and `digits_value radix text` is the
-- number that they write; a letter is a digit in either case.
use Rattle.std.specs.Prelude.{◌≡◌, ◌⊎◌, ℕ, ◌^◌, Bool, ◌&&◌, ◌==◌, nat_lt, nat_le, min, if◌then◌else◌, List, ◌++◌, length, Option, Some, None, slice_get, slice_index, codes, false}
use Rattle.std.specs.Char.{digit_value}
use Rattle.std.specs.Fmt.{digits}
use Rattle.std.specs.List.{list_all}
use Rattle.std.specs.Option.{option_map, option_or}
use Rattle.std.specs.Str.Parse.{IsNumeral, digits_value}
use Rattle.text_parts.specs.Cuts.{◌>>=◌, after_byte}

-- what such texts are

-- a decimal number: its first digit is 0 only where it is the only one
pub record IsDecimal (text : List ℕ) (n : ℕ) : Type 0 where
  pub digits : IsNumeral 10 text
  pub leading : slice_get text 0 ≡ Some 48 → length text ≡ 1
  pub value : n ≡ digits_value 10 text

-- `0x` and digits of base 16
pub record IsHexadecimal (text : List ℕ) (n : ℕ) : Type 0 where
  pub behind : List ℕ
  pub spelled : text ≡ codes "0x" ++ behind
  pub digits : IsNumeral 16 behind
  pub value : n ≡ digits_value 16 behind

-- a number without a sign
abbrev pub IsAmount : List ℕ → ℕ → Type 0
IsAmount text n = IsDecimal text n ⊎ IsHexadecimal text n

-- the number that such a text is

-- whether it is one digit of this radix or more
abbrev pub are_digits : ℕ → List ℕ → Bool
are_digits radix text = nat_lt 0 (length text) && list_all (λ b. nat_lt (digit_value b) radix) text

-- the number of digits of this radix
unfoldable pub digits_of : ℕ → List ℕ → Option ℕ
digits_of radix text = if are_digits radix text then Some (digits_value radix text) else None

-- the first digit is 0, and not the only one
abbrev pub has_leading_zero : List ℕ → Bool
has_leading_zero text = nat_lt 1 (length text) && (slice_index text 0 == 48)

-- the number of a decimal text
unfoldable pub decimal_of : List ℕ → Option ℕ
decimal_of text = if has_leading_zero text then None else digits_of 10 text

-- the number of `0x` and digits of base 16
unfoldable pub hexadecimal_of : List ℕ → Option ℕ
hexadecimal_of text = after_byte 48 text >>= λ rest. (after_byte 120 rest >>= digits_of 16)

-- the number of a text without a sign
unfoldable pub amount_of : List ℕ → Option ℕ
amount_of text = option_or (hexadecimal_of text) (decimal_of text)

-- bounds

-- a number, or 2^64 in place of each greater one
abbrev pub capped : Option ℕ → Option ℕ
capped number = option_map (λ n. min n (2 ^ 64)) number

-- a number that is no greater than this
abbrev pub within : ℕ → Option ℕ → Option ℕ
within greatest None = None
within greatest (Some n) = if nat_le n greatest then Some n else None

-- writing

-- `0x` and lower-case digits of base 16 with no leading zero
unfoldable pub value_text : ℕ → List ℕ
value_text n = codes "0x" ++ digits 16 false n
