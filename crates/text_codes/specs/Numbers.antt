-- Decimal numbers in texts, each with the byte that ends it.
use Rattle.std.specs.Prelude.{◌≡◌, ℕ, ◌+◌, ◌*◌, ◌<◌, ◌≤◌, ◌^◌, Bool, true, false, ◌&&◌, nat_lt, nat_le, if◌then◌else◌, MatchBool, List, [], ◌∷◌, ◌++◌, Ok, Err, decimal}
use Rattle.std.specs.Char.{digit_value}
use Rattle.text_codes.specs.Readers.{Reading, made_at, choose_at}

-- a number and the byte that ends it
abbrev pub ended : ℕ × ℕ → List ℕ
ended v = decimal v.0 ++ v.1 ∷ []

-- a number from low on and below the limit, ended by a byte that may end it
pub record IsEnded (limit low : ℕ) (ends : ℕ → ℕ → Bool) (v : ℕ × ℕ) : Type 0 where
  pub least : low ≤ v.0
  pub below : v.0 < limit
  pub last : ends v.0 v.1 ≡ true

-- a range of numbers from 0 or 1 on in which each number may be ended by some byte, and none by a digit
pub record IsRange (limit low : ℕ) (ends : ℕ → ℕ → Bool) : Type 0 where
  pub least : low ≤ 1
  pub long : 10 ≤ limit
  pub short : limit ≤ 2 ^ 64
  pub some : (n : ℕ) → (c : ℕ) × (ends n c ≡ true)
  pub apart : (n c : ℕ) → ends n c ≡ true → 10 ≤ digit_value c

-- whether a number goes on with this byte: it is a digit behind no leading 0, and the number stays below the limit
abbrev pub goes_on : ℕ → ℕ → ℕ → Bool
goes_on limit n b = nat_lt (digit_value b) 10 && (nat_lt 0 n && nat_lt (n * 10 + digit_value b) limit)

-- the rest of a number of which the digits of n were read
unfoldable pub digits_at : ℕ → (ℕ → ℕ → Bool) → ℕ → List ℕ → Reading (ℕ × ℕ)
digits_at limit ends n [] = Err []
digits_at limit ends n (b ∷ text) =
    if goes_on limit n b then digits_at limit ends (n * 10 + digit_value b) text
    else if ends n b then Ok ((n, b), text) else Err (b ∷ text)

-- a number and the byte that ends it
unfoldable pub number_at : ℕ → ℕ → (ℕ → ℕ → Bool) → List ℕ → Reading (ℕ × ℕ)
number_at limit low ends [] = Err []
number_at limit low ends (b ∷ text) =
    if nat_lt (digit_value b) 10 && nat_le low (digit_value b) then digits_at limit ends (digit_value b) text else Err (b ∷ text)

-- a number from low on and below the limit
abbrev pub IsWithin : ℕ → ℕ → ℕ → Type 0
IsWithin limit low n = (low ≤ n) × (n < limit)

-- a number that only one byte may end
abbrev pub settled_at : ℕ → ℕ → (ℕ → ℕ → Bool) → List ℕ → Reading ℕ
settled_at limit low ends text = made_at (λ (v : ℕ × ℕ). v.0) (number_at limit low ends) text

-- a number with its sign, true for a negative one, and the byte that ends it
abbrev pub signed_text : Bool × (ℕ × ℕ) → List ℕ
signed_text v = if v.0 then 45 ∷ ended v.1 else ended v.1

-- a number above minus this and below that, with no sign before 0
abbrev pub IsSigned : ℕ → ℕ → (ℕ → ℕ → Bool) → Bool × (ℕ × ℕ) → Type 0
IsSigned below above ends v = MatchBool v.0 (IsEnded below 1 ends v.1) (IsEnded above 0 ends v.1)

-- a number with its sign
abbrev pub signed_at : ℕ → ℕ → (ℕ → ℕ → Bool) → List ℕ → Reading (Bool × (ℕ × ℕ))
signed_at below above ends text =
    choose_at 45 (made_at (λ (v : ℕ × ℕ). (true, v)) (number_at below 1 ends))
    (made_at (λ (v : ℕ × ℕ). (false, v)) (number_at above 0 ends)) text
