-- What the code computes of digits: no number above 2^64 is kept.
use Rattle.std.specs.Prelude.{ℕ, ◌+◌, ◌*◌, ◌^◌, min, nat_lt, if◌then◌else◌, List, [], ◌∷◌, Option, Some, None}
use Rattle.std.specs.Char.{digit_value}

-- the number that digits make behind those that made n, as far as it is kept
unfoldable pub kept_from : ℕ → ℕ → List ℕ → Option ℕ
kept_from radix n [] = Some n
kept_from radix n (b ∷ bs) =
    if nat_lt (digit_value b) radix then kept_from radix (min (n * radix + digit_value b) (2 ^ 64)) bs else None
