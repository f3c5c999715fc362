-- Lanes: words of 8, 16, 32 or 64 bits over bytes, the lowest byte first.
use Rattle.std.specs.Prelude.{ℕ, ◌+◌, ◌*◌, ◌/◌, ◌%◌, ◌^◌, ◌==◌, ◌≤◌, Bool, ◌||◌, List, [], ◌∷◌, ◌++◌, IsTrue, map, take, drop}
use Rattle.std.specs.List.{range_with_len}

-- the widths of lanes
abbrev pub is_lane_width : ℕ → Bool
is_lane_width w = w == 8 || (w == 16 || (w == 32 || w == 64))

-- lane i of w bits lies inside n bytes
abbrev pub IsLane : ℕ → ℕ → ℕ → Type 0
IsLane w i n = IsTrue (is_lane_width w) × (i * (w / 8) + w / 8 ≤ n)

-- bytes as a number, the lowest first
abbrev pub number : List ℕ → ℕ
number [] = 0
number (b ∷ bs) = b + 256 * number bs

-- byte k of a number, the lowest being byte 0
abbrev pub byte_of : ℕ → ℕ → ℕ
byte_of v k = v / 2 ^ (8 * k) % 256

-- the n lowest bytes of a number, the lowest first
unfoldable pub bytes_of : ℕ → ℕ → List ℕ
bytes_of n v = map (byte_of v) (range_with_len 0 n)

-- lane i of w bits: the number of its bytes
abbrev pub lane : ℕ → ℕ → List ℕ → ℕ
lane w i bs = number (take (w / 8) (drop (i * (w / 8)) bs))

-- the bytes with lane i of w bits being v, and all others as they are
abbrev pub with_lane : ℕ → ℕ → ℕ → List ℕ → List ℕ
with_lane w i v bs = take (i * (w / 8)) bs ++ (bytes_of (w / 8) v ++ drop (i * (w / 8) + w / 8) bs)
