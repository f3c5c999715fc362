-- Words as signed numbers (two's complement), and which signed numbers have a word.
use Rattle.std.specs.Prelude.{ℕ, ℤ, pos, ◌-◌, ◌^◌, ◌-ℤ◌, Bool, ◌&&◌, int_le, int_lt, nat_lt, if◌then◌else◌}

-- a word of w bits with its highest bit 0 is its number; with it 1, its number less 2^w
abbrev pub signed_number : ℕ → ℕ → ℤ
signed_number w a = if nat_lt a (2 ^ (w - 1)) then pos a else pos a -ℤ pos (2 ^ w)

-- whether a signed number has a word of w bits: it is at least -2^(w - 1) and below 2^(w - 1)
abbrev pub has_word : ℕ → ℤ → Bool
has_word w z = int_le (pos 0 -ℤ pos (2 ^ (w - 1))) z && int_lt z (pos (2 ^ (w - 1)))
