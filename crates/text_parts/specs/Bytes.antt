-- Bytes as texts: two digits of base 16 each.
use Rattle.std.specs.Prelude.{◌≡◌, ℕ, ◌+◌, ◌*◌, ◌/◌, ◌%◌, Bool, true, false, ◌&&◌, ◌==◌, List, [], ◌∷◌, ◌++◌, length}
use Rattle.std.specs.Char.{digit_value, is_digit}
use Rattle.std.specs.Fmt.{digit_glyph}
use Rattle.std.specs.List.{list_all}

-- two digits of base 16 a byte, of either case
abbrev pub AreHexBytes : List ℕ → List ℕ → Type 0
AreHexBytes text [] = text ≡ []
AreHexBytes text (b ∷ bs) =
    (high low : ℕ) × (rest : List ℕ) × (text ≡ high ∷ low ∷ rest) × (is_digit high 16 ≡ true) × (is_digit low 16 ≡ true)
    × (b ≡ 16 * digit_value high + digit_value low) × AreHexBytes rest bs

-- digits of base 16, two a byte
abbrev pub is_hex_text : List ℕ → Bool
is_hex_text text = (length text % 2 == 0) && list_all (λ b. is_digit b 16) text

-- the bytes that they spell
abbrev pub decoded : List ℕ → List ℕ
decoded [] = []
decoded (x ∷ []) = []
decoded (x ∷ y ∷ rest) = (16 * digit_value x + digit_value y) ∷ decoded rest

-- a byte: two lower-case digits of base 16
abbrev pub byte_text : ℕ → List ℕ
byte_text byte = digit_glyph false (byte / 16) ∷ digit_glyph false (byte % 16) ∷ []

-- bytes, one after another
abbrev pub bytes_text : List ℕ → List ℕ
bytes_text [] = []
bytes_text (byte ∷ bytes) = byte_text byte ++ bytes_text bytes
