-- Numbers in the text of a certificate, each with the byte that ends it.
use Rattle.std.specs.Prelude.{ℕ, ◌<◌, ◌^◌, List, [], ◌∷◌, ◌++◌, length, decimal, ℤ, pos, negsuc}
use Rattle.std.specs.Fmt.{signed_decimal}
use Rattle.std.specs.List.{AllByRecursion}
use Rattle.text_codes.specs.Endings.{count_end}
use Rattle.text_codes.specs.Lists.{line_of, texts_of}

-- the bytes between words and between lines
abbrev pub space : ℕ
space = 32

-- the byte that ends a line
abbrev pub newline : ℕ
newline = 10

-- a number and the byte that ends it
abbrev pub number_text : ℕ → ℕ → List ℕ
number_text end n = decimal n ++ end ∷ []

-- a signed number and the byte that ends it
abbrev pub integer_text : ℕ → ℤ → List ℕ
integer_text end z = signed_decimal z ++ end ∷ []

-- the ranges of numbers
abbrev pub IsU32 : ℕ → Type 0
IsU32 n = n < 2 ^ 32

-- a number of 64 bits
abbrev pub IsU64 : ℕ → Type 0
IsU64 n = n < 2 ^ 64

-- a number of 64 bits with a sign
abbrev pub IsI64 : ℤ → Type 0
IsI64 (pos n) = n < 2 ^ 63
IsI64 (negsuc n) = n < 2 ^ 63

-- a number of 8 bits with a sign
abbrev pub IsI8 : ℤ → Type 0
IsI8 (pos n) = n < 128
IsI8 (negsuc n) = n < 128

-- a count up to the end of its line, and what is counted on lines of its own
abbrev pub lines_text : {V : Type 0} → (V → List ℕ) → List V → List ℕ
lines_text f vs = number_text newline (length vs) ++ texts_of f vs

-- a count, and what is counted behind it up to the end of the line
abbrev pub row_text : {V : Type 0} → (ℕ → V → List ℕ) → List V → List ℕ
row_text f vs = number_text (count_end (length vs)) (length vs) ++ line_of f vs

-- a list that is counted by a u64, each of it in its range
abbrev pub AreCounted : {V : Type 0} → (V → Type 0) → List V → Type 0
AreCounted F vs = IsU64 (length vs) × AllByRecursion F vs
