-- What the code computes of a text that it was told to read.
use Rattle.std.specs.Prelude.{ℕ, ◌+◌, ◌-◌, ◌^◌, Bool, false, not, ◌==◌, min, if◌then◌else◌, List, [], ◌∷◌, length, take, count_by, codes, Option, Some, None, Result, Ok, Err}
use Rattle.text_codes.specs.Readers.{Reading, word_at}
use Rattle.text_parts.specs.Cuts.{first_part}
use Rattle.text_parts.specs.Numbers.{capped, decimal_of}
use Rattle.certificate_file.specs.declared.certificate.Certificate.{Certificate}
use Rattle.certificate_file.specs.declared.refusal.CertRefusal.{CertRefusal}
use Rattle.certificate_file.specs.declared.refusal.CertRefusal.TheVariants.{Version, Truncated, BadLine}
use Rattle.certificate_file.specs.TreeReading.{certificate_at}

-- whether it is a number other than 1
abbrev pub is_other_number : Option ℕ → Bool
is_other_number None = false
is_other_number (Some n) = not (n == 1)

-- whether behind the first word a number other than 1 stands alone on its line
abbrev pub is_other_behind : Reading (Unit {0}) → Bool
is_other_behind (Ok x) = is_other_number (capped (decimal_of (first_part 10 x.1).0))
is_other_behind (Err left) = false

-- whether the text names another version
unfoldable pub is_other_version : List ℕ → Bool
is_other_version text = is_other_behind (word_at (codes "align-certificate ") text)

-- the number of the line in which this is what is left of the text
abbrev pub line_number : List ℕ → List ℕ → ℕ
line_number text left = min (count_by (λ b. b == 10) (take (length text - length left) text) + 1) (2 ^ 32 - 1)

-- why a text is refused of which this is left
abbrev pub refusal_of : List ℕ → List ℕ → CertRefusal
refusal_of text [] = Truncated
refusal_of text (b ∷ left) = BadLine (line_number text (b ∷ left))

-- what was read, where it is the whole text
abbrev pub whole_of : List ℕ → Certificate → List ℕ → Result Certificate CertRefusal
whole_of text c [] = Ok c
whole_of text c (b ∷ rest) = Err (BadLine (line_number text (b ∷ rest)))

-- what a text is answered, by what its reader found
abbrev pub judged : List ℕ → Reading Certificate → Result Certificate CertRefusal
judged text (Ok x) = whole_of text x.0 x.1
judged text (Err left) = Err (refusal_of text left)

-- the answer to a text
abbrev pub answer_of : List ℕ → Result Certificate CertRefusal
answer_of text = if is_other_version text then Err Version else judged text (certificate_at text)
