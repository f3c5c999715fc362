-- Texts cut at a byte, and the words of a line, which single spaces part.
use Rattle.std.specs.Prelude.{ℕ, ◌==◌, if◌then◌else◌, List, [], ◌∷◌, Option, Some, None, is_none, option_and_then}
use Rattle.std.specs.List.{slice_split}

infixl 10 ◌>>=◌
-- what follows, where there is a value
abbrev pub ◌>>=◌ : {A B : Type 0} → Option A → (A → Option B) → Option B
o >>= f = option_and_then f o

-- what stands behind this first byte
unfoldable pub after_byte : ℕ → List ℕ → Option (List ℕ)
after_byte byte [] = None
after_byte byte (b ∷ rest) = if b == byte then Some rest else None

-- a byte before the first of two parts
abbrev pub onto_front : ℕ → Option (List ℕ × List ℕ) → Option (List ℕ × List ℕ)
onto_front b None = None
onto_front b (Some found) = Some (b ∷ found.0, found.1)

-- the parts before and behind the first such byte
unfoldable pub cut_at : ℕ → List ℕ → Option (List ℕ × List ℕ)
cut_at byte [] = None
cut_at byte (b ∷ bs) = if b == byte then Some ([], bs) else onto_front b (cut_at byte bs)

-- the parts of a text between these bytes
abbrev pub parts : ℕ → List ℕ → List (List ℕ)
parts byte text = slice_split (λ b. b == byte) text

-- the part before a cut and the part behind it, or the whole text
abbrev pub first_by : List ℕ → Option (List ℕ × List ℕ) → List ℕ × Option (List ℕ)
first_by text None = (text, None)
first_by text (Some found) = (found.0, Some found.1)

-- the part before the first such byte, and what stands behind it, where there is one
unfoldable pub first_part : ℕ → List ℕ → List ℕ × Option (List ℕ)
first_part byte text = first_by text (cut_at byte text)

-- the parts of what is left
abbrev pub parts_left : ℕ → Option (List ℕ) → List (List ℕ)
parts_left byte None = []
parts_left byte (Some text) = parts byte text

-- one word: the text, where no space stands in it
unfoldable pub one_word : List ℕ → Option (List ℕ)
one_word text = if is_none (cut_at 32 text) then Some text else None

-- two words
unfoldable pub two_words : List ℕ → Option (List ℕ × List ℕ)
two_words text = do
  found ← cut_at 32 text
  last ← one_word found.1
  Some (found.0, last)

-- three of them
unfoldable pub three_words : List ℕ → Option (List ℕ × List ℕ × List ℕ)
three_words text = do
  found ← cut_at 32 text
  more ← two_words found.1
  Some (found.0, more.0, more.1)

-- four of them
unfoldable pub four_words : List ℕ → Option (List ℕ × List ℕ × List ℕ × List ℕ)
four_words text = do
  found ← cut_at 32 text
  more ← three_words found.1
  Some (found.0, more.0, more.1, more.2)

-- five of them
unfoldable pub five_words : List ℕ → Option (List ℕ × List ℕ × List ℕ × List ℕ × List ℕ)
five_words text = do
  found ← cut_at 32 text
  more ← four_words found.1
  Some (found.0, more.0, more.1, more.2, more.3)
