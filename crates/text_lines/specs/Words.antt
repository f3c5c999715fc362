-- Names, blanks and words of a text.
use Rattle.std.specs.Prelude.{◌≡◌, ℕ, Bool, true, false, ◌&&◌, if◌then◌else◌, List, [], ◌∷◌, ◌++◌}
use Rattle.std.specs.List.{list_all}
use Rattle.text_lines.specs.Bytes.{is_blank, is_name_start, is_name_byte}

-- a name
abbrev pub IsName : List ℕ → Type 0
IsName [] = ⊥
IsName (b ∷ bs) = (is_name_start b ≡ true) × (list_all is_name_byte bs ≡ true)

-- whether it is a name
unfoldable pub is_name : List ℕ → Bool
is_name [] = false
is_name (b ∷ bs) = is_name_start b && list_all is_name_byte bs

-- the text neither begins nor ends with a blank
pub record IsTrimmed (text : List ℕ) : Type 0 where
  pub begins : (b : ℕ) (rest : List ℕ) → text ≡ b ∷ rest → is_blank b ≡ false
  pub ends : (front : List ℕ) (b : ℕ) → text ≡ front ++ b ∷ [] → is_blank b ≡ false

-- the text is another one with any blanks at both ends
pub record IsPadded (text inner : List ℕ) : Type 0 where
  pub left : List ℕ
  pub right : List ℕ
  pub spelled : text ≡ left ++ inner ++ right
  pub left_blank : list_all is_blank left ≡ true
  pub right_blank : list_all is_blank right ≡ true
  pub trimmed : IsTrimmed inner

-- a byte of a word
abbrev pub is_solid : ℕ → Bool
is_solid b = if is_blank b then false else true

-- the text begins with this word, which reaches to the first blank or to the end, and goes on with the rest
pub record HasWord (text word rest : List ℕ) : Type 0 where
  pub spelled : text ≡ word ++ rest
  pub solid : list_all is_solid word ≡ true
  pub cut : (b : ℕ) (more : List ℕ) → rest ≡ b ∷ more → is_blank b ≡ true

-- the bytes of the text up to the first that doesn't pass
unfoldable pub prefix_of : (ℕ → Bool) → List ℕ → List ℕ
prefix_of p [] = []
prefix_of p (b ∷ bs) = if p b then b ∷ prefix_of p bs else []

-- the bytes of the text from the first that doesn't pass on
unfoldable pub behind_prefix : (ℕ → Bool) → List ℕ → List ℕ
behind_prefix p [] = []
behind_prefix p (b ∷ bs) = if p b then behind_prefix p bs else b ∷ bs

-- the text without the blanks at its end
unfoldable pub trim_end : List ℕ → List ℕ
trim_end [] = []
trim_end (b ∷ bs) = if list_all is_blank (b ∷ bs) then [] else b ∷ trim_end bs

-- the text without the blanks at both ends
unfoldable pub trim : List ℕ → List ℕ
trim text = trim_end (behind_prefix is_blank text)
