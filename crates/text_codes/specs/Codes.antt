-- Texts of values, none of which begins another, and what a text says of the value at its front. A printing function f
-- gives the text of a value, and a condition F says which values there are.
use Rattle.std.specs.Prelude.{◌≡◌, ℕ, List, [], ◌∷◌, ◌++◌, Result, Ok, Err}

-- no text of a value begins with the good part: not as it stands where nothing is left, not with the next byte otherwise
abbrev pub IsWrong : {V : Type 0} → (V → List ℕ) → (V → Type 0) → List ℕ → List ℕ → Type 0
IsWrong {V = V} f F good [] = (w : V) (y : List ℕ) → F w → good ≡ f w ++ y → ⊥
IsWrong {V = V} f F good (b ∷ left) = (w : V) (x y : List ℕ) → F w → good ++ b ∷ x ≡ f w ++ y → ⊥

-- no value stands at the front: the part before what is left begins the text of some value and is not all of it, and no
-- text of a value goes on as this one does
pub record Stops {V : Type 0} (f : V → List ℕ) (F : V → Type 0) (text left : List ℕ) : Type 0 where
  pub good : List ℕ
  pub parts : text ≡ good ++ left
  pub value : V
  pub fits : F value
  pub next : ℕ
  pub more : List ℕ
  pub begins : f value ≡ good ++ next ∷ more
  pub wrong : IsWrong f F good left

-- this value stands at the front with this behind it, and no other does
pub record Finds {V : Type 0} (f : V → List ℕ) (F : V → Type 0) (text : List ℕ) (v : V) (rest : List ℕ) : Type 0 where
  pub fits : F v
  pub parts : text ≡ f v ++ rest
  pub only : (w : V) (y : List ℕ) → F w → text ≡ f w ++ y → (w ≡ v) × (y ≡ rest)

-- a text was read rightly: as a value with what stands behind it, or as what is left from the first wrong byte on,
-- which is nothing where the text is too short
abbrev pub IsRead : {V : Type 0} → (V → List ℕ) → (V → Type 0) → List ℕ → Result (V × List ℕ) (List ℕ) → Type 0
IsRead f F text (Ok x) = Finds f F text x.0 x.1
IsRead f F text (Err left) = Stops f F text left

-- this reads every text rightly
pub record Reads {V : Type 0} (f : V → List ℕ) (F : V → Type 0) (r : List ℕ → Result (V × List ℕ) (List ℕ)) : Type 0 where
  pub right : (text : List ℕ) → IsRead f F text (r text)
