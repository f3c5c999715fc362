-- Rows of words modulo 2^w: mixes of them, and what elimination makes of them.
use Rattle.std.specs.Prelude.{◌≡◌, ℕ, zero, suc, ◌+◌, ◌*◌, ◌/◌, ◌%◌, ◌^◌, ◌<◌, List, [], ◌∷◌, length, slice_index}
use Rattle.std.specs.List.{AllByRecursion}
use Rattle.node_forms.specs.Sums.{SameWord}

-- the sum of what f gives to the items, each times its weight, by number
abbrev pub mix : {X : Type 0} → (X → ℕ) → List X → (ℕ → ℕ) → ℕ
mix f [] weights = 0
mix f (x ∷ xs) weights = weights zero * f x + mix f xs (λ k. weights (suc k))

-- the word of a row at a place
abbrev pub word : ℕ → List ℕ → ℕ
word j row = slice_index row j

-- these weights make the target of the rows, in the first n places
abbrev pub Makes : ℕ → ℕ → List (List ℕ) → List ℕ → (ℕ → ℕ) → Type 0
Makes w n rows target weights = (j : ℕ) → j < n → SameWord w (mix (word j) rows weights) (word j target)

-- Behind its first n words a row has a weight for each part. Its words and the parts, with these weights, add up to
-- those of the base.
abbrev pub AddsUp : ℕ → ℕ → List (List ℕ) → List ℕ → List ℕ → Type 0
AddsUp w n parts base row =
    (j : ℕ) → j < n → SameWord w (word j row + mix (word j) parts (λ k. word (n + k) row)) (word j base)

-- the first n words have 2^power as a factor
abbrev pub IsMultiple : ℕ → ℕ → List ℕ → Type 0
IsMultiple n power row = (j : ℕ) → j < n → word j row % 2 ^ power ≡ 0

-- the word at a place has 2^power, but not 2^(power + 1), as a factor
abbrev pub IsOddAt : ℕ → List ℕ → ℕ → Type 0
IsOddAt power row j = word j row / 2 ^ power % 2 ≡ 1

-- none of the first n words has bit `power`
abbrev pub IsEven : ℕ → ℕ → List ℕ → Type 0
IsEven n power row = (j : ℕ) → j < n → word j row / 2 ^ power % 2 ≡ 0

-- a row to which a multiple of another one was added, so that its word at a place is 0
pub record IsCleared (pivot : List ℕ) (place : ℕ) (before after : List ℕ) : Type 0 where
  pub length : length after ≡ length before
  pub cleared : SameWord 64 (word place after) 0
  pub times : ℕ
  pub sum : (j : ℕ) → SameWord 64 (word j after) (word j before + times * word j pivot)

-- What is left of parts and a base in the first n places: rows with 2^power as a factor, and a target, from which the
-- parts that were taken make the base. Where some weights of the parts make the base, some of the rows make the target.
pub record IsReduced (w n power : ℕ) (parts : List (List ℕ)) (base : List ℕ) (rows : List (List ℕ)) (target : List ℕ) : Type 0 where
  pub long : AllByRecursion (λ row. length row ≡ length base) rows
  pub length : length target ≡ length base
  pub multiples : AllByRecursion (IsMultiple n power) rows
  pub taken : AllByRecursion (AddsUp w n parts []) rows
  pub made : AddsUp w n parts base target
  pub complete : (weights : ℕ → ℕ) → Makes w n parts base weights → (left : ℕ → ℕ) × Makes w n rows target left
