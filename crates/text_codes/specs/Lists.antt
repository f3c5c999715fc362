-- Lists of values in texts.
use Rattle.std.specs.Prelude.{◌≡◌, ℕ, suc, List, [], ◌∷◌, ◌++◌, length}
use Rattle.std.specs.List.{AllByRecursion}

-- the texts of values, one behind another
unfoldable pub texts_of : {V : Type 0} → (V → List ℕ) → List V → List ℕ
texts_of f [] = []
texts_of f (v ∷ vs) = f v ++ texts_of f vs

-- the byte that ends what stands before these on a line: a newline before nothing, a space before more
abbrev pub end_before : {V : Type 0} → List V → ℕ
end_before [] = 10
end_before (v ∷ vs) = 32

-- the texts of values up to the end of a line, each ended by a space, and the last by a newline; f is told the byte
unfoldable pub line_of : {V : Type 0} → (ℕ → V → List ℕ) → List V → List ℕ
line_of f [] = []
line_of f (v ∷ vs) = f (end_before vs) v ++ line_of f vs

-- the texts of values up to an end that is no value
unfoldable pub until : {V : Type 0} → (V → List ℕ) → V → List V → List ℕ
until f end [] = f end
until f end (v ∷ vs) = f v ++ until f end vs

-- so many values, each of this kind
abbrev pub AreListed : {V : Type 0} → (V → Type 0) → ℕ → List V → Type 0
AreListed F n vs = AllByRecursion F vs × (length vs ≡ n)

-- the texts of values that are numbered from a first number on
unfoldable pub numbered_of : {V : Type 0} → (ℕ → V → List ℕ) → ℕ → List V → List ℕ
numbered_of f first [] = []
numbered_of f first (v ∷ vs) = f first v ++ numbered_of f (suc first) vs

-- each of these is as its number asks, numbered from a first number on
abbrev pub EachNumbered : {V : Type 0} → (ℕ → V → Type 0) → ℕ → List V → Type 0
EachNumbered F first [] = Unit {0}
EachNumbered F first (v ∷ vs) = F first v × EachNumbered F (suc first) vs
