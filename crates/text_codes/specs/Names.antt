-- Tables of names, none of which begins another.
use Rattle.std.specs.Prelude.{◌≡◌, ℕ, suc, ◌<◌, ◌≤◌, ◌+◌, Bool, true, false, not, ◌&&◌, ◌==◌, if◌then◌else◌, List, [], ◌∷◌}
use Rattle.std.specs.List.{list_all}

-- whether one of two texts begins the other
abbrev pub begins_either : List ℕ → List ℕ → Bool
begins_either [] ys = true
begins_either xs [] = true
begins_either (x ∷ xs) (y ∷ ys) = if x == y then begins_either xs ys else false

-- whether none of these names begins another
abbrev pub are_apart : List (List ℕ) → Bool
are_apart [] = true
are_apart (name ∷ names) = list_all (λ other. not (begins_either name other)) names && are_apart names

-- the names from this number on are the values of a function
abbrev pub AreNames : (ℕ → List ℕ) → ℕ → List (List ℕ) → Type 0
AreNames f n [] = Unit {0}
AreNames f n (name ∷ names) = (f n ≡ name) × AreNames f (suc n) names

-- so many numbers from this on
abbrev pub IsAmong : ℕ → ℕ → ℕ → Type 0
IsAmong first count n = (first ≤ n) × (n < first + count)
