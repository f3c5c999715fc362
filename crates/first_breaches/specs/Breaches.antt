-- Rules in order, each of which is to be kept at every place, and the first breach of them.
use Rattle.std.specs.Prelude.{◌≡◌, ◌⊎◌, ℕ, ◌<◌, List, ◌∷◌, ◌++◌, Option, MatchOption}
use Rattle.std.specs.List.{AllByRecursion}

-- where a rule is kept or broken: two numbers, of which unused ones are 0
abbrev pub Place : Type 0
Place = ℕ × ℕ

-- a place comes before another: by its first number, and where these are equal by its second one
abbrev pub IsBefore : Place → Place → Type 0
IsBefore a b = (a.0 < b.0) ⊎ ((a.0 ≡ b.0) × (a.1 < b.1))

-- a rule is broken at this place, and kept at each place before it
pub record IsFirstPlace (IsKept : Place → Type 0) (place : Place) : Type 0 where
  pub broken : IsKept place → ⊥
  pub before : (at : Place) → IsBefore at place → IsKept at

-- the first place at which a rule is broken; none where it is kept at every place
abbrev pub FindsPlace : (Place → Type 0) → Option Place → Type 0
FindsPlace IsKept found = MatchOption found ((at : Place) → IsKept at) (IsFirstPlace IsKept)

-- a rule is broken at this number, and kept at each number below it
pub record IsFirstNumber (IsKept : ℕ → Type 0) (number : ℕ) : Type 0 where
  pub broken : IsKept number → ⊥
  pub before : (n : ℕ) → n < number → IsKept n

-- the first number at which a rule is broken; none where it is kept at every number
abbrev pub FindsNumber : (ℕ → Type 0) → Option ℕ → Type 0
FindsNumber IsKept found = MatchOption found ((n : ℕ) → IsKept n) (IsFirstNumber IsKept)

-- The first breach of rules in order: the rule is broken at this place and kept at each place before it, and each rule before
-- it is kept at every place.
pub record IsFirstBreach {Rule : Type 0} (order : List Rule) (Keeps : Rule → Place → Type 0) (rule : Rule) (place : Place)
    : Type 0 where
  pub earlier : List Rule
  pub later : List Rule
  pub in_order : order ≡ earlier ++ rule ∷ later
  pub kept : AllByRecursion (λ other. (at : Place) → Keeps other at) earlier
  pub first : IsFirstPlace (Keeps rule) place
