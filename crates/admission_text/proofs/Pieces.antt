-- Parts of texts, put back before what was cut.
use Rattle.std.proofs.Common.{ℕ, Bool, List, ◌++◌, Option, Some, None}
use Rattle.text_parts.specs.Cuts.{◌>>=◌}

-- a list before the first of two parts with a sign between
abbrev pub all_before : List ℕ → Option (List ℕ × Bool × List ℕ) → Option (List ℕ × Bool × List ℕ)
all_before front None = None
all_before front (Some found) = Some (front ++ found.0, found.1, found.2)

-- items before those that are read
abbrev pub before_those : {X : Type 0} → List X → Option (List X) → Option (List X)
before_those xs left = left >>= λ more. Some (xs ++ more)
