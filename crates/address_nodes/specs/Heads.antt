-- The first term of terms by falling numbers.
use Rattle.std.specs.Prelude.{ℕ, ◌+◌, ◌==◌, List, [], ◌∷◌, if◌then◌else◌}
use Rattle.address_nodes.specs.Multiples.{Term}

-- the number behind that of the first term, 0 where there is none
abbrev pub head_number : List Term → ℕ
head_number [] = 0
head_number (p ∷ ps) = p.0.0 + 1

-- the coefficient of the first term, where it has this atom, and else 0
abbrev pub head_weight : ℕ → List Term → ℕ
head_weight atom [] = 0
head_weight atom (p ∷ ps) = if p.0.0 == atom then p.1 else 0

-- the terms without the first, where it has this atom
abbrev pub without_head : ℕ → List Term → List Term
without_head atom [] = []
without_head atom (p ∷ ps) = if p.0.0 == atom then ps else p ∷ ps
