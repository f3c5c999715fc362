-- The bounds of chains. (That of one product stands in Ranks.)
use Rattle.std.specs.Prelude.{ℕ, ◌+◌, ◌*◌, List, fold, max}

-- the bound of two links in turn
abbrev pub joined_bound : ℕ → ℕ → ℕ
joined_bound k l = k * l + max k l

-- the bound of a chain, its links joined from the left
abbrev pub composed_bound : List ℕ → ℕ
composed_bound ks = fold joined_bound 0 ks
