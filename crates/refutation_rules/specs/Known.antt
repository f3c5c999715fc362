-- What the steps of a refutation are judged by, and what is known at a step.
use Rattle.std.specs.Prelude.{ℕ, ◌==◌, ◌&&◌, ◌||◌, Bool, false, List, [], ◌∷◌, Option, Some, None, ℤ, pos, negsuc, slice_get, if◌then◌else◌}
use Rattle.std.specs.List.{list_any}
use Rattle.std.specs.Option.{option_and_then}
use Rattle.clauses.specs.declared.clause.Lit.{Lit}
use Rattle.node_values.specs.declared.node.Node.{Node}
use Rattle.resolution_chains.specs.Chains.{numbered}
use Rattle.refutation_rules.specs.declared.equation.Equation.{Equation}

-- What steps are judged by: the nodes, which of them are in the reach, the variable of each one's lowest bit, the
-- arguments of the equality of the reach whose bit a variable is, and for two bytes of memory of different sides the
-- node that a scratch line has their address.
pub record Ground : Type 0 where
  pub nodes : List Node
  pub is_in_reach : ℕ → Bool
  pub first : ℕ → ℕ
  pub equality_at : ℕ → Option Equation
  pub scratch_of : ℕ → ℕ → Option ℕ

-- What is known at a step: the clauses so far, and for each step so far the equation that it gave, if any.
pub record Known : Type 0 where
  pub clauses : List (List Lit)
  pub gave : List (Option Equation)

-- the equation of a unit clause: the arguments of an equality that it says to be 1
abbrev pub equation_of_clause : Ground → List Lit → Option Equation
equation_of_clause s (l ∷ []) = if l.neg then None else s.equality_at l.var
equation_of_clause s clause = None

-- The equation with a name: that of the clause with a number from 1, or with a negative number what the step of that
-- number gave.
abbrev pub equation_named : Ground → Known → ℤ → Option Equation
equation_named s k (pos n) = option_and_then (equation_of_clause s) (numbered k.clauses n)
equation_named s k (negsuc n) = option_and_then (λ given. given) (slice_get k.gave n)

-- whether an equation is one of two nodes, in either order
abbrev pub is_of : ℕ → ℕ → Option Equation → Bool
is_of i j None = false
is_of i j (Some p) = (p.left.0 == i && p.right.0 == j) || (p.left.0 == j && p.right.0 == i)

-- whether two nodes are one, or some known equation is of them
abbrev pub are_equal : Ground → Known → ℕ → ℕ → Bool
are_equal s k i j = (i == j) || (list_any (λ c. is_of i j (equation_of_clause s c)) k.clauses || list_any (is_of i j) k.gave)
