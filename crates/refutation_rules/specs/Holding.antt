-- What holds in an environment and in an assignment that reads it.
use Rattle.std.specs.Prelude.{◌≡◌, ℕ, ◌<◌, Bool, true, false, List, Option, Some, IsTrue, length, MatchOption}
use Rattle.std.specs.List.{AllByRecursion}
use Rattle.clauses.specs.Assignments.{IsClause, MeetsAll}
use Rattle.clause_words.specs.Numbers.{word_value}
use Rattle.node_values.specs.declared.node.Node.{Node}
use Rattle.node_values.specs.Sheets.{IsSheet, node_at, value_at, width_at}
use Rattle.node_values.specs.Values.{Environment}
use Rattle.duty_claims.specs.Needs.{address_of, is_start}
use Rattle.duty_claims.specs.Truth.{HasOneByteAt}
use Rattle.refutation_rules.specs.declared.equation.Equation.{Equation}
use Rattle.refutation_rules.specs.Known.{Known, Ground}

-- two nodes of a sheet have one width and one value
pub record IsTrueEquation (e : Environment) (ns : List Node) (p : Equation) : Type 0 where
  pub left : p.left.0 < length ns
  pub right : p.right.0 < length ns
  pub width : width_at ns p.left.0 ≡ width_at ns p.right.0
  pub value : value_at e ns p.left.0 ≡ value_at e ns p.right.0

-- a node of the reach that is a byte of memory
abbrev pub IsByte : Ground → ℕ → Type 0
IsByte s i = IsTrue (s.is_in_reach i) × IsTrue (is_start (node_at s.nodes i))

-- An assignment reads an environment: the number at the variables of each node of the reach is the node's value. Where
-- the bit of an equality is 1, its arguments are equal. Where the bit that a scratch line has an address is 0, both sides
-- have one byte there.
pub record Reads (e : Environment) (v : ℕ → Bool) (s : Ground) : Type 0 where
  pub sheet : IsSheet s.nodes
  pub inside : (i : ℕ) → IsTrue (s.is_in_reach i) → i < length s.nodes
  pub words : (i : ℕ) → IsTrue (s.is_in_reach i)
      → word_value v (width_at s.nodes i) (s.first i) ≡ value_at e s.nodes i
  pub equalities : (x : ℕ) (p : Equation) → s.equality_at x ≡ Some p → v x ≡ true → IsTrueEquation e s.nodes p
  pub scratch : (i j at : ℕ) → IsByte s i → IsByte s j → s.scratch_of i j ≡ Some at → v (s.first at) ≡ false
      → value_at e s.nodes (address_of (node_at s.nodes i)) ≡ value_at e s.nodes (address_of (node_at s.nodes j))
      → HasOneByteAt e (value_at e s.nodes (address_of (node_at s.nodes i)))

-- an equation that a step gave, if any, holds
abbrev pub GivenHolds : Environment → List Node → Option Equation → Type 0
GivenHolds e ns given = MatchOption given (Unit {0}) (IsTrueEquation e ns)

-- All that is known holds: the assignment meets the clauses, and the equations are true.
pub record IsHeld (e : Environment) (v : ℕ → Bool) (s : Ground) (k : Known) : Type 0 where
  pub ordered : AllByRecursion IsClause k.clauses
  pub clauses : MeetsAll v k.clauses
  pub gave : AllByRecursion (GivenHolds e s.nodes) k.gave
