-- What an assignment meets: literals, clauses, and all of a list of clauses.
use Rattle.std.specs.Prelude.{◌≡◌, ℕ, Bool, true, not, List, [], ◌∷◌, Option, Some, None, map, if◌then◌else◌}
use Rattle.std.specs.List.{AllByRecursion, list_any}
use Rattle.std.specs.List.Sorted.{IsStrictlyIncreasing}
use Rattle.clauses.specs.declared.clause.Lit.{Lit}

-- a clause: literals in order of variable, each variable once
abbrev pub IsClause : List Lit → Type 0
IsClause c = IsStrictlyIncreasing (map (λ l. l.var) c)

-- the value of a literal under an assignment, which gives each variable its value
abbrev pub literal_value : (ℕ → Bool) → Lit → Bool
literal_value v l = if l.neg then not (v l.var) else v l.var

-- the value of a clause: whether one of its literals is true
abbrev pub clause_value : (ℕ → Bool) → List Lit → Bool
clause_value v c = list_any (literal_value v) c

-- an assignment meets a literal that is true under it
abbrev pub MeetsLiteral : (ℕ → Bool) → Lit → Type 0
MeetsLiteral v l = literal_value v l ≡ true

-- it meets a clause of which it meets a literal
abbrev pub MeetsClause : (ℕ → Bool) → List Lit → Type 0
MeetsClause v c = clause_value v c ≡ true

-- it meets all of these clauses
abbrev pub MeetsAll : (ℕ → Bool) → List (List Lit) → Type 0
MeetsAll v cs = AllByRecursion (MeetsClause v) cs

-- the literal of a unit, which is a clause of one literal
abbrev pub unit_literal : List Lit → Option Lit
unit_literal (l ∷ []) = Some l
unit_literal _ = None
