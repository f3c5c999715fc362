-- Chains of resolutions.
use Rattle.std.specs.Prelude.{◌≡◌, ℕ, zero, suc, List, [], ◌∷◌, Option, Some, None, slice_get}
use Rattle.clauses.specs.declared.clause.Lit.{Lit}
use Rattle.clauses.specs.Assignments.{IsClause}
use Rattle.clauses.specs.Resolvents.{IsResolvent, sign_in}

-- the clause of this number, from 1
abbrev pub numbered : List (List Lit) → ℕ → Option (List Lit)
numbered clauses zero = None
numbered clauses (suc n) = slice_get clauses n

-- two clauses with the same literals
abbrev pub HaveSameLiterals : List Lit → List Lit → Type 0
HaveSameLiterals c d = (x : ℕ) → sign_in c x ≡ sign_in d x

-- A clause, resolved in turn on each pivot with the clause whose number stands beside it, becomes e.
abbrev pub ResolvesTo : List (List Lit) → List Lit → List (ℕ × ℕ) → List Lit → Type 0
ResolvesTo clauses c [] e = HaveSameLiterals c e
ResolvesTo clauses c (link ∷ links) e = (d : List Lit) × (numbered clauses link.1 ≡ Some d)
    × ((r : List Lit) × IsClause r × IsResolvent link.0 c d r × ResolvesTo clauses r links e)

-- A chain: it begins with the clause of a number and resolves in turn with others; what it ends with has exactly the
-- literals that are listed, in order of variable, each once.
pub record IsChain (clauses : List (List Lit)) (lits : List Lit) (first : ℕ) (next : List (ℕ × ℕ)) : Type 0 where
  pub listed : IsClause lits
  pub begin : List Lit
  pub begins : numbered clauses first ≡ Some begin
  pub resolves : ResolvesTo clauses begin next lits
