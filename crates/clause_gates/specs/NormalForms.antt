-- Literals in their normal form: in order of variable, each once, and no clause with a literal and its negation.
use Rattle.std.specs.Prelude.{◌==◌, Bool, not, List, [], ◌∷◌, Option, Some, None, nat_lt, if◌then◌else◌}
use Rattle.std.specs.List.{filter_map}
use Rattle.std.specs.Option.{option_and_then, option_map}
use Rattle.clauses.specs.declared.clause.Lit.{Lit}

-- whether two literals have one sign
abbrev pub has_sign_of : Lit → Lit → Bool
has_sign_of k l = if k.neg then l.neg else not l.neg

-- A literal put among others in order of variable. One that is there is not put in again; where its negation is
-- there, there is no clause.
abbrev pub inserted : Lit → List Lit → Option (List Lit)
inserted l [] = Some (l ∷ [])
inserted l (k ∷ ks) =
    if nat_lt k.var l.var then option_map (λ rest. k ∷ rest) (inserted l ks)
    else (if k.var == l.var then (if has_sign_of k l then Some (k ∷ ks) else None) else Some (l ∷ k ∷ ks))

-- literals put one after another into a clause, where there is one
abbrev pub gathered : Option (List Lit) → List Lit → Option (List Lit)
gathered kept [] = kept
gathered kept (l ∷ ls) = gathered (option_and_then (inserted l) kept) ls

-- the normal form of literals, None where a variable is there with both signs
unfoldable pub normal_form : List Lit → Option (List Lit)
normal_form lits = gathered (Some []) lits

-- the clauses that have a normal form, each in it
abbrev pub normal_clauses : List (List Lit) → List (List Lit)
normal_clauses cs = filter_map normal_form cs
