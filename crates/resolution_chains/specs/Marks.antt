-- Marks: the sign that each variable is marked with, by the variable's number.
use Rattle.std.specs.Prelude.{◌≡◌, ℕ, ◌<◌, Bool, true, false, not, List, [], ◌∷◌, Option, Some, None, set, slice_index_or, if◌then◌else◌}
use Rattle.std.specs.List.{AllByRecursion}
use Rattle.std.specs.Option.{option_and_then}
use Rattle.clauses.specs.declared.clause.Lit.{Lit}
use Rattle.resolution_chains.specs.Chains.{numbered}

-- the sign that a variable is marked with
abbrev pub sign_at : List (Option Bool) → ℕ → Option Bool
sign_at marks x = slice_index_or marks x None

-- no variable is marked
abbrev pub IsClean : List (Option Bool) → Type 0
IsClean marks = (x : ℕ) → sign_at marks x ≡ None

-- the variables of a clause have room below n
abbrev pub IsBelow : ℕ → List Lit → Type 0
IsBelow n c = AllByRecursion (λ l. l.var < n) c

-- whether a sign is this one
abbrev pub is_sign : Bool → Option Bool → Bool
is_sign s None = false
is_sign true (Some t) = t
is_sign false (Some t) = not t

-- what stands in a pair of a test and marks: the marks, where the test was passed
abbrev pub passed : Bool → List (Option Bool) → Option (List (Option Bool))
passed t marks = if t then Some marks else None

-- marks with one more literal, where its variable has this mark
abbrev pub marked_over : List (Option Bool) → Lit → Option Bool → Option (List (Option Bool))
marked_over marks l None = Some (set marks l.var (Some (not l.neg)))
marked_over marks l (Some s) = passed (is_sign (not l.neg) (Some s)) marks

-- marks with one more literal; None where its variable is marked with the other sign
abbrev pub marked : List (Option Bool) → Lit → Option (List (Option Bool))
marked marks l = marked_over marks l (sign_at marks l.var)

-- marks without a literal; None where it is not marked
abbrev pub unmarked : List (Option Bool) → Lit → Option (List (Option Bool))
unmarked marks l = passed (is_sign (not l.neg) (sign_at marks l.var)) (set marks l.var None)

-- marks with all literals of a clause
abbrev pub all_marked : List (Option Bool) → List Lit → Option (List (Option Bool))
all_marked marks [] = Some marks
all_marked marks (l ∷ ls) = option_and_then (λ m. all_marked m ls) (marked marks l)

-- marks without any literal of a clause
abbrev pub all_unmarked : List (Option Bool) → List Lit → Option (List (Option Bool))
all_unmarked marks [] = Some marks
all_unmarked marks (l ∷ ls) = option_and_then (λ m. all_unmarked m ls) (unmarked marks l)

-- a literal by its variable and sign
abbrev pub literal : ℕ → Bool → Lit
literal x s = record { var = x; neg = not s }

-- Marks of a clause that is resolved on x with c, where its sign is s: without x, with all literals of c, of which one is
-- x with the other sign, and without that one.
abbrev pub resolved_by : List (Option Bool) → ℕ → List Lit → Bool → Option (List (Option Bool))
resolved_by marks x c s = option_and_then (λ m. option_and_then (λ n. unmarked n (literal x (not s))) (all_marked m c))
    (unmarked marks (literal x s))

-- marks of a clause that is resolved on x with c
abbrev pub resolved : List (Option Bool) → ℕ → List Lit → Option (List (Option Bool))
resolved marks x c = option_and_then (resolved_by marks x c) (sign_at marks x)

-- marks of a clause that is resolved with the clause of a number
abbrev pub linked : List (List Lit) → List (Option Bool) → ℕ × ℕ → Option (List (Option Bool))
linked clauses marks link = option_and_then (resolved marks link.0) (numbered clauses link.1)

-- marks of a clause that is resolved in turn with these
abbrev pub all_linked : List (List Lit) → List (Option Bool) → List (ℕ × ℕ) → Option (List (Option Bool))
all_linked clauses marks [] = Some marks
all_linked clauses marks (link ∷ links) = option_and_then (λ m. all_linked clauses m links) (linked clauses marks link)

-- marks of what a chain ends with, over these marks
abbrev pub chained : List (List Lit) → List (Option Bool) → ℕ → List (ℕ × ℕ) → Option (List (Option Bool))
chained clauses marks first next =
    option_and_then (λ m. all_linked clauses m next) (option_and_then (all_marked marks) (numbered clauses first))

-- and without the literals that it lists
abbrev pub cancelled : List (List Lit) → List (Option Bool) → List Lit → ℕ → List (ℕ × ℕ) → Option (List (Option Bool))
cancelled clauses marks lits first next = option_and_then (λ m. all_unmarked m lits) (chained clauses marks first next)
