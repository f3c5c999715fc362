-- The clause that marks stand for, and what is known of a clause by its signs.
use Rattle.std.proofs.Common.{◌≡◌, ℕ, zero, suc, ◌+◌, ◌<◌, Bool, true, false, List, [], ◌∷◌, Option, Some, None, refl, ap, subst, arith, add-one}
use Rattle.std.specs.Prelude.{map, not}
use Rattle.std.specs.List.Sorted.{IsStrictlyIncreasing}
use Rattle.std.proofs.lemmas.Bool.{eq-eqb, ne_eqb}
use Rattle.clauses.specs.declared.clause.Lit.{Lit}
use Rattle.clauses.specs.Assignments.{IsClause}
use Rattle.clauses.specs.Resolvents.{sign_in}
use Rattle.resolution_chains.specs.Marks.{literal, sign_at}

-- the literals that are marked, where the first mark is that of variable k
abbrev pub clause_of : ℕ → List (Option Bool) → List Lit
clause_of k [] = []
clause_of k (None ∷ ms) = clause_of (suc k) ms
clause_of k (Some s ∷ ms) = literal k s ∷ clause_of (suc k) ms

twice : (s : Bool) → not (not s) ≡ s
twice true = refl
twice false = refl

-- no variable below k is in it
none_below : (k : ℕ) (ms : List (Option Bool)) (y : ℕ) → y < k → sign_in (clause_of k ms) y ≡ None
none_below k [] y b = refl
none_below k (None ∷ ms) y b = none_below (suc k) ms y (omega arith)
none_below k (Some s ∷ ms) y b = rw (ne_eqb k y (λ e. omega arith)) (none_below (suc k) ms y (omega arith))

-- its signs are the marks
signs_from : (k : ℕ) (ms : List (Option Bool)) (y : ℕ) → sign_in (clause_of k ms) (k + y) ≡ sign_at ms y
signs_from k [] y = refl
signs_from k (None ∷ ms) zero = none_below (suc k) ms (k + 0) (omega arith)
signs_from k (None ∷ ms) (suc y) =
    subst (λ (n : ℕ). sign_in (clause_of (suc k) ms) n ≡ sign_at ms y) (let e : suc k + y ≡ k + suc y = omega arith in e) (signs_from (suc k) ms y)
signs_from k (Some s ∷ ms) zero = rw (eq-eqb k (k + 0) (omega arith)) (ap Some (twice s))
signs_from k (Some s ∷ ms) (suc y) =
    rw (ne_eqb k (k + suc y) (λ e. omega arith))
    (subst (λ (n : ℕ). sign_in (clause_of (suc k) ms) n ≡ sign_at ms y) (let e : suc k + y ≡ k + suc y = omega arith in e) (signs_from (suc k) ms y))

pub signs_of : (ms : List (Option Bool)) (y : ℕ) → sign_in (clause_of 0 ms) y ≡ sign_at ms y
signs_of ms y = subst (λ (n : ℕ). sign_in (clause_of 0 ms) n ≡ sign_at ms y) (let e : 0 + y ≡ y = omega arith in e) (signs_from 0 ms y)

-- what is below the first of a list that rises begins one that rises
first_rises : (n m : ℕ) (xs : List ℕ) → n < m → IsStrictlyIncreasing (m ∷ xs) → IsStrictlyIncreasing (n ∷ m ∷ xs)
first_rises n m xs lower h zero b = lower
first_rises n m xs lower h (suc k) b = rw add-one (rw add-one at (h k (omega arith)))

-- its variables rise, from k on
rises_from : (n k : ℕ) (ms : List (Option Bool)) → n < k → IsStrictlyIncreasing (n ∷ map (λ l. l.var) (clause_of k ms))
rises_from n k [] b = λ i c. absurd (omega arith)
rises_from n k (None ∷ ms) b = rises_from n (suc k) ms (omega arith)
rises_from n k (Some s ∷ ms) b = first_rises n k (map (λ l. l.var) (clause_of (suc k) ms)) b (rises_from k (suc k) ms (omega arith))

pub is_clause : (k : ℕ) (ms : List (Option Bool)) → IsClause (clause_of k ms)
is_clause k [] = λ i c. absurd (omega arith)
is_clause k (None ∷ ms) = is_clause (suc k) ms
is_clause k (Some s ∷ ms) = rises_from k (suc k) ms (omega arith)

-- what a clause that rises does without its first literal
pub rest_is_clause : (l : Lit) (ls : List Lit) → IsClause (l ∷ ls) → IsClause ls
rest_is_clause l ls h k b = rw add-one (rw (add-one, add-one) at (h (k + 1) (omega arith)))

-- the variable of the first literal of a clause is not in the rest
pub not_in_rest : (l : Lit) (ls : List Lit) → IsClause (l ∷ ls) → sign_in ls l.var ≡ None
not_in_rest l [] h = refl
not_in_rest l (k ∷ ks) h =
    let first : l.var < k.var = h 0 (omega arith) in
    rw (ne_eqb k.var l.var (λ e. omega arith)) (not_in_rest l ks (skip l.var k.var (map (λ l. l.var) ks) first (rest_is_clause l (k ∷ ks) h)))
  where
    skip : (n m : ℕ) (xs : List ℕ) → n < m → IsStrictlyIncreasing (m ∷ xs) → IsStrictlyIncreasing (n ∷ xs)
    skip n m [] lower h k b = absurd (omega arith)
    skip n m (x ∷ xs) lower h zero b = let next : m < x = h 0 (omega arith) in omega arith
    skip n m (x ∷ xs) lower h (suc k) b = rw add-one (rw add-one at (h (suc k) b))
