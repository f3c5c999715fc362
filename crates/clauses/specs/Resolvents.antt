-- The resolvent of two clauses on a variable that they have with opposite signs.
use Rattle.std.specs.Prelude.{◌≡◌, ◌≢◌, ◌⊎◌, ℕ, ◌==◌, Bool, not, List, [], ◌∷◌, Option, Some, None, if◌then◌else◌}
use Rattle.clauses.specs.declared.clause.Lit.{Lit}

-- the sign that a clause has a variable with: true where it stands as it is, false where it is negated
abbrev pub sign_in : List Lit → ℕ → Option Bool
sign_in [] x = None
sign_in (l ∷ ls) x = if l.var == x then Some (not l.neg) else sign_in ls x

-- e is the resolvent of c and d on x: they have x with opposite signs, and e has what c and d have but for x
pub record IsResolvent (x : ℕ) (c d e : List Lit) : Type 0 where
  pub sign : Bool
  pub first : sign_in c x ≡ Some sign
  pub second : sign_in d x ≡ Some (not sign)
  pub gone : sign_in e x ≡ None
  pub left : (y : ℕ) (s : Bool) → y ≢ x → sign_in c y ≡ Some s → sign_in e y ≡ Some s
  pub right : (y : ℕ) (s : Bool) → y ≢ x → sign_in d y ≡ Some s → sign_in e y ≡ Some s
  pub only : (y : ℕ) (s : Bool) → sign_in e y ≡ Some s → (sign_in c y ≡ Some s) ⊎ (sign_in d y ≡ Some s)
