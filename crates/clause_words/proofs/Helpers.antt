-- Assignments with other values of their helpers.
use Rattle.std.proofs.Common.{◌≡◌, ◌↔◌, ℕ, ◌+◌, ◌-◌, ◌<◌, Bool, true, false, List, refl, ap, arith}
use Rattle.std.specs.Prelude.{nat_lt}
use Rattle.clauses.specs.declared.clause.Lit.{Lit}
use Rattle.clause_words.specs.Numbers.{SayWithHelpers, StandsBefore, with_helpers}

less_true : (a b : ℕ) → a < b → nat_lt a b ≡ true
less_true a b h = grind arith

less_false : (a b : ℕ) → nat_lt (a + b) a ≡ false
less_false a b = grind arith

-- what stands before the helpers stays
pub before : (v : ℕ → Bool) (h : ℕ) (f : ℕ → Bool) (w word k : ℕ) → StandsBefore h w word → k < w
    → with_helpers v h f (word + k) ≡ v (word + k)
before v h f w word k s b = rw (less_true (word + k) h (omega arith)) refl

-- and the helpers are the others
pub behind : (v : ℕ → Bool) (h : ℕ) (f : ℕ → Bool) (k : ℕ) → with_helpers v h f (h + k) ≡ f k
behind v h f k =
    let e : h + k - h ≡ k = omega arith in
    rw (less_false h k) (ap f e)

-- facts that hold together are said together
pub say_same : {P Q : Type 0} (v : ℕ → Bool) (h n : ℕ) (clauses : List (List Lit)) → (P ↔ Q)
    → SayWithHelpers v h n clauses P → SayWithHelpers v h n clauses Q
say_same v h n clauses e s = record {
  some = λ q. s.some (e.1 q);
  only = λ f m. e.0 (s.only f m);
  one = s.one;
}
