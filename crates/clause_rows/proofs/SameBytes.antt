-- The rows of two bytes say that they are equal.
use Rattle.std.proofs.Common.{◌≡◌, ◌↔◌, ℕ, ◌+◌, ◌||◌, Bool, true, false, ◌∷◌, Option, Some, None, refl, sym, ◌∙◌}
use Rattle.std.specs.Prelude.{not, MatchOption}
use Rattle.clauses.specs.Assignments.{MeetsAll, clause_value}
use Rattle.clause_gates.specs.Gates.{negation, positive}
use Rattle.clause_gates.proofs.GateLaws.{negated_value}
use Rattle.clause_words.specs.Rows.{bit}
use Rattle.clause_words.proofs.Meeting.{columns_met, met_columns}
use Rattle.clause_words.proofs.Numbers.{bits_same, number_same}
use Rattle.clause_rows.specs.SameRows.{AreSameBytes, same_column, same_row, unless}

-- whether a scratch line has the address
abbrev is_in_line : (ℕ → Bool) → Option ℕ → Bool
is_in_line v None = false
is_in_line v (Some at) = v at

unless_value : (v : ℕ → Bool) (scratch : Option ℕ) → clause_value v (unless scratch) ≡ is_in_line v scratch
unless_value v None = refl
unless_value v (Some at) = or_false (v at)
  where
    or_false : (b : Bool) → (b || false) ≡ b
    or_false true = refl
    or_false false = refl

outside : (v : ℕ → Bool) (scratch : Option ℕ) → MatchOption scratch (Unit {0}) (λ at. v at ≡ false) ↔ (is_in_line v scratch ≡ false)
outside v None = (λ h. refl, λ h. tt)
outside v (Some at) = (λ h. h, λ h. h)

-- the two clauses of a bit
from_two : (e x y g : Bool) → (not e || (not x || (y || g))) ≡ true → (not e || (x || (not y || g))) ≡ true → e ≡ true → g ≡ false → x ≡ y
from_two true true true g p q a b = refl
from_two true true false true p q a b = absurd (cc)
from_two true true false false p q a b = absurd (cc)
from_two true false true true p q a b = absurd (cc)
from_two true false true false p q a b = absurd (cc)
from_two true false false g p q a b = refl
from_two false x y g p q a b = absurd (cc)

to_first : (e x y g : Bool) → (e ≡ true → g ≡ false → x ≡ y) → (not e || (not x || (y || g))) ≡ true
to_first false x y g f = refl
to_first true false y g f = refl
to_first true true true g f = refl
to_first true true false true f = refl
to_first true true false false f = sym (f refl refl)

to_second : (e x y g : Bool) → (e ≡ true → g ≡ false → x ≡ y) → (not e || (x || (not y || g))) ≡ true
to_second false x y g f = refl
to_second true true y g f = refl
to_second true false false g f = refl
to_second true false true true f = refl
to_second true false true false f = f refl refl

module _ (v : ℕ → Bool) (same_at : ℕ) (scratch : Option ℕ) (m n : ℕ) where
  first_value : (k : ℕ) → clause_value v (negation (positive same_at) ∷ negation (bit m k) ∷ bit n k ∷ unless scratch)
      ≡ (not (v same_at) || (not (v (m + k)) || (v (n + k) || is_in_line v scratch)))
  first_value k = rw (negated_value v (positive same_at), negated_value v (bit m k), unless_value v scratch) refl

  second_value : (k : ℕ) → clause_value v (negation (positive same_at) ∷ bit m k ∷ negation (bit n k) ∷ unless scratch)
      ≡ (not (v same_at) || (v (m + k) || (not (v (n + k)) || is_in_line v scratch)))
  second_value k = rw (negated_value v (positive same_at), negated_value v (bit n k), unless_value v scratch) refl

  same_from : MeetsAll v (same_row same_at scratch m n) → AreSameBytes v same_at scratch m n
  same_from met e out = number_same (λ k. v (m + k)) (λ k. v (n + k)) 8 (λ k b.
      let both = met_columns v (same_column same_at scratch m n) 8 met k b in
      from_two (v same_at) (v (m + k)) (v (n + k)) (is_in_line v scratch)
      (sym (first_value k) ∙ both.0) (sym (second_value k) ∙ both.1.0) e ((outside v scratch).0 out))

  same_to : AreSameBytes v same_at scratch m n → MeetsAll v (same_row same_at scratch m n)
  same_to same = columns_met v (same_column same_at scratch m n) 8 (λ k b.
      let bits : v same_at ≡ true → is_in_line v scratch ≡ false → v (m + k) ≡ v (n + k) =
      λ e out. bits_same (λ j. v (m + j)) (λ j. v (n + j)) 8 (same e ((outside v scratch).1 out)) k b in (
        first_value k ∙ to_first (v same_at) (v (m + k)) (v (n + k)) (is_in_line v scratch) bits,
        (second_value k ∙ to_second (v same_at) (v (m + k)) (v (n + k)) (is_in_line v scratch) bits, tt),
      ))

  pub same_says : MeetsAll v (same_row same_at scratch m n) ↔ AreSameBytes v same_at scratch m n
  same_says = (same_from, same_to)
