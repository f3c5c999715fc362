-- The clauses that steps add are clauses, and are met where the nodes' values are so.
use Rattle.std.proofs.Common.{◌≡◌, ℕ, ◌+◌, ◌||◌, Bool, true, false, List, [], ◌∷◌, Option, Some, None, refl, sym, ◌∙◌, ap, arith}
use Rattle.std.specs.Prelude.{not}
use Rattle.std.specs.List.{AllByRecursion, cons_option}
use Rattle.insn_semantics.specs.Words as words
use Rattle.clauses.specs.declared.clause.Lit.{Lit}
use Rattle.clauses.specs.Assignments.{IsClause, MeetsAll, MeetsClause}
use Rattle.clause_gates.specs.Gates.{copy_gate, negation, positive}
use Rattle.clause_gates.specs.NormalForms.{normal_clauses, normal_form}
use Rattle.clause_gates.proofs.Forms.{normal_increasing, normal_met}
use Rattle.clause_words.specs.Numbers.{word_value}
use Rattle.clause_words.specs.Rows.{bit, columns}
use Rattle.clause_words.proofs.Meeting.{columns_met, copy_says}
use Rattle.clause_words.proofs.Numbers.{bits_same, one_bit}
use Rattle.refutation_rules.specs.Steps.{same_bits}

-- clauses in their normal form are clauses
with_form : (o : Option (List Lit)) (rest : List (List Lit)) → ((c : List Lit) → o ≡ Some c → IsClause c) → AllByRecursion IsClause rest
    → AllByRecursion IsClause (cons_option o rest)
with_form None rest is all = all
with_form (Some c) rest is all = (is c refl, all)

pub normal_ordered : (cs : List (List Lit)) → AllByRecursion IsClause (normal_clauses cs)
normal_ordered [] = tt
normal_ordered (c ∷ cs) = with_form (normal_form c) (normal_clauses cs) (normal_increasing c) (normal_ordered cs)

-- a clause of one literal
pub unit_ordered : (l : Lit) → IsClause (l ∷ [])
unit_ordered l k b = absurd (omega arith)

module _ (v : ℕ → Bool) where
  -- words of one number have the same bits
  pub same_bits_met : (w r a : ℕ) → word_value v w r ≡ word_value v w a → MeetsAll v (same_bits w r a)
  same_bits_met w r a h =
      (normal_met v (columns (λ k. copy_gate (bit r k) (bit a k)) w)).1
      (columns_met v (λ k. copy_gate (bit r k) (bit a k)) w (λ k b.
      (copy_says v (bit r k) (bit a k)).1 (bits_same (λ j. v (r + j)) (λ j. v (a + j)) w h k b)))

  -- the bit of a word of one bit
  pub bit_at : (x : ℕ) → word_value v 1 x ≡ words.bit (v x)
  bit_at x = one_bit (λ k. v (x + k)) ∙ ap (λ (y : ℕ). words.bit (v y)) (let e : x + 0 ≡ x = omega arith in e)

  pub unit_met : (x : ℕ) → word_value v 1 x ≡ 1 → MeetsClause v (positive x ∷ [])
  unit_met x h = by_bit (v x) (sym (bit_at x) ∙ h)
    where
      by_bit : (b : Bool) → words.bit b ≡ 1 → (b || false) ≡ true
      by_bit true e = refl
      by_bit false e = absurd (omega arith)

  pub zero_met : (x : ℕ) → word_value v 1 x ≡ 0 → MeetsClause v (negation (positive x) ∷ [])
  zero_met x h = by_bit (v x) (sym (bit_at x) ∙ h)
    where
      by_bit : (b : Bool) → words.bit b ≡ 0 → (not b || false) ≡ true
      by_bit true e = absurd (omega arith)
      by_bit false e = refl

  -- and the other way round: what units say of a bit
  pub met_unit : (x : ℕ) → MeetsClause v (positive x ∷ []) → v x ≡ true
  met_unit x m = by_bit (v x) m
    where
      by_bit : (b : Bool) → (b || false) ≡ true → b ≡ true
      by_bit true e = refl
      by_bit false e = e

  pub met_zero : (x : ℕ) → MeetsClause v (negation (positive x) ∷ []) → v x ≡ false
  met_zero x m = by_bit (v x) m
    where
      by_bit : (b : Bool) → (not b || false) ≡ true → b ≡ false
      by_bit true e = sym e
      by_bit false e = refl
