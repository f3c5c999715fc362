-- The variables of a duty's nodes stand one behind another.
use Rattle.std.proofs.Common.{◌≡◌, ℕ, zero, suc, ◌+◌, ◌<◌, ◌≤◌, true, false, refl, sym, ◌∙◌, ap, subst, inl, inr, arith, Bool}
use Rattle.std.proofs.lemmas.Bool.{cases_lt}
use Rattle.insn_semantics.specs.Words as words
use Rattle.clause_words.specs.Numbers.{word_value}
use Rattle.clause_words.proofs.Numbers.{bit_same, one_bit}
use Rattle.node_rows.specs.NodeRows.{helpers_of}
use Rattle.node_values.specs.Sheets.{node_at, width_at}
use Rattle.duty_claims.specs.declared.duty.Duty.{Duty}
use Rattle.clause_rows.specs.Numbering.{first_variable, variable_count}
use Rattle.clause_rows.specs.Reach.{is_in_reach}

pub first_grows : (d : Duty) (i j : ℕ) → i < j → first_variable d i + variable_count d i ≤ first_variable d j
first_grows d i zero h = absurd (omega arith)
first_grows d i (suc j) h = elim (cases_lt i j) [
  | inl lower ↦ let rest : first_variable d i + variable_count d i ≤ first_variable d j = first_grows d i j lower in omega arith
  | inr upper ↦
      let last : i ≡ j = omega arith in
      subst (λ (k : ℕ). first_variable d k + variable_count d k ≤ first_variable d (suc j)) (sym last) (omega arith)
]

pub count_in_reach : (d : Duty) (i : ℕ) → is_in_reach d i ≡ true
    → variable_count d i ≡ width_at d.sheet.now i + helpers_of (width_at d.sheet.now) (node_at d.sheet.now i)
count_in_reach d i h = rw h refl

-- a word of one bit is its lowest bit
pub one_bit_value : (v : ℕ → Bool) (r : ℕ) → word_value v 1 r ≡ words.bit (v r)
one_bit_value v r = one_bit (λ k. v (r + k)) ∙ ap (λ (z : ℕ). words.bit (v z)) plain
  where
    plain : r + 0 ≡ r
    plain = omega arith

pub one_is_true : (b : Bool) → words.bit b ≡ 1 → b ≡ true
one_is_true b e = bit_same b true e

pub zero_is_false : (b : Bool) → words.bit b ≡ 0 → b ≡ false
zero_is_false b e = bit_same b false e
