-- The parts of a duty's clauses, put behind one another.
use Rattle.std.proofs.Common.{◌≡◌, ℕ, Bool, List, [], ◌∷◌, ◌++◌, length, ◌∙◌, ap}
use Rattle.std.specs.Prelude.{map, slice_index}
use Rattle.std.specs.List.{flat_map, range_with_len}
use Rattle.clauses.specs.declared.clause.Lit.{Lit}
use Rattle.clause_gates.specs.Gates.{negation, positive}
use Rattle.clause_gates.specs.NormalForms.{normal_clauses}
use Rattle.node_reach.specs.Reached.{is_marked}
use Rattle.node_values.specs.Sheets.{IsSheet}
use Rattle.duty_claims.specs.declared.duty.Duty.{Duty}
use Rattle.duty_claims.specs.Whole.{IsWhole}
use Rattle.clause_rows.specs.DutyClauses.{duty_clauses, hypothesis_units, lowest_bit, pair_row, pair_rows, reach_rows}
use Rattle.clause_rows.specs.Numbering.{first_variable}
use Rattle.clause_rows.specs.Reach.{is_in_reach, needed_pairs}
use Rattle.clause_rows.proofs.Variables.{bits_same, first_at, pairs_same}
use Rattle.clause_rows.proofs.Inside.{goals_in_reach, hypotheses_in_reach, pairs_in_reach}
use Rattle.clause_rows.proofs.Pushing.{pushed_five}

module _ (d : Duty) (whole : IsWhole d) (sheet : IsSheet d.sheet.now) (marks : List Bool) (reach : (k : ℕ) → is_marked marks k ≡ is_in_reach d k)
    (firsts : List ℕ) (are : firsts ≡ map (first_variable d) (range_with_len 0 (length marks))) where
  abbrev first : ℕ → ℕ
  first = slice_index firsts

  abbrev unit : Lit → List Lit
  unit l = l ∷ []

  abbrev negated_unit : Lit → List Lit
  negated_unit l = negation l ∷ []

  pub put_together : (z a b c e f : List (List Lit)) → z ≡ []
      → a ≡ z ++ normal_clauses (reach_rows d)
      → b ≡ a ++ normal_clauses (flat_map (pair_row first) (needed_pairs d))
      → c ≡ b ++ normal_clauses (map (λ n. unit (lowest_bit first n)) d.hyps.now)
      → e ≡ c ++ normal_clauses (negated_unit (lowest_bit first d.goal) ∷ [])
      → f ≡ e ++ normal_clauses (map (λ n. negated_unit (lowest_bit first n)) d.more.now)
      → f ≡ duty_clauses d
  unfolding duty_clauses
  put_together z a b c e f n p q r s t =
      pushed_five z a b c e f (reach_rows d) (pair_rows d) (hypothesis_units d) (negated_unit (lowest_bit (first_variable d) d.goal) ∷ [])
      (map (λ n. negated_unit (lowest_bit (first_variable d) n)) d.more.now) n p
      (q ∙ behind a (pairs_same d whole sheet marks reach firsts are (needed_pairs d) (pairs_in_reach d whole sheet)))
      (r ∙ behind b (bits_same d whole sheet marks reach firsts are unit d.hyps.now (hypotheses_in_reach d whole sheet)))
      (s ∙ behind c (ap (λ (x : ℕ). negated_unit (positive x) ∷ []) (first_at d whole sheet marks reach firsts are d.goal.0 (goals_in_reach d whole sheet).0)))
      (t ∙ behind e (bits_same d whole sheet marks reach firsts are negated_unit d.more.now (goals_in_reach d whole sheet).1))
    where
      behind : (before : List (List Lit)) {xs ys : List (List Lit)} → xs ≡ ys → before ++ normal_clauses xs ≡ before ++ normal_clauses ys
      behind before h = ap (λ (rows : List (List Lit)). before ++ normal_clauses rows) h
