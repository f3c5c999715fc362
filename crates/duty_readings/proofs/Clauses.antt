-- The parts of a duty's clauses, each met for itself.
use Rattle.std.proofs.Common.{◌≡◌, ℕ, ◌<◌, Bool, true, false, [], ◌∷◌, ◌++◌, length}
use Rattle.std.specs.List.{AllByRecursion}
use Rattle.clauses.specs.Assignments.{MeetsAll, MeetsClause}
use Rattle.clause_gates.specs.Gates.{negation}
use Rattle.clause_gates.proofs.Forms.{normal_met}
use Rattle.clause_words.proofs.Meeting.{append_met, columns_met, met_append, met_columns}
use Rattle.node_values.specs.declared.node.NodeId.{NodeId}
use Rattle.row_values.proofs.PlainRows.{unit_says}
use Rattle.duty_claims.specs.declared.duty.Duty.{Duty}
use Rattle.clause_rows.specs.DutyClauses.{duty_clauses, hypothesis_units, lowest_bit, negated_goals, pair_row, pair_rows, reach_row, reach_rows}
use Rattle.clause_rows.specs.Numbering.{first_variable}
use Rattle.clause_rows.specs.Reach.{needed_pairs}
use Rattle.duty_readings.proofs.Lists.{flattened, mapped, unflattened, unmapped, weaker}

-- an assignment that meets all rows, and makes the hypotheses true and the goals false
pub record MeetsParts (d : Duty) (v : ℕ → Bool) : Type 0 where
  pub nodes : (i : ℕ) → i < length d.sheet.now → MeetsAll v (reach_row d i)
  pub pairs : AllByRecursion (λ p. MeetsAll v (pair_row (first_variable d) p)) (needed_pairs d)
  pub hypotheses : AllByRecursion (λ n. v (first_variable d n.0) ≡ true) d.hyps.now
  pub goals : AllByRecursion (λ n. v (first_variable d n.0) ≡ false) (d.goal ∷ d.more.now)

module _ (d : Duty) (v : ℕ → Bool) where
  abbrev first : NodeId → ℕ
  first n = first_variable d n.0

  units_from : MeetsAll v (hypothesis_units d) → AllByRecursion (λ n. v (first n) ≡ true) d.hyps.now
  units_from m =
      weaker (λ n. MeetsClause v (lowest_bit (first_variable d) n ∷ [])) (λ n. v (first n) ≡ true) d.hyps.now
      (λ n h. (unit_says v (first n) true).0 (h, tt))
      (unmapped (MeetsClause v) (λ n. lowest_bit (first_variable d) n ∷ []) d.hyps.now m)

  units_to : AllByRecursion (λ n. v (first n) ≡ true) d.hyps.now → MeetsAll v (hypothesis_units d)
  units_to h =
      mapped (MeetsClause v) (λ n. lowest_bit (first_variable d) n ∷ []) d.hyps.now
      (weaker (λ n. v (first n) ≡ true) (λ n. MeetsClause v (lowest_bit (first_variable d) n ∷ [])) d.hyps.now
      (λ n e. ((unit_says v (first n) true).1 e).0) h)

  goals_from : MeetsAll v (negated_goals d) → AllByRecursion (λ n. v (first n) ≡ false) (d.goal ∷ d.more.now)
  goals_from m =
      weaker (λ n. MeetsClause v (negation (lowest_bit (first_variable d) n) ∷ [])) (λ n. v (first n) ≡ false) (d.goal ∷ d.more.now)
      (λ n h. (unit_says v (first n) false).0 (h, tt))
      (unmapped (MeetsClause v) (λ n. negation (lowest_bit (first_variable d) n) ∷ []) (d.goal ∷ d.more.now) m)

  goals_to : AllByRecursion (λ n. v (first n) ≡ false) (d.goal ∷ d.more.now) → MeetsAll v (negated_goals d)
  goals_to h =
      mapped (MeetsClause v) (λ n. negation (lowest_bit (first_variable d) n) ∷ []) (d.goal ∷ d.more.now)
      (weaker (λ n. v (first n) ≡ false) (λ n. MeetsClause v (negation (lowest_bit (first_variable d) n) ∷ [])) (d.goal ∷ d.more.now)
      (λ n e. ((unit_says v (first n) false).1 e).0) h)

  pub parts_from : MeetsAll v (duty_clauses d) → MeetsParts d v
  unfolding duty_clauses
  parts_from m =
      let all : MeetsAll v (reach_rows d ++ (pair_rows d ++ (hypothesis_units d ++ negated_goals d))) =
      (normal_met v (reach_rows d ++ (pair_rows d ++ (hypothesis_units d ++ negated_goals d)))).0 m in
      let rows = append_met v (reach_rows d) (pair_rows d ++ (hypothesis_units d ++ negated_goals d)) all in
      let pairs = append_met v (pair_rows d) (hypothesis_units d ++ negated_goals d) rows.1 in
      let units = append_met v (hypothesis_units d) (negated_goals d) pairs.1 in
      record {
        nodes = met_columns v (reach_row d) (length d.sheet.now) rows.0;
        pairs = unflattened (MeetsClause v) (pair_row (first_variable d)) (needed_pairs d) pairs.0;
        hypotheses = units_from units.0;
        goals = goals_from units.1;
      }

  pub parts_to : MeetsParts d v → MeetsAll v (duty_clauses d)
  unfolding duty_clauses
  parts_to m =
      (normal_met v (reach_rows d ++ (pair_rows d ++ (hypothesis_units d ++ negated_goals d)))).1
      (met_append v (reach_rows d) (pair_rows d ++ (hypothesis_units d ++ negated_goals d))
      (columns_met v (reach_row d) (length d.sheet.now) m.nodes)
      (met_append v (pair_rows d) (hypothesis_units d ++ negated_goals d)
      (flattened (MeetsClause v) (pair_row (first_variable d)) (needed_pairs d) m.pairs)
      (met_append v (hypothesis_units d) (negated_goals d) (units_to m.hypotheses) (goals_to m.goals))))
