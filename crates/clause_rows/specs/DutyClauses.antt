-- The clauses of a duty.
use Rattle.std.specs.Prelude.{ℕ, List, [], ◌∷◌, ◌++◌, length, map, if◌then◌else◌}
use Rattle.std.specs.List.{flat_map}
use Rattle.std.specs.Option.{option_map}
use Rattle.clauses.specs.declared.clause.Lit.{Lit}
use Rattle.clause_gates.specs.Gates.{negation, positive}
use Rattle.clause_gates.specs.NormalForms.{normal_clauses}
use Rattle.clause_words.specs.Rows.{columns}
use Rattle.node_rows.specs.NodeRows.{node_clauses}
use Rattle.node_values.specs.declared.node.NodeId.{NodeId}
use Rattle.node_values.specs.Sheets.{node_at, width_at}
use Rattle.duty_claims.specs.declared.duty.Duty.{Duty}
use Rattle.duty_claims.specs.declared.duty.StartPair.{StartPair}
use Rattle.clause_rows.specs.Numbering.{first_variable}
use Rattle.clause_rows.specs.Reach.{is_in_reach, needed_pairs}
use Rattle.clause_rows.specs.SameRows.{same_row}

-- the lowest bit of a node, from the variables of the lowest bits
abbrev pub lowest_bit : (ℕ → ℕ) → NodeId → Lit
lowest_bit first node = positive (first node.0)

-- the row of node i, where it is in the reach
abbrev pub reach_row : Duty → ℕ → List (List Lit)
reach_row d i =
    if is_in_reach d i
    then node_clauses (first_variable d) (width_at d.sheet.now) (first_variable d i) (node_at d.sheet.now i)
    else []

-- the rows of the nodes of the reach, in order of nodes
abbrev pub reach_rows : Duty → List (List Lit)
reach_rows d = columns (reach_row d) (length d.sheet.now)

-- the row of a pair of bytes
abbrev pub pair_row : (ℕ → ℕ) → StartPair → List (List Lit)
pair_row first p = same_row (first p.same_at.0) (option_map (λ node. first node.0) p.scratch) (first p.m.0) (first p.n.0)

-- the rows of each two bytes of memory of the reach
abbrev pub pair_rows : Duty → List (List Lit)
pair_rows d = flat_map (pair_row (first_variable d)) (needed_pairs d)

-- each hypothesis is 1
abbrev pub hypothesis_units : Duty → List (List Lit)
hypothesis_units d = map (λ node. lowest_bit (first_variable d) node ∷ []) d.hyps.now

-- the goal is 0, and so is each further goal
abbrev pub negated_goals : Duty → List (List Lit)
negated_goals d = map (λ node. negation (lowest_bit (first_variable d) node) ∷ []) (d.goal ∷ d.more.now)

-- The clauses of a duty, in normal form: the rows of the nodes of its reach, the rows of its pairs of bytes, its
-- hypotheses, and its goals negated.
unfoldable pub duty_clauses : Duty → List (List Lit)
duty_clauses d = normal_clauses (reach_rows d ++ (pair_rows d ++ (hypothesis_units d ++ negated_goals d)))
