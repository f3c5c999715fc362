-- When steps are accepted for a duty, and else which one breaks.
use Rattle.std.specs.Prelude.{ℕ, zero, suc, ◌==◌, ◌&&◌, false, List, [], Option, None, length, map, slice_index, if◌then◌else◌}
use Rattle.std.specs.List.{range_with_len}
use Rattle.std.specs.Option.{option_or}
use Rattle.node_values.specs.Sheets.{node_at}
use Rattle.duty_claims.specs.declared.duty.Duty.{Duty}
use Rattle.clause_rows.specs.DutyClauses.{duty_clauses}
use Rattle.clause_rows.specs.Numbering.{first_variable}
use Rattle.clause_rows.specs.Reach.{is_in_reach}
use Rattle.refutations.specs.declared.step.Step.{Step}
use Rattle.refutation_rules.specs.declared.equation.Equation.{Equation}
use Rattle.refutation_rules.specs.Judging.{AreAccepted, BreakAt}
use Rattle.refutation_rules.specs.Known.{Ground, Known}
use Rattle.refutation_rules.specs.Operators.{equation_in}
use Rattle.refutation_rules.specs.Pairs.{scratch_node}

-- the arguments of node n, where it is an equality of the reach whose bit is this variable
abbrev pub equality_if : Duty → ℕ → ℕ → Option Equation
equality_if d x n = if is_in_reach d n && (first_variable d n == x) then equation_in (node_at d.sheet.now n) else None

-- the arguments of the equality of the reach, among the first n nodes, whose bit is this variable
abbrev pub equality_among : Duty → ℕ → ℕ → Option Equation
equality_among d x zero = None
equality_among d x (suc n) = option_or (equality_if d x n) (equality_among d x n)

-- the variable of the lowest bit of each node, by its number
abbrev pub first_variables : Duty → List ℕ
first_variables d = map (first_variable d) (range_with_len 0 (length d.sheet.now))

-- what steps for a duty are judged by
abbrev pub ground_of : Duty → Ground
ground_of d = record {
  nodes = d.sheet.now;
  is_in_reach = is_in_reach d;
  first = slice_index (first_variables d);
  equality_at = λ x. equality_among d x (length d.sheet.now);
  scratch_of = scratch_node d.pairs.now;
}

-- what is known before the first step: the duty's clauses
abbrev pub known_at_first : Duty → Known
known_at_first d = record { clauses = duty_clauses d; gave = [] }

-- Steps are accepted for a duty: each is obeyed, and the last one is a chain that ends with no literals.
abbrev pub AreAcceptedFor : Duty → List Step → Type 0
AreAcceptedFor d steps = AreAccepted (ground_of d) (known_at_first d) false steps

-- Step i, from 1, is the first that is not obeyed; or each is, and i is one past the last, which is no chain that ends
-- with no literals.
abbrev pub BreakFor : Duty → List Step → ℕ → Type 0
BreakFor d steps i = BreakAt (ground_of d) (known_at_first d) false 1 steps i
