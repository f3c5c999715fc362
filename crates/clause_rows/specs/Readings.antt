-- What the clauses of a duty say: an assignment meets them exactly where it reads an environment that breaks the duty.
use Rattle.std.specs.Prelude.{◌≡◌, ℕ, Bool, IsTrue}
use Rattle.clauses.specs.Assignments.{MeetsAll}
use Rattle.clause_words.specs.Numbers.{word_value}
use Rattle.node_values.specs.Sheets.{value_at, width_at}
use Rattle.node_values.specs.Values.{Environment}
use Rattle.duty_claims.specs.declared.duty.Duty.{Duty}
use Rattle.duty_claims.specs.Truth.{Breaks}
use Rattle.clause_rows.specs.DutyClauses.{duty_clauses}
use Rattle.clause_rows.specs.Numbering.{first_variable}
use Rattle.clause_rows.specs.Reach.{is_in_reach}

-- an assignment reads an environment: the number at the variables of each node of the reach is the node's value
abbrev pub ReadsValues : Duty → (ℕ → Bool) → Environment → Type 0
ReadsValues d v e = (i : ℕ) → IsTrue (is_in_reach d i)
    → word_value v (width_at d.sheet.now i) (first_variable d i) ≡ value_at e d.sheet.now i

-- an assignment that meets the clauses of a duty and reads this environment
pub record IsAssignmentOf (d : Duty) (e : Environment) (v : ℕ → Bool) : Type 0 where
  pub meets : MeetsAll v (duty_clauses d)
  pub reads : ReadsValues d v e

-- an environment that breaks a duty and is read by this assignment
pub record IsEnvironmentOf (d : Duty) (v : ℕ → Bool) (e : Environment) : Type 0 where
  pub breaks : Breaks e d
  pub reads : ReadsValues d v e

-- each environment that breaks a duty is read by an assignment that meets its clauses
abbrev pub HasAssignments : Duty → Type 0
HasAssignments d = (e : Environment) → Breaks e d → (v : ℕ → Bool) × IsAssignmentOf d e v

-- each assignment that meets the clauses of a duty reads an environment that breaks it
abbrev pub HasEnvironments : Duty → Type 0
HasEnvironments d = (v : ℕ → Bool) → MeetsAll v (duty_clauses d) → (e : Environment) × IsEnvironmentOf d v e
