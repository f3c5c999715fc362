-- When a duty is true, and when an environment breaks it.
use Rattle.std.specs.Prelude.{◌≡◌, ◌⊎◌, ℕ, ◌%◌, ◌^◌, ◌<◌, ◌≤◌, List}
use Rattle.std.specs.List.{AllByRecursion, Any}
use Rattle.insn_ops.specs.declared.side.Side.TheVariants.{Left, Right}
use Rattle.insn_semantics.specs.Words as words
use Rattle.node_values.specs.declared.node.Node.{Node}
use Rattle.node_values.specs.declared.node.NodeId.{NodeId}
use Rattle.node_values.specs.Sheets.{value_at}
use Rattle.node_values.specs.Values.{Environment}
use Rattle.duty_claims.specs.declared.duty.Duty.{Duty}

-- an address lies outside a scratch line: from its base on, it is not among so many bytes as its length
abbrev pub IsOutsideLine : Environment → List Node → ℕ → NodeId × NodeId → Type 0
IsOutsideLine e ns address line = value_at e ns line.1.0 ≤ words.minus 64 address (value_at e ns line.0.0)

-- an address lies outside all scratch lines
abbrev pub IsOutsideLines : Environment → List Node → List (NodeId × NodeId) → ℕ → Type 0
IsOutsideLines e ns lines address = AllByRecursion (IsOutsideLine e ns address) lines

-- both sides have the same byte at an address
abbrev pub HasOneByteAt : Environment → ℕ → Type 0
HasOneByteAt e address = e.memory Left address % 2 ^ 8 ≡ e.memory Right address % 2 ^ 8

-- a node is 1 in an environment
abbrev pub IsOne : Environment → List Node → NodeId → Type 0
IsOne e ns node = value_at e ns node.0 ≡ 1

-- a node is 0 in an environment
abbrev pub IsZero : Environment → List Node → NodeId → Type 0
IsZero e ns node = value_at e ns node.0 ≡ 0

-- An environment meets a duty where each hypothesis is 1, and both memories are equal outside the scratch lines.
pub record Meets (e : Environment) (d : Duty) : Type 0 where
  pub hypotheses : AllByRecursion (IsOne e d.sheet.now) d.hyps.now
  pub memories : (address : ℕ) → address < 2 ^ 64 → IsOutsideLines e d.sheet.now d.scratch.now address
      → HasOneByteAt e address

-- one of the goals is 1
abbrev pub HasGoal : Environment → Duty → Type 0
HasGoal e d = IsOne e d.sheet.now d.goal ⊎ Any (IsOne e d.sheet.now) d.more.now

-- A duty is true where one of its goals is 1 in each environment that meets it.
abbrev pub IsTrueDuty : Duty → Type 0
IsTrueDuty d = (e : Environment) → Meets e d → HasGoal e d

-- An environment breaks a duty where it meets it, and each goal is 0.
pub record Breaks (e : Environment) (d : Duty) : Type 0 where
  pub meets : Meets e d
  pub goal : IsZero e d.sheet.now d.goal
  pub more : AllByRecursion (IsZero e d.sheet.now) d.more.now
