-- The flow of control from place to place, whatever the flags; heads, cut points and paths.
use Rattle.std.specs.Prelude.{◌≡◌, ◌⊎◌, ◌↔◌, ℕ, ◌+◌, ◌<◌, ◌≤◌, List, length, map, Option, Some, None, Contains, slice_get, slice_index, unwrap_or, option_and_then}
use Rattle.std.specs.List.Sorted.{IsStrictlyIncreasing}
use Rattle.insn_ops.specs.declared.op.Op.{Op}
use Rattle.insn_ops.specs.declared.op.Op.TheVariants as ops
use Rattle.insn_table.specs.declared.insn.Insn.{Insn}
use Rattle.insn_table.specs.declared.insn.Operand.{Operand}
use Rattle.insn_table.specs.declared.insn.Operand.TheVariants.{Target, Nothing}
use Rattle.flow_graph.specs.declared.control.Flow.{Flow}
use Rattle.flow_graph.specs.declared.control.Flow.TheVariants.{Next, Jump, Branch, Return}

-- the place that the operand of a jump names, 0 where it names none
abbrev pub target_place : Operand → ℕ
target_place (Target place) = place
target_place _ = 0

-- where control goes from an instruction with this operation
abbrev pub flow_by : Op → Insn → Flow
flow_by (ops.Jump condition) i = Branch (target_place (unwrap_or (slice_get i.args 0) Nothing))
flow_by ops.Jmp i = Jump (target_place (unwrap_or (slice_get i.args 0) Nothing))
flow_by ops.Ret i = Return
flow_by _ i = Next

-- where control goes from an instruction, whatever the flags
abbrev pub flow_of : Insn → Flow
flow_of i = flow_by i.op i

-- the flow graph of these instructions: where control goes from each
abbrev pub flows_of : List Insn → List Flow
flows_of insns = map flow_of insns

-- the place that control may jump to
abbrev pub target_of : Flow → Option ℕ
target_of Next = None
target_of (Jump place) = Some place
target_of (Branch place) = Some place
target_of Return = None

-- control may go so from one place to another
abbrev pub Leads : Flow → ℕ → ℕ → Type 0
Leads Next from to = to ≡ from + 1
Leads (Jump place) from to = to ≡ place
Leads (Branch place) from to = (to ≡ place) ⊎ (to ≡ from + 1)
Leads Return from to = ⊥

-- a place follows another in the flow
pub record Follows (flows : List Flow) (from to : ℕ) : Type 0 where
  pub flow : Flow
  pub there : slice_get flows from ≡ Some flow
  pub leads : Leads flow from to

-- Each place of a path is an instruction, and each but the first follows the one before it.
pub record IsPath (flows : List Flow) (path : List ℕ) : Type 0 where
  pub inside : (k : ℕ) → k < length path → slice_index path k < length flows
  pub follows : (k : ℕ) → k + 1 < length path → Follows flows (slice_index path k) (slice_index path (k + 1))

-- a head: the target of a backward jump, which does not stand before its target
pub record IsHead (flows : List Flow) (place : ℕ) : Type 0 where
  pub jump : ℕ
  pub backward : place ≤ jump
  pub target : option_and_then target_of (slice_get flows jump) ≡ Some place

-- a cut point: the entry, a head or a return
abbrev pub IsCut : List Flow → ℕ → Type 0
IsCut flows place = (place ≡ 0) ⊎ (IsHead flows place ⊎ (slice_get flows place ≡ Some Return))

-- exactly the places of which this holds, in order, each once
pub record ListsInOrder (P : ℕ → Type 0) (places : List ℕ) : Type 0 where
  pub ordered : IsStrictlyIncreasing places
  pub exactly : (place : ℕ) → Contains places place ↔ P place

-- the place is an instruction, and the next one, if there is one, follows it
abbrev pub FitsBefore : List Flow → ℕ → Option ℕ → Type 0
FitsBefore flows place None = place < length flows
FitsBefore flows place (Some next) = Follows flows place next
