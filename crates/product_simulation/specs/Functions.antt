-- Functions of the machine: their steps, ways on between two of them, their equivalence and their pace.
use Rattle.std.specs.Prelude.{ℕ, Bool, List}
use Rattle.insn_ops.specs.declared.output.Output.{Output}
use Rattle.insn_table.specs.declared.insn.Function.{Function}
use Rattle.machine.specs.Machine.{Machine}
use Rattle.machine.specs.Step.{step_of}
use Rattle.runs.specs.Equivalent.{AreEquivalent}
use Rattle.runs.specs.Run.{Step}
use Rattle.product_automaton.specs.declared.product.Product.{Product}
use Rattle.product_simulation.specs.Leads.{EdgesLead}
use Rattle.product_simulation.specs.Pace.{KeepsPace}
use Rattle.product_simulation.specs.Related.{AreRelated, IsStartWhere, SameEndAt, Scratch}

-- the step of a function
abbrev pub function_step : Function → Machine → Step Machine
function_step f = step_of f.insns f.pool

-- Each two related states of two functions have a way on.
abbrev pub ProductLeads : (left right : Function) → Product → List Output → Scratch → (ℕ → Machine → Machine → Bool) → Type 0
ProductLeads left right p live scratch holds =
    EdgesLead (λ s. s.place) (function_step left) (function_step right) p (AreRelated p live scratch holds)

-- Two functions are equivalent within k, from each start state of which the test holds.
abbrev pub EquivalentFunctions : (Machine → Bool) → List Output → Scratch → (k : ℕ) → (f g : Function) → Type 0
EquivalentFunctions test live scratch k f g =
    AreEquivalent (IsStartWhere test) (SameEndAt live scratch) k (function_step f) (function_step g)

-- Each of two functions keeps pace with the other within k, from each start state of which the test holds.
abbrev pub PacedFunctions : (Machine → Bool) → (k : ℕ) → (f g : Function) → Type 0
PacedFunctions test k f g = (s : Machine) → IsStartWhere test s
    → KeepsPace k (function_step f) (function_step g) s × KeepsPace k (function_step g) (function_step f) s
