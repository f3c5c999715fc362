-- When two states of the machine are related at a node of a product.
use Rattle.std.specs.Prelude.{◌≡◌, ℕ, zero, suc, ◌^◌, ◌<◌, Bool, true, List, Some}
use Rattle.insn_ops.specs.declared.output.Output.{Output}
use Rattle.machine.specs.Difference.{SameEnd, is_in_scratch}
use Rattle.machine.specs.Machine.{IsStart, IsState, Machine}
use Rattle.product_automaton.specs.declared.product.PNode.{PNode}
use Rattle.product_automaton.specs.declared.product.Product.{Product}
use Rattle.product_simulation.specs.Leads.{left_place, right_place}

-- the scratch lines, each its base and its length, by the entry registers
abbrev pub Scratch : Type 0
Scratch = List ℕ → List (ℕ × ℕ)

-- two states with values in their ranges, and with equal entry registers, regions and stack bytes
pub record EnteredAlike (a b : Machine) : Type 0 where
  pub left : IsState a
  pub right : IsState b
  pub entry : a.entry ≡ b.entry
  pub regions : a.regions ≡ b.regions
  pub stack : a.stack ≡ b.stack

-- The two states have the same end, by the scratch lines at the entry of the first.
abbrev pub SameEndAt : List Output → Scratch → Machine → Machine → Type 0
SameEndAt live scratch a b = SameEnd live (scratch a.entry) a b

-- the memories are equal at each address outside the scratch lines
abbrev pub SameMemory : Scratch → Machine → Machine → Type 0
SameMemory scratch a b =
    (at : ℕ) → at < 2 ^ 64 → (is_in_scratch (scratch a.entry) at ≡ true → ⊥) → a.memory at ≡ b.memory at

-- a start state of which a test holds
pub record IsStartWhere (test : Machine → Bool) (s : Machine) : Type 0 where
  pub start : IsStart s
  pub holds : test s ≡ true

-- the two states stand at the places of the node of this number, with equal memories, and the test holds of them
pub record StandAt (nodes : List PNode) (number : ℕ) (scratch : Scratch) (test : Machine → Machine → Bool)
    (a b : Machine) : Type 0 where
  pub alike : EnteredAlike a b
  pub left : left_place nodes number ≡ Some a.place
  pub right : right_place nodes number ≡ Some b.place
  pub memory : SameMemory scratch a b
  pub holds : test a b ≡ true

-- two states that have returned with the same end
pub record ReturnedAlike (live : List Output) (scratch : Scratch) (a b : Machine) : Type 0 where
  pub alike : EnteredAlike a b
  pub same : SameEndAt live scratch a b

-- Two states are related at a node, where a test for each node says what else holds of them. At the entry they are one
-- start state, and at the exit they have returned with the same end.
abbrev pub AreRelated : Product → List Output → Scratch → (ℕ → Machine → Machine → Bool) → ℕ → Machine → Machine → Type 0
AreRelated p live scratch holds zero a b = IsStartWhere (λ s. holds 0 s s) a × (a ≡ b)
AreRelated p live scratch holds (suc zero) a b = ReturnedAlike live scratch a b
AreRelated p live scratch holds (suc (suc k)) a b = StandAt p.nodes (suc (suc k)) scratch (holds (suc (suc k))) a b
