-- The lines of a function, with its cut points marked.
use Rattle.std.specs.Prelude.{◌≡◌, ◌↔◌, ℕ, ◌+◌, IsTrue, Bool, List, [], ◌∷◌, ◌++◌, length, codes, decimal, if◌then◌else◌}
use Rattle.flow_graph.specs.declared.control.Flow.{Flow}
use Rattle.flow_graph.specs.Flows.{IsCut, flows_of}
use Rattle.insn_table.specs.declared.insn.Function.{Function}
use Rattle.insn_table.specs.declared.insn.Insn.{Insn}
use Rattle.insn_text.specs.InsnText.{insn_text}

-- the line of the instruction at a place, with or without a mark
unfoldable pub insn_line : Bool → ℕ → Insn → List ℕ
insn_line marked place i =
    (if marked then codes "*" else codes " ") ++ codes " " ++ decimal place ++ codes " " ++ insn_text i ++ codes "\n"

-- the lines of instructions from a place on, marked exactly at cut points
abbrev pub AreLines : List Flow → ℕ → List Insn → List ℕ → Type 0
AreLines flows place [] lines = lines ≡ []
AreLines flows place (i ∷ insns) lines =
    (marked : Bool) × (rest : List ℕ) × (IsTrue marked ↔ IsCut flows place)
    × (lines ≡ insn_line marked place i ++ rest) × AreLines flows (place + 1) insns rest

-- the first two lines
unfoldable pub heading : Function → List ℕ
heading f = codes "function " ++ f.name ++ codes "\ninsns " ++ decimal (length f.insns) ++ codes "\n"

-- what is shown of a function
pub record IsShown (f : Function) (text : List ℕ) : Type 0 where
  pub lines : List ℕ
  pub whole : text ≡ heading f ++ lines
  pub each : AreLines (flows_of f.insns) 0 f.insns lines
