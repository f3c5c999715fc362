-- Ways along a path of places, by the instructions and the pool of a function: under the tests, and freely.
use Rattle.std.specs.Prelude.{ℕ, Bool, List, Option}
use Rattle.insn_table.specs.declared.insn.Insn.{Insn}
use Rattle.machine.specs.Machine.{Machine}
use Rattle.machine.specs.Step.{allows_step, free_step, step_of}
use Rattle.runs.specs.Path.{Way, allowed_along, way}

-- what the run under the tests does along a path, and on into the next place
abbrev pub tested_way : List Insn → List ℕ → List ℕ → Option ℕ → Machine → Way Machine
tested_way insns pool path next s = way (λ t. t.place) (step_of insns pool) path next s

-- what the free run does along a path, and on into the next place
abbrev pub free_way : List Insn → List ℕ → List ℕ → Option ℕ → Machine → Way Machine
free_way insns pool path next s = way (λ t. t.place) (free_step insns pool) path next s

-- each test along a path holds, from the state on by the free step
abbrev pub is_allowed_along : List Insn → List ℕ → List ℕ → Machine → Bool
is_allowed_along insns pool path s = allowed_along (allows_step insns) (free_step insns pool) path s
