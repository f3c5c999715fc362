-- The report of a run of a function under each of some tests.
use Rattle.std.specs.Prelude.{◌≡◌, ℕ, ◌+◌, List, [], ◌∷◌, ◌++◌, codes, decimal}
use Rattle.insn_ops.specs.declared.output.Output.{Output}
use Rattle.insn_table.specs.declared.insn.Function.{Function}
use Rattle.runs.specs.Run.{Run, run_of}
use Rattle.runs.specs.declared.ends.RunEnd.{RunEnd}
use Rattle.runs.specs.declared.ends.RunEnd.TheVariants.{Returned, Faulted, Unset, Running}
use Rattle.machine.specs.Machine.{Machine}
use Rattle.machine.specs.Step.{step_of}
use Rattle.admission.specs.declared.admission.Admission.{Admission}
use Rattle.tests_text.specs.declared.test.Test.{Test}
use Rattle.tests_text.specs.declared.test.Tests.{Tests}
use Rattle.test_states.specs.declared.refusal.LoadRefusal.{LoadRefusal}
use Rattle.test_states.specs.declared.refusal.LoadRefusal.TheVariants.{ByteOutside, Memory, NotAdmitted, RegionsLarge}
use Rattle.test_states.specs.Loads.{IsRefused}
use Rattle.test_states.specs.Starts.{IsLoadable, start_of}
use Rattle.align_report.specs.Changes.{ArePieces, piece_lines}
use Rattle.align_report.specs.Outputs.{output_lines}

-- the line of a test: its number, and how it ended
unfoldable pub test_line : ℕ → List ℕ → List ℕ
test_line k ended = codes "test " ++ decimal k ++ codes " " ++ ended ++ codes "\n"

-- what the line says of a test that has no start state
abbrev pub refusal_name : LoadRefusal → List ℕ
refusal_name NotAdmitted = codes "not-admitted"
refusal_name RegionsLarge = codes "large"
refusal_name (ByteOutside at) = codes "byte-outside"
refusal_name Memory = []

-- what it says of a run, with the number of the step that ended it
abbrev pub end_name : RunEnd → List ℕ
end_name (Returned n) = codes "returned " ++ decimal n
end_name (Faulted n) = codes "faulted " ++ decimal n
end_name (Unset n) = codes "unset " ++ decimal n
end_name Running = codes "running"

-- what two states of a run, its start and its end, are told of: the live outputs, and each byte of memory that has changed
pub record AreChanges (live : List Output) (start end : Machine) (text : List ℕ) : Type 0 where
  pub pieces : List (ℕ × ℕ)
  pub changed : ArePieces start.memory end.memory 0 pieces
  pub lines : text ≡ output_lines end live ++ piece_lines end.memory pieces

-- what follows the line of a run: changes where it returned, and nothing else
abbrev pub AreDetails : List Output → Machine → Run Machine → List ℕ → Type 0
AreDetails live start (s, Returned n) text = AreChanges live start s text
AreDetails live start (s, Faulted n) text = text ≡ []
AreDetails live start (s, Unset n) text = text ≡ []
AreDetails live start (s, Running) text = text ≡ []

-- the run of a function from a test's start state
abbrev pub test_run : Function → Admission → ℕ → Test → Run Machine
test_run f a steps t = run_of (step_of f.insns f.pool) (start_of a t) steps

-- the report of test k: why it has no start state, or how its run ended within so many steps
pub data IsTestReport (f : Function) (a : Admission) (steps k : ℕ) (t : Test) (text : List ℕ) : Type 0 where
  Refused : (e : LoadRefusal) → IsRefused a t e → text ≡ test_line k (refusal_name e) → IsTestReport f a steps k t text
  Ran : (details : List ℕ) → IsLoadable a t → AreDetails a.live (start_of a t) (test_run f a steps t) details
      → text ≡ test_line k (end_name (test_run f a steps t).1) ++ details → IsTestReport f a steps k t text

-- the reports of tests, numbered from k on, one after another
abbrev pub AreTestReports : Function → Admission → ℕ → ℕ → List Test → List ℕ → Type 0
AreTestReports f a steps k [] text = text ≡ []
AreTestReports f a steps k (t ∷ ts) text =
    (here : List ℕ) × (rest : List ℕ) × (text ≡ here ++ rest) × IsTestReport f a steps k t here
    × AreTestReports f a steps (k + 1) ts rest

-- the report of a run of at most so many steps under each test, numbered from 1
abbrev pub IsRunReport : Function → Admission → Tests → ℕ → List ℕ → Type 0
IsRunReport f a tests steps report = AreTestReports f a steps 1 tests.tests report
