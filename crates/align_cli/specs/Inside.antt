-- What the parts of the top call answer.
use Rattle.std.specs.Prelude.{◌≡◌, ℕ, ◌+◌, ◌<◌, ◌≤◌, List, length, string_bytes, Option}
use Rattle.align_base.specs.Shelf.{CallFailed, Holding, HoldsMore, NoneFailed, ShelfAccount}
use Rattle.align_base.specs.declared.shelf.Call.TheVariants.{Take}
use Rattle.align_base.specs.declared.status.Status.{Status}
use Rattle.align_base.specs.declared.status.Status.TheVariants as status
use Rattle.insn_table.specs.Closed.{IsClosed}
use Rattle.insn_table.specs.declared.insn.Insn.{Insn}
use Rattle.insn_table.specs.declared.insn.Function.{Function}
use Rattle.admission.specs.WellFormed.{IsWellFormed}
use Rattle.admission.specs.declared.admission.Admission.{Admission}
use Rattle.tests_text.specs.declared.test.Tests.{Tests}
use Rattle.align_cli.specs.Answers.{FailsAtFile, RefusesCommand}
use Rattle.command_line.specs.Command.{Command, FunctionArguments, OfCommand}
use Rattle.align_cli.specs.Files.{File, HoldsAdmission, HoldsFunction, HoldsTests, RefusesFile}
use Rattle.align_cli.specs.Decide.{OfPlain}
use Rattle.align_report.specs.Refusals.{large_refusal}
use Rattle.align_report.specs.PlainReport.{ReportsDifferent, ReportsEquivalent}
use Rattle.align_cli.specs.declared.answer.Interruption.{Interruption}
use Rattle.align_cli.specs.declared.answer.Interruption.TheVariants as interruption
use Rattle.align_cli.specs.declared.answer.Stop.{Stop}
use Rattle.align_cli.specs.declared.answer.Stop.TheVariants as stop

-- the function that these arguments name, as it was read
abbrev pub IsReadFunction : Option Holding → FunctionArguments → Function → Type 0
IsReadFunction told arguments f = HoldsFunction told arguments f × IsClosed f.insns × (length f.insns ≤ 4096)

-- the admission in this file, as it was read
abbrev pub IsReadAdmission : Option Holding → List ℕ → Admission → Type 0
IsReadAdmission told name a = HoldsAdmission told name a × IsWellFormed a

-- the tests in this file, as they were read
abbrev pub IsReadTests : Option Holding → List ℕ → Tests → Type 0
IsReadTests told name tests = HoldsTests told name tests

-- why a take gave no text, by what the file is called and its limit: it has more bytes, the take failed, or out of memory
abbrev pub StopsTake : List ℕ → List ℕ → ℕ → ShelfAccount → ShelfAccount → Stop → Type 0
StopsTake name called limit before after (stop.Refused report) =
    NoneFailed before after × HoldsMore before.holding name limit × (limit < after.seen)
    × (string_bytes report ≡ large_refusal called (limit + 1))
StopsTake name called limit before after stop.Shelf = CallFailed (Take name) before after
StopsTake name called limit before after stop.Memory = NoneFailed before after

-- why a file was not read: it was refused, its take failed, or out of memory
abbrev pub StopsFile : File → ShelfAccount → ShelfAccount → Stop → Type 0
StopsFile file before after (stop.Refused report) =
    NoneFailed before after × RefusesFile before.holding after.seen file (string_bytes report)
StopsFile file before after stop.Shelf = CallFailed (Take file.name) before after
StopsFile file before after stop.Memory = NoneFailed before after

-- why a command was not carried out: it was refused, a take failed, or out of memory
abbrev pub StopsCommand : Command → ShelfAccount → ShelfAccount → Stop → Type 0
StopsCommand command before after (stop.Refused report) =
    NoneFailed before after × RefusesCommand command before after (string_bytes report)
StopsCommand command before after stop.Shelf = FailsAtFile command before after
StopsCommand command before after stop.Memory = NoneFailed before after

-- the same, of the command that the arguments are
abbrev pub StopsArguments : List (List ℕ) → ShelfAccount → ShelfAccount → Stop → Type 0
StopsArguments arguments before after (stop.Refused report) =
    NoneFailed before after × OfCommand arguments (λ command. RefusesCommand command before after (string_bytes report))
StopsArguments arguments before after stop.Shelf = OfCommand arguments (λ command. FailsAtFile command before after)
StopsArguments arguments before after stop.Memory = NoneFailed before after

-- why functions that were read were not compared: they were refused so, or out of memory
abbrev pub StopsWith : (List ℕ → Type 0) → Stop → Type 0
StopsWith Refuses (stop.Refused report) = Refuses (string_bytes report)
StopsWith Refuses stop.Shelf = ⊥
StopsWith Refuses stop.Memory = Unit {0}

-- a take of a file of the command that the arguments are failed, or out of memory where none failed
abbrev pub InterruptsArguments : List (List ℕ) → ShelfAccount → ShelfAccount → Interruption → Type 0
InterruptsArguments arguments before after interruption.Shelf = OfCommand arguments (λ command. FailsAtFile command before after)
InterruptsArguments arguments before after interruption.Memory = NoneFailed before after

-- what the report of two functions that were read says with this status
abbrev pub Compares : Status → List Insn → List Insn → List ℕ → Type 0
Compares status.Good left right report = OfPlain (λ f g. ReportsEquivalent f g report) left right
Compares status.Negative left right report = OfPlain (λ f g. ReportsDifferent f g report) left right
Compares _ left right report = ⊥
