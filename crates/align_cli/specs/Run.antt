-- The command `run`: its files, and what it tells by the status that it ends with.
use Rattle.std.specs.Prelude.{◌≡◌, ⊤, ℕ, List, [], ◌∷◌, Option, Some}
use Rattle.align_base.specs.Shelf.{Holding}
use Rattle.align_base.specs.declared.status.Status.{Status}
use Rattle.align_base.specs.declared.status.Status.TheVariants as status
use Rattle.insn_table.specs.declared.insn.Function.{Function}
use Rattle.admission.specs.declared.admission.Admission.{Admission}
use Rattle.tests_text.specs.declared.test.Tests.{Tests}
use Rattle.align_report.specs.Refusals.{lone_file}
use Rattle.align_report.specs.RunReport.{IsRunReport}
use Rattle.command_line.specs.Command.{RunArguments}
use Rattle.align_cli.specs.Files.{File, HoldsAdmission, HoldsFunction, HoldsTests, admission_file, function_file, tests_file}

-- the files, in order
abbrev pub files : RunArguments → List File
files run = function_file lone_file run.function ∷ admission_file run.admission ∷ tests_file run.tests ∷ []

-- the files hold a function, an admission and tests of which this is so
pub record AreRunFiles (Claim : Function → Admission → Tests → Type 0) (told : Option Holding) (run : RunArguments) : Type 0 where
  pub f : Function
  pub a : Admission
  pub tests : Tests
  pub function_holds : HoldsFunction told run.function f
  pub admission_holds : HoldsAdmission told run.admission a
  pub tests_holds : HoldsTests told run.tests tests
  pub claim : Claim f a tests

-- what the report says of the files where the command ends with this status
abbrev pub Says : Status → RunArguments → Option Holding → List ℕ → Type 0
Says status.Good run told report = AreRunFiles (λ f a tests. IsRunReport f a tests run.steps report) told run
Says _ run told report = ⊥

-- the statuses where it was carried out
abbrev pub finals : List Status
finals = status.Good ∷ []

-- the shelf tells, and the files hold a function, an admission and tests
abbrev pub TellsRunFiles : Option Holding → RunArguments → Type 0
TellsRunFiles told run = (held : Holding) × (told ≡ Some held) × AreRunFiles (λ f a tests. ⊤) told run

-- the files are such that the command has to end with this status
abbrev pub Owes : Status → RunArguments → Option Holding → Type 0
Owes status.Good run told = TellsRunFiles told run
Owes _ run told = ⊥
