-- The command `show`: its file, and what it tells by the status that it ends with.
use Rattle.std.specs.Prelude.{◌≡◌, ⊤, ℕ, List, [], ◌∷◌, Option, Some}
use Rattle.align_base.specs.Shelf.{Holding}
use Rattle.align_base.specs.declared.status.Status.{Status}
use Rattle.align_base.specs.declared.status.Status.TheVariants as status
use Rattle.insn_table.specs.declared.insn.Function.{Function}
use Rattle.insn_text.specs.ShowText.{IsShown}
use Rattle.align_report.specs.Refusals.{lone_file}
use Rattle.command_line.specs.Command.{FunctionArguments}
use Rattle.align_cli.specs.Files.{File, HoldsFunction, function_file}

-- its one file
abbrev pub files : FunctionArguments → List File
files function = function_file lone_file function ∷ []

-- the file holds a function of which this is so
pub record IsFunctionFile (Claim : Function → Type 0) (told : Option Holding) (arguments : FunctionArguments) : Type 0 where
  pub f : Function
  pub holds : HoldsFunction told arguments f
  pub claim : Claim f

-- what the report says of the file where the command ends with this status
abbrev pub Says : Status → FunctionArguments → Option Holding → List ℕ → Type 0
Says status.Good function told report = IsFunctionFile (λ f. IsShown f report) told function
Says _ function told report = ⊥

-- the statuses where it was carried out
abbrev pub finals : List Status
finals = status.Good ∷ []

-- the shelf tells, and the file holds a function
abbrev pub TellsFunctionFile : Option Holding → FunctionArguments → Type 0
TellsFunctionFile told function = (held : Holding) × (told ≡ Some held) × IsFunctionFile (λ f. ⊤) told function

-- the file is such that the command has to end with this status
abbrev pub Owes : Status → FunctionArguments → Option Holding → Type 0
Owes status.Good function told = TellsFunctionFile told function
Owes _ function told = ⊥
