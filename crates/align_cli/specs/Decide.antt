-- The command `decide` in its short form: its files, and what it tells by the status that it ends with.
use Rattle.std.specs.Prelude.{◌≡◌, ◌⊎◌, ℕ, List, [], ◌∷◌, Option, Some}
use Rattle.align_base.specs.Shelf.{Holding}
use Rattle.align_base.specs.declared.status.Status.{Status}
use Rattle.align_base.specs.declared.status.Status.TheVariants as status
use Rattle.insn_ops.specs.declared.side.Side.{Side}
use Rattle.insn_ops.specs.declared.side.Side.TheVariants.{Left, Right}
use Rattle.insn_table.specs.declared.insn.Insn.{Insn}
use Rattle.insn_table.specs.declared.insn.Function.{Function}
use Rattle.plain_functions.specs.Plain.{IsPlain}
use Rattle.plain_functions.specs.Plainness.{IsFirstUnplain}
use Rattle.plain_functions.specs.Verdict.{ReturnApart, ReturnTheSame}
use Rattle.align_report.specs.PlainReport.{ReportsDifferent, ReportsEquivalent, side_name}
use Rattle.align_report.specs.Refusals.{unplain_refusal}
use Rattle.command_line.specs.Command.{FunctionArguments}
use Rattle.align_cli.specs.Files.{File, HoldsFunction, function_file}

-- the files, in order
abbrev pub files : FunctionArguments → FunctionArguments → List File
files left right = function_file (side_name Left) left ∷ function_file (side_name Right) right ∷ []

-- the files hold functions of which this is so
pub record AreFunctions (Claim : List Insn → List Insn → Type 0) (told : Option Holding) (left right : FunctionArguments) : Type 0 where
  pub f : Function
  pub g : Function
  pub left_holds : HoldsFunction told left f
  pub right_holds : HoldsFunction told right g
  pub claim : Claim f.insns g.insns

-- both functions are plain, and this is so of them
abbrev pub OfPlain : (List Insn → List Insn → Type 0) → List Insn → List Insn → Type 0
OfPlain Claim f g = IsPlain f × IsPlain g × Claim f g

-- what the report says of the files where the command ends with this status
abbrev pub Says : Status → FunctionArguments → FunctionArguments → Option Holding → List ℕ → Type 0
Says status.Good left right told report = AreFunctions (OfPlain (λ f g. ReportsEquivalent f g report)) told left right
Says status.Negative left right told report = AreFunctions (OfPlain (λ f g. ReportsDifferent f g report)) told left right
Says _ left right told report = ⊥

-- the statuses where it was carried out
abbrev pub finals : List Status
finals = status.Good ∷ status.Negative ∷ []

-- the function is not plain, and the report refuses it at its first instruction that is not
abbrev pub RefusesUnplain : Side → List Insn → List ℕ → Type 0
RefusesUnplain side insns report = (line : ℕ) × IsFirstUnplain insns line × (report ≡ unplain_refusal (side_name side) line)

-- the left function is not plain, or the left one is plain and the right one is not
abbrev pub RefusesEither : List ℕ → List Insn → List Insn → Type 0
RefusesEither report f g = RefusesUnplain Left f report ⊎ (IsPlain f × RefusesUnplain Right g report)

-- the report refuses what the files hold, once all were read
abbrev pub RefusesContents : FunctionArguments → FunctionArguments → Option Holding → List ℕ → Type 0
RefusesContents left right told report = AreFunctions (RefusesEither report) told left right

-- the shelf tells, and the files hold functions of which this is so
abbrev pub TellsFunctions : (List Insn → List Insn → Type 0) → Option Holding → FunctionArguments → FunctionArguments → Type 0
TellsFunctions Claim told left right = (held : Holding) × (told ≡ Some held) × AreFunctions Claim told left right

-- the files are such that the command can be carried out
abbrev pub Accepts : FunctionArguments → FunctionArguments → Option Holding → Type 0
Accepts left right told = TellsFunctions (λ f g. IsPlain f × IsPlain g) told left right

-- the files are good, and the command cannot be carried out with what they hold
abbrev pub Rejects : FunctionArguments → FunctionArguments → Option Holding → Type 0
Rejects left right told = TellsFunctions (λ f g. (IsPlain f → ⊥) ⊎ (IsPlain g → ⊥)) told left right

-- the files are such that the command has to end with this status
abbrev pub Owes : Status → FunctionArguments → FunctionArguments → Option Holding → Type 0
Owes status.Good left right told = TellsFunctions (OfPlain ReturnTheSame) told left right
Owes status.Negative left right told = TellsFunctions (OfPlain ReturnApart) told left right
Owes _ left right told = ⊥
