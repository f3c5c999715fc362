-- Which arguments are a command, and what they name.
use Rattle.std.specs.Prelude.{◌≡◌, ◌≢◌, ℕ, ◌<◌, ◌≤◌, List, [], ◌∷◌, codes, decimal, IsUtf8}
use Rattle.std.specs.List.{AllByRecursion}
use Rattle.command_line.specs.Parts.{AreRead, Valued}

-- a function: the argument that names its file, and its own name
pub record FunctionArguments : Type 0 where
  pub file : List ℕ
  pub name : List ℕ

-- a function to run: the arguments that name the files of the admission and of the tests, and the most steps of a run
pub record RunArguments : Type 0 where
  pub function : FunctionArguments
  pub admission : List ℕ
  pub tests : List ℕ
  pub steps : ℕ

-- what the arguments ask for
pub data Command : Type 0 where
  DecidePlain : FunctionArguments → FunctionArguments → Command  -- `decide LEFT F RIGHT G`
  Run : RunArguments → Command  -- `run FILE F ADMIT TESTS`, with or without `--steps N`
  Show : FunctionArguments → Command  -- `show FILE F`

-- an argument is text, and not empty
pub record IsArgument (argument : List ℕ) : Type 0 where
  pub text : IsUtf8 argument
  pub some : argument ≢ []

-- The arguments are the command's name and others, which have these options and these plain arguments, in order.
pub record IsLine (arguments : List (List ℕ)) (name : List ℕ) (options : List Valued) (plain : List (List ℕ)) : Type 0 where
  pub behind : List (List ℕ)
  pub command : arguments ≡ name ∷ behind
  pub each : AllByRecursion IsArgument behind
  pub read : AreRead behind options plain

-- one to nine decimal digits without a leading zero, or `0`, that are a number within these bounds
pub record IsNumberWithin (low high : ℕ) (text : List ℕ) (n : ℕ) : Type 0 where
  pub digits : text ≡ decimal n
  pub few : n < 1000000000
  pub least : low ≤ n
  pub most : n ≤ high

-- the options are none, and the number of steps is 20,000; or they are `--steps` with this number alone
abbrev pub GiveSteps : List Valued → ℕ → Type 0
GiveSteps [] steps = steps ≡ 20000
GiveSteps (option ∷ []) steps = (option.flag ≡ codes "--steps") × IsNumberWithin 1 65536 option.value steps
GiveSteps (first ∷ second ∷ rest) steps = ⊥

-- the plain arguments of a command
abbrev pub plain_of : Command → List (List ℕ)
plain_of (DecidePlain left right) = left.file ∷ left.name ∷ right.file ∷ right.name ∷ []
plain_of (Run run) = run.function.file ∷ run.function.name ∷ run.admission ∷ run.tests ∷ []
plain_of (Show function) = function.file ∷ function.name ∷ []

-- the arguments are this command
abbrev pub IsCommand : List (List ℕ) → Command → Type 0
IsCommand arguments (DecidePlain left right) = IsLine arguments (codes "decide") [] (plain_of (DecidePlain left right))
IsCommand arguments (Run run) =
    (options : List Valued) × IsLine arguments (codes "run") options (plain_of (Run run)) × GiveSteps options run.steps
IsCommand arguments (Show function) = IsLine arguments (codes "show") [] (plain_of (Show function))

-- the arguments are no command
abbrev pub IsUsageError : List (List ℕ) → Type 0
IsUsageError arguments = (command : Command) → IsCommand arguments command → ⊥

-- the arguments are a command of which this holds
abbrev pub OfCommand : List (List ℕ) → (Command → Type 0) → Type 0
OfCommand arguments Claim = (command : Command) × IsCommand arguments command × Claim command
