-- The values of a command's arguments as `clap` reads them.
use Rattle.std.specs.Prelude.{◌≡◌, ℕ, ◌<◌, ◌^◌, List, [], ◌∷◌, ◌++◌, map, codes, decimal, Some}
use Rattle.clap.specs.Words.{App, Rule, first_value, found_of, new_app, new_rule, one_text, with_rule}
use Rattle.clap.specs.declared.builder.value_parser.ValueParser.TheVariants as vp
use Rattle.clap.specs.declared.parser.matches.ArgMatches.{ArgMatches}
use Rattle.command_line.specs.Command.{Command, DecidePlain, GiveSteps, Run, Show, plain_of}
use Rattle.command_line.specs.Parts.{Valued}
use Rattle.command_line.specs.Reading.{Line}
use Rattle.command_line.specs.declared.command.CommandForm.{CommandForm}
use Rattle.command_line.specs.declared.command.CommandForm.TheVariants as form

-- what a command is called
abbrev pub name_of : CommandForm → List ℕ
name_of form.DecidePlain = codes "decide"
name_of form.Run = codes "run"
name_of form.Show = codes "show"

-- options and plain arguments are those of this command, which has this form
abbrev pub AreOf : CommandForm → Line → Command → Type 0
AreOf form.DecidePlain line (DecidePlain left right) = (line.options ≡ []) × (line.plain ≡ plain_of (DecidePlain left right))
AreOf form.Run line (Run run) = (line.plain ≡ plain_of (Run run)) × GiveSteps line.options run.steps
AreOf form.Show line (Show function) = (line.options ≡ []) × (line.plain ≡ plain_of (Show function))
AreOf _ line command = ⊥

-- the name, the options and the plain arguments are those of some command of this form
abbrev pub IsOfForm : List ℕ → Line → CommandForm → Type 0
IsOfForm name line form = (name ≡ name_of form) × ((command : Command) × AreOf form line command)

-- an option as one argument
abbrev pub joined_option : Valued → List ℕ
joined_option option = option.flag ++ codes "=" ++ option.value

-- the arguments that the parser is given: the command's name, each option as one argument, `--` and the plain ones
abbrev pub parser_words : List ℕ → Line → List (List ℕ)
parser_words name line = name ∷ (map joined_option line.options ++ codes "--" ∷ line.plain)

-- the option `--steps`: a number from 1 to 65,536, and 20,000 where it is not given
abbrev pub steps_rule : Rule
steps_rule = record (new_rule (codes "steps")) {
  long = Some (codes "steps");
  parser = Some (vp.Unsigned 1 65536);
  defaults = codes "20000" ∷ [];
}

-- the parser of `decide LEFT F RIGHT G`
abbrev pub decide_parser : App
decide_parser =
    with_rule (with_rule (with_rule (with_rule (new_app (codes "decide")) (new_rule (codes "left"))) (new_rule (codes "left_function")))
    (new_rule (codes "right"))) (new_rule (codes "right_function"))

-- the parser of `run FILE F ADMIT TESTS`
abbrev pub run_parser : App
run_parser =
    with_rule (with_rule (with_rule (with_rule (with_rule (new_app (codes "run")) steps_rule) (new_rule (codes "file")))
    (new_rule (codes "function"))) (new_rule (codes "admission"))) (new_rule (codes "tests"))

-- the parser of `show FILE F`
abbrev pub show_parser : App
show_parser = with_rule (with_rule (new_app (codes "show")) (new_rule (codes "file"))) (new_rule (codes "function"))

-- the words are those of this command, which has this form
pub record AreWords (form : CommandForm) (words : List (List ℕ)) (command : Command) : Type 0 where
  pub line : Line
  pub whole : words ≡ parser_words (name_of form) line
  pub values : AreOf form line command

-- the matches of a parse have this text under this name
abbrev pub GivesValue : ArgMatches → List ℕ → List ℕ → Type 0
GivesValue matches id text = first_value (found_of matches) id ≡ Some text

-- the matches have the values of this command
abbrev pub GivesCommand : ArgMatches → Command → Type 0
GivesCommand matches (DecidePlain left right) =
    GivesValue matches (codes "left") left.file × GivesValue matches (codes "left_function") left.name
    × GivesValue matches (codes "right") right.file × GivesValue matches (codes "right_function") right.name
GivesCommand matches (Run run) =
    GivesValue matches (codes "file") run.function.file × GivesValue matches (codes "function") run.function.name
    × GivesValue matches (codes "admission") run.admission × GivesValue matches (codes "tests") run.tests
    × (one_text (found_of matches) (codes "steps") ≡ Some (decimal run.steps)) × (run.steps < 2 ^ 64)
GivesCommand matches (Show function) = GivesValue matches (codes "file") function.file × GivesValue matches (codes "function") function.name
