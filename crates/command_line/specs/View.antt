-- What contracts see of the code's types.
use Rattle.std.specs.Prelude.{map}
use Rattle.command_line.specs.Command as command
use Rattle.command_line.specs.Parts as parts
use Rattle.command_line.specs.Reading as reading
use Rattle.command_line.specs.declared.command.Command.{Command}
use Rattle.command_line.specs.declared.command.Command.TheVariants.{DecidePlain, Run, Show}
use Rattle.command_line.specs.declared.command.FunctionArguments.{FunctionArguments}
use Rattle.command_line.specs.declared.command.RunArguments.{RunArguments}
use Rattle.command_line.specs.declared.line.Item.{Item}
use Rattle.command_line.specs.declared.line.Item.TheVariants as item
use Rattle.command_line.specs.declared.line.Line.{Line}
use Rattle.command_line.specs.declared.line.Mode.{Mode}
use Rattle.command_line.specs.declared.line.Mode.TheVariants as mode
use Rattle.command_line.specs.declared.line.Valued.{Valued}

-- an option
abbrev pub option_view : Valued → parts.Valued
option_view option = record { flag = option.flag.now; value = option.value.now }

-- what one argument adds
abbrev pub item_view : Item → reading.Item
item_view item.Nothing = reading.Nothing
item_view (item.Bare text) = reading.Bare text.now
item_view (item.WithValue option) = reading.WithValue (option_view option)

-- what the arguments before leave open
abbrev pub mode_view : Mode → reading.Mode
mode_view mode.Usual = reading.Usual
mode_view (mode.ValueOf flag) = reading.ValueOf flag.now
mode_view mode.AllPlain = reading.AllPlain

-- options and plain arguments
abbrev pub line_view : Line → reading.Line
line_view line = record { options = map option_view line.options.items; plain = map (λ text. text.now) line.plain.items }

-- the arguments of a function
abbrev pub function_view : FunctionArguments → command.FunctionArguments
function_view arguments = record { file = arguments.file; name = arguments.name }

-- the arguments of a run
abbrev pub run_view : RunArguments → command.RunArguments
run_view arguments = record {
  function = function_view arguments.function;
  admission = arguments.admission;
  tests = arguments.tests;
  steps = arguments.steps;
}

-- a command
abbrev pub command_view : Command → command.Command
command_view (DecidePlain left right) = command.DecidePlain (function_view left) (function_view right)
command_view (Run arguments) = command.Run (run_view arguments)
command_view (Show function) = command.Show (function_view function)
