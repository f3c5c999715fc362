-- What contracts see of the code's types.
use Rattle.command_line.specs.Command as plain
use Rattle.command_line.specs.View.{function_view, run_view}
use Rattle.command_line.specs.declared.command.FunctionArguments.{FunctionArguments}
use Rattle.command_line.specs.declared.command.RunArguments.{RunArguments}

-- the command to decide two functions
abbrev pub decide_view : FunctionArguments → FunctionArguments → plain.Command
decide_view left right = plain.DecidePlain (function_view left) (function_view right)

-- the command to show a function
abbrev pub show_command : FunctionArguments → plain.Command
show_command arguments = plain.Show (function_view arguments)

-- the command to run a function
abbrev pub run_command : RunArguments → plain.Command
run_command arguments = plain.Run (run_view arguments)
