use Rattle.command_line.proofs.Commands.{command-once}
use Rattle.command_line.proofs.read.command_law.Goals as goal

pub returns : goal.returns
returns c = λ a b is too. command-once c.args.arguments.now a b is too
