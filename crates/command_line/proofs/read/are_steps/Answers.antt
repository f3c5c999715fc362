use Rattle.std.proofs.Common.{◌≡◌, None, rules, slice_get}
use Rattle.command_line.proofs.Steps.{steps-none}
use Rattle.command_line.proofs.read.are_steps.Goals as goal

pub returns-in-None : goal.returns-in-None
returns-in-None c =
    let none : slice_get c.args.line.now.options.items 0 ≡ None = search rules in
    steps-none c.args.line.now.options.items none
