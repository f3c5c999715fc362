use Rattle.std.proofs.Common.{ℕ, List, [], refl, subst}
use Rattle.align_report.specs.Refusals.{lone_file}
use Rattle.command_line.specs.Command.{Show}
use Rattle.command_line.specs.View.{function_view}
use Rattle.align_cli.specs.Files.{function_file}
use Rattle.align_cli.specs.Inside.{StopsCommand, StopsFile}
use Rattle.align_cli.proofs.Reaching.{err-is, first-stops}
use Rattle.align_cli.proofs.show.shown.Goals as goal

pub returns-in_err-function-clause-err : goal.returns-in_err-function-clause-err
returns-in_err-function-clause-err g c =
    let arguments = function_view c.args.arguments.now in
    let P : List ℕ → Type 0 = λ called. StopsFile (function_file called arguments) (g.F.Shelf.account c.args.shelf.now) (g.F.Shelf.account c.function_in.new.shelf) c.in_err-function.field-0.0 in
    err-is (StopsCommand _ _ _) _ c.in_err-function.field-0.0 c.from_residual.ensures.1
    (first-stops (Show arguments) (g.F.Shelf.account c.args.shelf.now) (g.F.Shelf.account c.function_in.new.shelf) (function_file lone_file arguments)
    [] refl c.function_in.ensures.taken c.in_err-function.field-0.0 (subst P c.lone_file.ensures c.in_err-function.ensures.err))
