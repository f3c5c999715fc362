use Rattle.std.proofs.Common.{rules}
use Rattle.command_line.specs.View.{function_view}
use Rattle.align_cli.specs.Files.{function_file}
use Rattle.align_cli.specs.Inside.{StopsFile}
use Rattle.align_cli.proofs.Reaching.{err-is, function-held, function-refused, take-stops, text-stops}
use Rattle.align_cli.proofs.files.function_in.Goals as goal

pub returns-in_err-text-clause-err : goal.returns-in_err-text-clause-err
returns-in_err-text-clause-err g c =
    let file = function_file c.args.called.now (function_view c.args.arguments.now) in
    err-is (StopsFile file (g.F.Shelf.account c.args.shelf.now) (g.F.Shelf.account c.text_in.new.shelf)) _ c.in_err-text.field-0.0 c.from_residual.ensures.1
    (take-stops file (g.F.Shelf.account c.args.shelf.now) (g.F.Shelf.account c.text_in.new.shelf) c.in_err-text.field-0.0 c.in_err-text.ensures.err)

pub returns-in-Ok-clause-ok : goal.returns-in-Ok-clause-ok
returns-in-Ok-clause-ok g c =
    let text = c.in_ok-text.ensures.ok in
    function-held _ _ _ _ _ text.0 text.1 c.as_slice.ensures.value c.in-Ok.ensures.exact c.in-Ok.ensures.closed

pub returns-clause-err : goal.returns-clause-err
returns-clause-err g c =
    let text = c.in_ok-text.ensures.ok in
    let arguments = function_view c.args.arguments.now in
    text-stops (function_file c.args.called.now arguments) (g.F.Shelf.account c.args.shelf.now) (g.F.Shelf.account c.text_in.new.shelf) _ _ _ c.in_ok-text.ensures.none_failed text.0 text.1 c.as_slice.ensures.value
    (function-refused c.args.called.now arguments.name _ _ _ c.in-Err.ensures.exact c.in_default.not-Memory (search rules))
