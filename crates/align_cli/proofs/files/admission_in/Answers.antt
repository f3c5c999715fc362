use Rattle.std.proofs.Common.{rules}
use Rattle.align_cli.specs.Files.{admission_file}
use Rattle.align_cli.specs.Inside.{StopsFile}
use Rattle.align_cli.proofs.Reaching.{err-is, admission-refused, take-stops, text-held, text-stops}
use Rattle.align_cli.proofs.files.admission_in.Goals as goal

pub returns-in_err-text-clause-err : goal.returns-in_err-text-clause-err
returns-in_err-text-clause-err g c =
    let file = admission_file c.args.name.now in
    err-is (StopsFile file (g.F.Shelf.account c.args.shelf.now) (g.F.Shelf.account c.text_in.new.shelf)) _ c.in_err-text.field-0.0 c.from_residual.ensures.1
    (take-stops file (g.F.Shelf.account c.args.shelf.now) (g.F.Shelf.account c.text_in.new.shelf) c.in_err-text.field-0.0 c.in_err-text.ensures.err)

pub returns-in-Ok-clause-ok : goal.returns-in-Ok-clause-ok
returns-in-Ok-clause-ok g c =
    let text = c.in_ok-text.ensures.ok in
    (text-held _ _ _ _ _ _ text.0 text.1 c.as_slice.ensures.value c.in-Ok.ensures.exact, c.in-Ok.ensures.formed)

pub returns-clause-err : goal.returns-clause-err
returns-clause-err g c =
    let text = c.in_ok-text.ensures.ok in
    text-stops (admission_file c.args.name.now) (g.F.Shelf.account c.args.shelf.now) (g.F.Shelf.account c.text_in.new.shelf) _ _ _ c.in_ok-text.ensures.none_failed text.0 text.1 c.as_slice.ensures.value
    (admission-refused _ _ _ c.in-Err.ensures.exact c.in_default.not-Memory (search rules))
