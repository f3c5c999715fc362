use Rattle.std.proofs.Common.{inr}
use Rattle.std.proofs.lemmas.Result.{err_from_is_err_and}
use Rattle.serde_json.specs.View.{view}
use Rattle.tests_text.proofs.FileSteps.{file-err, file-many, file-ok}
use Rattle.tests_text.proofs.read.file_of.Goals as goal

pub returns-then-values-gt-MOST_TESTS : goal.returns-then-values-gt-MOST_TESTS
returns-then-values-gt-MOST_TESTS c =
    inr (file-many (view c.args.value.now) c.in-Some.values.now c.in-Some.ensures c.if-values-gt-MOST_TESTS.true)

pub returns-in_err-tests : goal.returns-in_err-tests
returns-in_err-tests c =
    let p = err_from_is_err_and c.from_residual.result c.from_residual.ensures.1 in
    rw (p.1, p.2) (file-err (view c.args.value.now) c.in-Some.values.now c.in_err-tests.field-0.0 c.in-Some.ensures c.if-values-gt-MOST_TESTS.false c.in_err-tests.ensures)

pub returns : goal.returns
returns c = file-ok (view c.args.value.now) c.in-Some.values.now c.in_ok-tests.tests c.in-Some.ensures c.if-values-gt-MOST_TESTS.false c.in_ok-tests.ensures
