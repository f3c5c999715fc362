use Rattle.std.proofs.Common.{◌≡◌, ◌≤◌, ◌+◌, length, drop, ap, ◌∙◌, arith}
use Rattle.std.proofs.lemmas.Result.{err_from_is_err_and}
use Rattle.serde_json.specs.Data.{Items}
use Rattle.serde_json.specs.View.{items_view, view}
use Rattle.tests_text.specs.ReadingTests.{tests_from}
use Rattle.tests_text.proofs.Filling.{view-end, view-more}
use Rattle.tests_text.proofs.Steps.{behind_those, test-more, test-stop, tests-end}
use Rattle.tests_text.proofs.read.tests_of.Goals as goal

pub returns-in_err-test : goal.returns-in_err-test
returns-in_err-test c =
    let h = c.loop-value in
    let xs = c.args.values.now in
    let p = err_from_is_err_and c.from_residual.result c.from_residual.ensures.1 in
    let left = view-more xs h.value-index c.value-item.result c.loop-value-test.true c.value-item.is in
    rw (p.1, p.2)
    (test-stop (tests_from 1 (items_view xs)) (h.k + 1) (view c.value-item.result) (items_view (drop (h.value-index + 1) xs)) h.tests c.in_err-test.field-0.0
    (h.invariant.0 ∙ ap (λ (ds : Items). behind_those h.tests (tests_from (h.k + 1) ds)) left) c.in_err-test.ensures)

pub loop-value-preserved : goal.loop-value-preserved
loop-value-preserved c =
    let h = c.loop-value in
    let xs = c.args.values.now in
    let left = view-more xs h.value-index c.value-item.result c.loop-value-test.true c.value-item.is in
    let count : h.k + 1 ≡ h.value-index + 1 = omega (arith, h.invariant.1) in (
      h.invariant.0 ∙ ap (λ (ds : Items). behind_those h.tests (tests_from (h.k + 1) ds)) left
          ∙ test-more (h.k + 1) (view c.value-item.result) (items_view (drop (h.value-index + 1) xs)) h.tests c.push.new.self c.in_ok-test.test c.in_ok-test.ensures c.in_ok-push.ensures.ok,
      count,
    )

pub returns : goal.returns
returns c =
    let h = c.loop-value in
    let xs = c.args.values.now in
    let over : length xs ≤ h.value-index = omega arith in
    h.invariant.0 ∙ ap (λ (ds : Items). behind_those h.tests (tests_from (h.k + 1) ds)) (view-end xs h.value-index over) ∙ tests-end (h.k + 1) h.tests
