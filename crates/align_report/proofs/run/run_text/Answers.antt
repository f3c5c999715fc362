use Rattle.std.proofs.Common.{◌≡◌, ℕ, ◌+◌, ◌<◌, ◌∷◌, ◌++◌, [], List, length, string_bytes, take, sym, ◌∙◌, ap, subst, arith, rules}
use Rattle.std.proofs.lemmas.List.{length-take-le, take_more}
use Rattle.tests_text.specs.declared.test.Test.{Test}
use Rattle.align_report.specs.RunReport.{AreTestReports}
use Rattle.align_report.proofs.Running.{reports_more}
use Rattle.align_report.proofs.run.run_text.Goals as goal

pub loop-test-preserved : goal.loop-test-preserved
loop-test-preserved c =
    let below : c.loop-test.test-index < length c.args.tests.now.tests = search rules in
    let read : length (take c.loop-test.test-index c.args.tests.now.tests) ≡ c.loop-test.test-index = length-take-le c.loop-test.test-index c.args.tests.now.tests (omega arith) in
    let more : take (c.loop-test.test-index + 1) c.args.tests.now.tests ≡ take c.loop-test.test-index c.args.tests.now.tests ++ c.test-item.result ∷ [] =
    take_more c.args.tests.now.tests c.loop-test.test-index c.test-item.result below
    ∙ ap (λ (t : Test). take c.loop-test.test-index c.args.tests.now.tests ++ t ∷ []) (search rules) in (
      subst (λ (ts : List Test). AreTestReports c.args.f.now c.args.admission.now c.args.steps 1 ts (string_bytes c.push_test.new.out)) (sym more)
          (subst (λ (text : List ℕ). AreTestReports c.args.f.now c.args.admission.now c.args.steps 1 (take c.loop-test.test-index c.args.tests.now.tests ++ c.test-item.result ∷ []) text)
          (sym c.in_ok-push_test.ensures.lines)
          (reports_more c.args.f.now c.args.admission.now c.args.steps 1 (c.loop-test.k + 1) (take c.loop-test.test-index c.args.tests.now.tests) c.test-item.result
          (string_bytes c.loop-test.out) c.in_ok-push_test.ensures.here c.loop-test.invariant.0 (omega (arith, read, c.loop-test.invariant.1)) c.in_ok-push_test.ensures.is)),
      omega (arith, c.loop-test.invariant.1),
    )
