use Rattle.std.proofs.Common.{◌≡◌, string_bytes, take}
use Rattle.align_report.specs.RunReport.{AreTestReports}
use Rattle.align_report.proofs.run.run_text.Given as goal

abbrev pub invariant-loop-test : goal.invariant-loop-test
invariant-loop-test l = AreTestReports l.f l.admission l.steps 1 (take l.test-index l.tests.tests) (string_bytes l.out) × (l.k ≡ l.test-index)
