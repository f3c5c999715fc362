use Rattle.align_report.proofs.OneReport.{one_text}
use Rattle.align_report.proofs.law.run_report_law.Goals as goal

pub returns : goal.returns
returns c = λ f a tests steps x y. one_text f a steps 1 tests.tests x y
