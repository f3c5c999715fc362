-- What writing the report of a test appends to a text.
use Rattle.std.specs.Prelude.{◌≡◌, ℕ, List, ◌++◌}
use Rattle.insn_table.specs.declared.insn.Function.{Function}
use Rattle.admission.specs.declared.admission.Admission.{Admission}
use Rattle.tests_text.specs.declared.test.Test.{Test}
use Rattle.align_report.specs.RunReport.{IsTestReport}

-- the report of test k was appended
pub record AppendsTest (f : Function) (a : Admission) (steps k : ℕ) (t : Test) (before after : List ℕ) : Type 0 where
  pub here : List ℕ
  pub lines : after ≡ before ++ here
  pub is : IsTestReport f a steps k t here
