-- A command whose shelf tells has one report at most with each status.
use Rattle.std.proofs.Common.{◌≡◌, ℕ, ◌+◌, ◌↔◌, IsTrue, Bool, true, false, List, [], ◌∷◌, ◌++◌, length, Option, Some, refl, sym, ◌∙◌, ap, subst}
use Rattle.align_base.specs.Shelf.{Holding}
use Rattle.align_base.specs.declared.status.Status.{Status}
use Rattle.align_base.specs.declared.status.Status.TheVariants as status
use Rattle.insn_table.specs.declared.insn.Insn.{Insn}
use Rattle.insn_table.specs.declared.insn.Function.{Function}
use Rattle.flow_graph.specs.declared.control.Flow.{Flow}
use Rattle.flow_graph.specs.Flows.{flows_of}
use Rattle.admission.specs.declared.admission.Admission.{Admission}
use Rattle.tests_text.specs.declared.test.Tests.{Tests}
use Rattle.insn_text.specs.ShowText.{AreLines, IsShown, heading, insn_line}
use Rattle.plain_functions.proofs.Verdicts.{differently-left, differently-once, differently-right}
use Rattle.plain_functions.specs.Verdict.{ReturnDifferently}
use Rattle.align_report.proofs.OneReport.{one_text}
use Rattle.align_report.specs.PlainReport.{ReportsDifferent, ReportsEquivalent, different_report, equivalent_report}
use Rattle.align_report.specs.RunReport.{IsRunReport}
use Rattle.command_line.specs.Command.{Command, DecidePlain, Show}
use Rattle.command_line.specs.Command.{Run as ToRun}
use Rattle.align_cli.specs.Decide.{OfPlain}
use Rattle.align_cli.specs.Commands.{Says}
use Rattle.align_cli.proofs.Owing.{same_admission, same_functions, same_held, same_tests}

-- of functions that are equivalent
equivalent-once : (f g : List Insn) (x y : List ℕ) → ReportsEquivalent f g x → ReportsEquivalent f g y → x ≡ y
equivalent-once f g x y a b = a.report_is ∙ ap equivalent_report (a.equivalent.bound_is ∙ sym b.equivalent.bound_is) ∙ sym b.report_is

-- of functions that are different
different-once : (f g : List Insn) (x y : List ℕ) → ReportsDifferent f g x → ReportsDifferent f g y → x ≡ y
different-once f g x y a b =
    let regs = differently-once a.regs b.regs f g a.left_value a.right_value b.left_value b.right_value a.different b.different in
    let P : List ℕ → Type 0 = λ r. ReturnDifferently r f g a.left_value a.right_value in
    let moved : ReturnDifferently b.regs f g a.left_value a.right_value = subst P regs a.different in
    let left = differently-left b.regs f g a.left_value a.right_value b.left_value b.right_value moved b.different in
    let right = differently-right b.regs f g a.left_value a.right_value b.left_value b.right_value moved b.different in
    a.report_is
    ∙ ap (different_report (length f) (length g) a.left_value a.right_value) regs
    ∙ ap (λ (v : ℕ). different_report (length f) (length g) v a.right_value b.regs) left
    ∙ ap (λ (v : ℕ). different_report (length f) (length g) b.left_value v b.regs) right
    ∙ sym b.report_is

same_bool : (a b : Bool) (P : Type 0) → (IsTrue a ↔ P) → (IsTrue b ↔ P) → a ≡ b
same_bool true true P x y = refl
same_bool false false P x y = refl
same_bool true false P x y = absurd (let h : false ≡ true = y.1 (x.0 refl) in cc)
same_bool false true P x y = absurd (let h : false ≡ true = x.1 (y.0 refl) in cc)

lines-once : (flows : List Flow) (place : ℕ) (insns : List Insn) (x y : List ℕ) → AreLines flows place insns x → AreLines flows place insns y → x ≡ y
lines-once flows place [] x y a b = a ∙ sym b
lines-once flows place (i ∷ is) x y a b =
    let marked = same_bool a.0 b.0 _ a.2 b.2 in
    let rest = lines-once flows (place + 1) is a.1 b.1 a.4 b.4 in
    a.3 ∙ ap (λ (m : Bool). insn_line m place i ++ a.1) marked ∙ ap (λ (l : List ℕ). insn_line b.0 place i ++ l) rest ∙ sym b.3

-- of a function that is shown
shown-once : (f : Function) (x y : List ℕ) → IsShown f x → IsShown f y → x ≡ y
shown-once f x y a b =
    a.whole ∙ ap (λ (l : List ℕ). heading f ++ l) (lines-once (flows_of f.insns) 0 f.insns a.lines b.lines a.each b.each) ∙ sym b.whole

-- of each command
module _ (told : Option Holding) (held : Holding) (tells : told ≡ Some held) (x y : List ℕ) where
  pub says-once : (command : Command) (s : Status) → Says command s told x → Says command s told y → x ≡ y
  says-once (DecidePlain left right) status.Good a b =
      equivalent-once b.f.insns b.g.insns x y
      (same_functions (OfPlain (λ f g. ReportsEquivalent f g x)) (OfPlain (λ f g. ReportsEquivalent f g y)) told held left right tells a b).2 b.claim.2
  says-once (DecidePlain left right) status.Negative a b =
      different-once b.f.insns b.g.insns x y
      (same_functions (OfPlain (λ f g. ReportsDifferent f g x)) (OfPlain (λ f g. ReportsDifferent f g y)) told held left right tells a b).2 b.claim.2
  says-once (DecidePlain left right) _ a b = absurd a
  says-once (ToRun run) status.Good a b =
      let f = same_held told held run.function a.f b.f tells a.function_holds b.function_holds in
      let admission = same_admission told held run.admission a.a b.a tells a.admission_holds b.admission_holds in
      let tests = same_tests told held run.tests a.tests b.tests tells a.tests_holds b.tests_holds in
      let P : Function → Type 0 = λ f. IsRunReport f a.a a.tests run.steps x in
      let Q : Admission → Type 0 = λ a'. IsRunReport b.f a' a.tests run.steps x in
      let R : Tests → Type 0 = λ t. IsRunReport b.f b.a t run.steps x in
      one_text b.f b.a run.steps 1 b.tests.tests x y (subst R tests (subst Q admission (subst P f a.claim))) b.claim
  says-once (ToRun run) _ a b = absurd a
  says-once (Show function) status.Good a b =
      let f = same_held told held function a.f b.f tells a.holds b.holds in
      let P : Function → Type 0 = λ f. IsShown f x in
      shown-once b.f x y (subst P f a.claim) b.claim
  says-once (Show function) _ a b = absurd a
