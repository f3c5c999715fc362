use Rattle.std.proofs.Common.{ℕ, List, ◌∷◌, [], arith, refl, subst}
use Rattle.align_base.specs.declared.status.Status.TheVariants as status
use Rattle.align_report.specs.Refusals.{lone_file}
use Rattle.command_line.specs.Command.{Run}
use Rattle.command_line.specs.View.{run_view}
use Rattle.align_cli.specs.Answers.{TellsOf}
use Rattle.align_cli.specs.Files.{admission_file, function_file, tests_file}
use Rattle.align_cli.specs.Inside.{StopsCommand, StopsFile}
use Rattle.align_cli.proofs.Reaching.{answer-as, counted_thrice, counted_twice, err-is, first-stops, next-stops, run-finishes, run-first, run-second}
use Rattle.align_cli.proofs.run.ran.Goals as goal

pub returns-in_err-function-clause-err : goal.returns-in_err-function-clause-err
returns-in_err-function-clause-err g c =
    let run = run_view c.args.arguments.now in
    let P : List ℕ → Type 0 = λ called. StopsFile (function_file called run.function) (g.F.Shelf.account c.args.shelf.now) (g.F.Shelf.account c.function_in.new.shelf) c.in_err-function.field-0.0 in
    err-is (StopsCommand _ _ _) _ c.in_err-function.field-0.0 c.from_residual.ensures.1
    (first-stops (Run run) (g.F.Shelf.account c.args.shelf.now) (g.F.Shelf.account c.function_in.new.shelf) (function_file lone_file run.function)
    (admission_file run.admission ∷ tests_file run.tests ∷ []) refl c.function_in.ensures.taken c.in_err-function.field-0.0 (subst P c.lone_file.ensures c.in_err-function.ensures.err))

pub returns-in_err-admission-clause-takes : goal.returns-in_err-admission-clause-takes
returns-in_err-admission-clause-takes g c = (2, omega arith, counted_twice _ _ _ c.function_in.ensures.taken c.admission_in.ensures.taken)

pub returns-in_err-admission-clause-err : goal.returns-in_err-admission-clause-err
returns-in_err-admission-clause-err g c =
    let run = run_view c.args.arguments.now in
    let so_far = run-first run (g.F.Shelf.account c.args.shelf.now) (g.F.Shelf.account c.function_in.new.shelf) _ c.in_ok-function.ensures.ok
    c.function_in.ensures.holding c.function_in.ensures.taken c.in_ok-function.ensures.none_failed in
    err-is (StopsCommand _ _ _) _ c.in_err-admission.field-0.0 c.from_residual-in_err-admission.ensures.1
    (next-stops (Run run) (g.F.Shelf.account c.args.shelf.now) (g.F.Shelf.account c.function_in.new.shelf) (g.F.Shelf.account c.admission_in.new.shelf)
    (function_file lone_file run.function ∷ []) (admission_file run.admission) (tests_file run.tests ∷ []) so_far c.admission_in.ensures.taken
    c.in_err-admission.field-0.0 c.in_err-admission.ensures.err)

pub returns-in_err-tests-clause-takes : goal.returns-in_err-tests-clause-takes
returns-in_err-tests-clause-takes g c = (3, omega arith, counted_thrice _ _ _ _ c.function_in.ensures.taken c.admission_in.ensures.taken c.tests_in.ensures.taken)

pub returns-in_err-tests-clause-err : goal.returns-in_err-tests-clause-err
returns-in_err-tests-clause-err g c =
    let run = run_view c.args.arguments.now in
    let one = run-first run (g.F.Shelf.account c.args.shelf.now) (g.F.Shelf.account c.function_in.new.shelf) _ c.in_ok-function.ensures.ok
    c.function_in.ensures.holding c.function_in.ensures.taken c.in_ok-function.ensures.none_failed in
    let two = run-second run (g.F.Shelf.account c.args.shelf.now) (g.F.Shelf.account c.function_in.new.shelf) (g.F.Shelf.account c.admission_in.new.shelf) one _
    c.in_ok-admission.ensures.ok c.admission_in.ensures.holding c.admission_in.ensures.taken c.in_ok-admission.ensures.none_failed in
    err-is (StopsCommand _ _ _) _ c.in_err-tests.field-0.0 c.from_residual-in_err-tests.ensures.1
    (next-stops (Run run) (g.F.Shelf.account c.args.shelf.now) (g.F.Shelf.account c.admission_in.new.shelf) (g.F.Shelf.account c.tests_in.new.shelf)
    (function_file lone_file run.function ∷ admission_file run.admission ∷ []) (tests_file run.tests) [] two c.tests_in.ensures.taken
    c.in_err-tests.field-0.0 c.in_err-tests.ensures.err)

pub returns-in_err-run_text-clause-takes : goal.returns-in_err-run_text-clause-takes
returns-in_err-run_text-clause-takes g c = (3, omega arith, counted_thrice _ _ _ _ c.function_in.ensures.taken c.admission_in.ensures.taken c.tests_in.ensures.taken)

pub returns-clause-takes : goal.returns-clause-takes
returns-clause-takes g c = (3, omega arith, counted_thrice _ _ _ _ c.function_in.ensures.taken c.admission_in.ensures.taken c.tests_in.ensures.taken)

pub returns-clause-ok : goal.returns-clause-ok
returns-clause-ok g c =
    let run = run_view c.args.arguments.now in
    let is_f = c.in_ok-function.ensures.ok in
    let is_a = c.in_ok-admission.ensures.ok in
    let is_t = c.in_ok-tests.ensures.ok in
    let one = run-first run (g.F.Shelf.account c.args.shelf.now) (g.F.Shelf.account c.function_in.new.shelf) _ is_f
    c.function_in.ensures.holding c.function_in.ensures.taken c.in_ok-function.ensures.none_failed in
    let two = run-second run (g.F.Shelf.account c.args.shelf.now) (g.F.Shelf.account c.function_in.new.shelf) (g.F.Shelf.account c.admission_in.new.shelf) one _
    is_a c.admission_in.ensures.holding c.admission_in.ensures.taken c.in_ok-admission.ensures.none_failed in
    answer-as (λ s report. TellsOf (Run run) s (g.F.Shelf.account c.args.shelf.now) (g.F.Shelf.account c.tests_in.new.shelf) report) status.Good _ _ _
    c.new.ensures.status c.new.ensures.report
    (run-finishes run (g.F.Shelf.account c.args.shelf.now) (g.F.Shelf.account c.function_in.new.shelf) (g.F.Shelf.account c.admission_in.new.shelf) (g.F.Shelf.account c.tests_in.new.shelf)
    _ is_f c.function_in.ensures.holding _ is_a two _ is_t c.tests_in.ensures.holding c.tests_in.ensures.taken c.in_ok-tests.ensures.none_failed _ c.in_ok-run_text.ensures)
