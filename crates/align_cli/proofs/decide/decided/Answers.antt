use Rattle.std.proofs.Common.{ℕ, List, ◌∷◌, [], arith, refl, subst}
use Rattle.insn_ops.specs.declared.side.Side.TheVariants.{Left, Right}
use Rattle.align_report.specs.PlainReport.{side_name}
use Rattle.command_line.specs.Command.{DecidePlain}
use Rattle.command_line.specs.View.{function_view}
use Rattle.align_cli.specs.Files.{function_file}
use Rattle.align_cli.specs.Inside.{StopsCommand, StopsFile}
use Rattle.align_cli.proofs.Reaching.{counted_twice, decide-finishes, decide-first, decide-stops, err-is, err-map, first-stops, next-stops, ok-map}
use Rattle.align_cli.proofs.decide.decided.Goals as goal

pub returns-in_err-f-clause-err : goal.returns-in_err-f-clause-err
returns-in_err-f-clause-err g c =
    let left = function_view c.args.left.now in
    let right = function_view c.args.right.now in
    let P : List ℕ → Type 0 = λ called. StopsFile (function_file called left) (g.F.Shelf.account c.args.shelf.now) (g.F.Shelf.account c.function_in.new.shelf) c.in_err-f.field-0.0 in
    err-is (StopsCommand _ _ _) _ c.in_err-f.field-0.0 c.from_residual.ensures.1
    (first-stops (DecidePlain left right) (g.F.Shelf.account c.args.shelf.now) (g.F.Shelf.account c.function_in.new.shelf) (function_file (side_name Left) left) (function_file (side_name Right) right ∷ [])
    refl c.function_in.ensures.taken c.in_err-f.field-0.0 (subst P c.side_name.ensures c.in_err-f.ensures.err))

pub returns-in_err-g-clause-takes : goal.returns-in_err-g-clause-takes
returns-in_err-g-clause-takes g c = (2, omega arith, counted_twice _ _ _ c.function_in.ensures.taken c.function_in-2.ensures.taken)

pub returns-in_err-g-clause-err : goal.returns-in_err-g-clause-err
returns-in_err-g-clause-err g c =
    let left = function_view c.args.left.now in
    let right = function_view c.args.right.now in
    let so_far = decide-first left right (g.F.Shelf.account c.args.shelf.now) (g.F.Shelf.account c.function_in.new.shelf) _ c.in_ok-f.ensures.ok
    c.function_in.ensures.holding c.function_in.ensures.taken c.in_ok-f.ensures.none_failed in
    let P : List ℕ → Type 0 = λ called. StopsFile (function_file called right) (g.F.Shelf.account c.function_in.new.shelf) (g.F.Shelf.account c.function_in-2.new.shelf) c.in_err-g.field-0.0 in
    err-is (StopsCommand _ _ _) _ c.in_err-g.field-0.0 c.from_residual-in_err-g.ensures.1
    (next-stops (DecidePlain left right) (g.F.Shelf.account c.args.shelf.now) (g.F.Shelf.account c.function_in.new.shelf) (g.F.Shelf.account c.function_in-2.new.shelf) (function_file (side_name Left) left ∷ []) (function_file (side_name Right) right) []
    so_far c.function_in-2.ensures.taken c.in_err-g.field-0.0 (subst P c.side_name-2.ensures c.in_err-g.ensures.err))

pub returns-clause-takes : goal.returns-clause-takes
returns-clause-takes g c = (2, omega arith, counted_twice _ _ _ c.function_in.ensures.taken c.function_in-2.ensures.taken)

pub returns-clause-ok : goal.returns-clause-ok
returns-clause-ok g c =
    let left = function_view c.args.left.now in
    let right = function_view c.args.right.now in
    let so_far = decide-first left right (g.F.Shelf.account c.args.shelf.now) (g.F.Shelf.account c.function_in.new.shelf) _ c.in_ok-f.ensures.ok
    c.function_in.ensures.holding c.function_in.ensures.taken c.in_ok-f.ensures.none_failed in
    ok-map _ _ c.judged.result
    (λ answer says. decide-finishes left right (g.F.Shelf.account c.args.shelf.now) (g.F.Shelf.account c.function_in.new.shelf) (g.F.Shelf.account c.function_in-2.new.shelf) so_far _ _ c.in_ok-f.ensures.ok.0 c.in_ok-g.ensures.ok.0
    c.function_in-2.ensures.holding c.function_in-2.ensures.taken c.in_ok-g.ensures.none_failed answer.status answer.report.items says)
    c.judged.ensures.ok

pub returns-clause-err : goal.returns-clause-err
returns-clause-err g c =
    let left = function_view c.args.left.now in
    let right = function_view c.args.right.now in
    let so_far = decide-first left right (g.F.Shelf.account c.args.shelf.now) (g.F.Shelf.account c.function_in.new.shelf) _ c.in_ok-f.ensures.ok
    c.function_in.ensures.holding c.function_in.ensures.taken c.in_ok-f.ensures.none_failed in
    err-map _ _ c.judged.result
    (λ stop stops. decide-stops left right (g.F.Shelf.account c.args.shelf.now) (g.F.Shelf.account c.function_in.new.shelf) (g.F.Shelf.account c.function_in-2.new.shelf) so_far _ _ c.in_ok-f.ensures.ok.0 c.in_ok-g.ensures.ok.0
    c.function_in-2.ensures.holding c.function_in-2.ensures.taken c.in_ok-g.ensures.none_failed stop stops)
    c.judged.ensures.err
