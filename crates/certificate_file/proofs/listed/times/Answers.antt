use Rattle.std.proofs.Common.{◌-◌, ap, sym, ◌∙◌}
use Rattle.text_codes.specs.Readers.{times_at}
use Rattle.certificate_file.proofs.Fronts.{with_front, front_none, times_more, times_fails, times_done, stops_whole, no_memory, as_fitted}
use Rattle.certificate_file.proofs.listed.times.Goals as goal

pub loop-left-init : goal.loop-left-init
loop-left-init g c = ap (λ vs. with_front vs (times_at g.T.Spelled.read_at c.args.count c.args.text.now)) c.new-found.ensures.items ∙ front_none _

pub returns-in_err-value : goal.returns-in_err-value
returns-in_err-value g c =
    stops_whole _ _ c.in_err-value.field-0.0 _ _ c.from_residual.ensures.1 c.in_err-value.ensures
    (λ left e. sym c.loop-left.invariant ∙ times_fails g.T.Spelled.read_at c.loop-left.found.items c.loop-left.left c.loop-left.rest.now left c.loop-left-test.true e)

pub returns-in_err-push : goal.returns-in_err-push
returns-in_err-push g c = no_memory _ _ _ c.from_residual-in_err-push.ensures.1

pub loop-left-preserved : goal.loop-left-preserved
loop-left-preserved g c =
    ap (λ vs. with_front vs (times_at g.T.Spelled.read_at (c.loop-left.left - 1) c.in_ok-value.after.now)) c.in_ok-push.ensures
    ∙ (sym (times_more g.T.Spelled.read_at c.loop-left.found.items c.loop-left.left c.loop-left.rest.now c.in_ok-value.after.now c.in_ok-value.value c.loop-left-test.true c.in_ok-value.ensures)
    ∙ c.loop-left.invariant)

pub returns : goal.returns
returns g c =
    as_fitted _ _ c.in_ok-fitted.field-0 _ c.in_ok-fitted.ensures
    (sym c.loop-left.invariant ∙ times_done g.T.Spelled.read_at c.loop-left.found.items c.loop-left.left c.loop-left.rest.now c.loop-left-test.false)
