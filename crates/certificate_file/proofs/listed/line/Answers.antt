use Rattle.std.proofs.Common.{ℕ, ◌-◌, ap, sym, ◌∙◌}
use Rattle.text_codes.specs.Readers.{line_at}
use Rattle.certificate_file.proofs.Fronts.{with_front, front_none, line_more, line_fails, line_done, left_whole, no_memory, as_fitted}
use Rattle.certificate_file.proofs.listed.line.Goals as goal

pub loop-left-init : goal.loop-left-init
loop-left-init g c = ap (λ vs. with_front vs (line_at g.T.Ended.read_at c.args.count c.args.text.now)) c.new-found.ensures.items ∙ front_none _

pub returns-in_err-value : goal.returns-in_err-value
returns-in_err-value g c =
    let at = ap (λ (b : ℕ). g.T.Ended.read_at b c.loop-left.rest.now) (sym c.end_at.ensures) ∙ c.in_err-value.ensures in
    left_whole _ _ c.in_err-value.field-0.0 _ c.from_residual.ensures.1
    (sym c.loop-left.invariant ∙ line_fails g.T.Ended.read_at c.loop-left.found.items c.loop-left.left c.loop-left.rest.now c.in_err-value.field-0.0.now c.loop-left-test.true at)

pub returns-in_err-push : goal.returns-in_err-push
returns-in_err-push g c = no_memory _ _ _ c.from_residual-in_err-push.ensures.1

pub loop-left-preserved : goal.loop-left-preserved
loop-left-preserved g c =
    let at = ap (λ (b : ℕ). g.T.Ended.read_at b c.loop-left.rest.now) (sym c.end_at.ensures) ∙ c.in_ok-value.ensures in
    ap (λ vs. with_front vs (line_at g.T.Ended.read_at (c.loop-left.left - 1) c.in_ok-value.after.now)) c.in_ok-push.ensures
    ∙ (sym (line_more g.T.Ended.read_at c.loop-left.found.items c.loop-left.left c.loop-left.rest.now c.in_ok-value.after.now c.in_ok-value.value c.loop-left-test.true at)
    ∙ c.loop-left.invariant)

pub returns : goal.returns
returns g c =
    as_fitted _ _ c.in_ok-fitted.field-0 _ c.in_ok-fitted.ensures
    (sym c.loop-left.invariant ∙ line_done g.T.Ended.read_at c.loop-left.found.items c.loop-left.left c.loop-left.rest.now c.loop-left-test.false)
