use Rattle.std.proofs.Common.{suc, length, ap, sym, ◌∙◌}
use Rattle.text_codes.specs.Readers.{linked_at}
use Rattle.certificate_file.specs.StepReading.{pair_of_at}
use Rattle.certificate_file.proofs.Fronts.{with_front, front_none, left_whole, as_fitted}
use Rattle.certificate_file.proofs.Turns.{pair_shorter, linked_more, linked_done, linked_fails}
use Rattle.certificate_file.proofs.step_lines.pairs.Goals as goal

pub loop-last-init : goal.loop-last-init
loop-last-init c = ap (λ vs. with_front vs (linked_at pair_of_at (suc (length c.args.text.now)) c.args.end c.args.text.now)) c.new-found.ensures.items ∙ front_none _

pub returns-in_err-next : goal.returns-in_err-next
returns-in_err-next c =
    left_whole _ _ c.in_err-next.field-0.0 _ c.from_residual.ensures.1
    (sym c.loop-last.invariant ∙ linked_fails pair_of_at pair_shorter c.loop-last.found.items c.loop-last.last c.loop-last.rest.now c.in_err-next.field-0.0.now
    c.loop-last-test.true c.in_err-next.ensures)

pub loop-last-smaller : goal.loop-last-smaller
loop-last-smaller c = pair_shorter c.loop-last.rest.now c.in_ok-next.after.now (c.in_ok-next.next, c.in_ok-next.end) c.in_ok-next.ensures

pub loop-last-preserved : goal.loop-last-preserved
loop-last-preserved c =
    ap (λ vs. with_front vs (linked_at pair_of_at (suc (length c.in_ok-next.after.now)) c.in_ok-next.end c.in_ok-next.after.now)) c.in_ok-push.ensures
    ∙ (sym (linked_more pair_of_at pair_shorter c.loop-last.found.items c.loop-last.last c.loop-last.rest.now c.in_ok-next.after.now c.in_ok-next.next c.in_ok-next.end
    c.loop-last-test.true c.in_ok-next.ensures)
    ∙ c.loop-last.invariant)

pub returns : goal.returns
returns c =
    as_fitted _ _ c.in_ok-fitted.field-0 _ c.in_ok-fitted.ensures
    (sym c.loop-last.invariant ∙ linked_done pair_of_at pair_shorter c.loop-last.found.items c.loop-last.last c.loop-last.rest.now c.loop-last-test.false)
