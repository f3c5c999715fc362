use Rattle.std.proofs.Common.{◌-◌, ◌+◌, ap, sym, ◌∙◌, arith}
use Rattle.text_codes.specs.Readers.{numbered_at}
use Rattle.certificate_file.specs.ProductReading.{node_at}
use Rattle.certificate_file.proofs.Fronts.{with_front, numbered_more, numbered_fails, numbered_done, numbered_start, stops_whole, as_fitted}
use Rattle.certificate_file.proofs.tree_lines.nodes_of.Goals as goal

pub loop-number-init : goal.loop-number-init
loop-number-init c = (numbered_start node_at c.new-found.result.items c.args.count c.args.text.now c.new-found.ensures.items, omega arith)

pub returns-in_err-node : goal.returns-in_err-node
returns-in_err-node c =
    stops_whole _ _ c.in_err-node.field-0.0 _ _ c.from_residual.ensures.1 c.in_err-node.ensures
    (λ left e. sym c.loop-number.invariant.0 ∙ numbered_fails node_at c.loop-number.found.items c.loop-number.number c.args.count c.loop-number.rest.now left c.loop-number-test.true e)

pub loop-number-preserved : goal.loop-number-preserved
loop-number-preserved c = (
  ap (λ vs. with_front vs (numbered_at node_at (c.loop-number.number + 1) (c.args.count - (c.loop-number.number + 1)) c.in_ok-node.after.now)) c.in_ok-push.ensures
      ∙ (sym (numbered_more node_at c.loop-number.found.items c.loop-number.number c.args.count c.loop-number.rest.now c.in_ok-node.after.now c.in_ok-node.node c.loop-number-test.true c.in_ok-node.ensures)
      ∙ c.loop-number.invariant.0),
  omega arith,
)

pub returns : goal.returns
returns c =
    as_fitted _ _ c.in_ok-fitted.field-0 _ c.in_ok-fitted.ensures
    (sym c.loop-number.invariant.0 ∙ numbered_done node_at c.loop-number.found.items c.loop-number.number c.args.count c.loop-number.rest.now c.loop-number-test.false)
