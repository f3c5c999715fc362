use Rattle.std.proofs.Common.{[], ◌∷◌}
use Rattle.std.specs.Prelude.{slice_index}
use Rattle.clause_gates.specs.Gates.{negation}
use Rattle.node_values.specs.declared.node.NodeId.{NodeId}
use Rattle.clause_rows.specs.DutyClauses.{lowest_bit}
use Rattle.clause_rows.proofs.Pushing.{pushed_one}
use Rattle.clause_rows.proofs.duty_clauses.push_negations.Goals as goal

pub loop-node-preserved : goal.loop-node-preserved
loop-node-preserved c =
    pushed_one (λ (node : NodeId). negation (lowest_bit (slice_index c.args.firsts.now) node) ∷ []) c.args.list.now c.loop-node.list c.push_negation.new.list
    c.args.nodes.now c.loop-node.node-index _ c.loop-node-test.true c.loop-node.invariant c.in_ok-push_negation.ensures
