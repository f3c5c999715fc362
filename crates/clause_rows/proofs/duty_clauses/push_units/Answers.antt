use Rattle.std.proofs.Common.{◌++◌, [], ◌∷◌, ◌∙◌, ap}
use Rattle.std.specs.Prelude.{slice_index}
use Rattle.clauses.specs.declared.clause.Lit.{Lit}
use Rattle.clause_gates.specs.Gates.{positive}
use Rattle.clause_gates.specs.NormalForms.{normal_clauses}
use Rattle.node_values.specs.declared.node.NodeId.{NodeId}
use Rattle.clause_rows.specs.DutyClauses.{lowest_bit}
use Rattle.clause_rows.proofs.Pushing.{pushed_one}
use Rattle.clause_rows.proofs.duty_clauses.push_units.Goals as goal

pub loop-node-preserved : goal.loop-node-preserved
loop-node-preserved c =
    pushed_one (λ (node : NodeId). lowest_bit (slice_index c.args.firsts.now) node ∷ []) c.args.list.now c.loop-node.list c.unit.new.self
    c.args.nodes.now c.loop-node.node-index _ c.loop-node-test.true c.loop-node.invariant
    (c.in_ok-unit.ensures ∙ ap (λ (l : Lit). c.loop-node.list ++ normal_clauses ((l ∷ []) ∷ [])) (c.plain.ensures ∙ ap positive c.first_of.ensures.value))
