use Rattle.std.proofs.Common.{◌≡◌, ◌∙◌, ◌++◌, ap, arith, length}
use Rattle.clause_gates.specs.NormalForms.{normal_clauses}
use Rattle.clause_words.specs.Rows.{columns}
use Rattle.clause_words.proofs.Columns.{pushed_column}
use Rattle.clause_rows.specs.DutyClauses.{reach_row}
use Rattle.clause_rows.proofs.Variables.{rows_listed}
use Rattle.clause_rows.proofs.duty_clauses.push_nodes.Goals as goal

pub loop-i-preserved : goal.loop-i-preserved
loop-i-preserved c =
    pushed_column c.args.list.now c.loop-i.list c.push_node_row.new.list (reach_row c.args.duty.now) c.loop-i.i c.loop-i.invariant
    c.in_ok-push_node_row.ensures

pub returns : goal.returns
returns c =
    let e : c.loop-i.i ≡ length c.args.numbering.now.reach.items = omega (arith, c.len-i-end.ensures) in
    c.loop-i.invariant
    ∙ ap (λ k. c.args.list.now ++ normal_clauses (columns (reach_row c.args.duty.now) k)) e
    ∙ ap (λ rows. c.args.list.now ++ normal_clauses rows)
    (rows_listed c.args.duty.now c.requires.whole c.in_order.ensures.sheet c.args.numbering.now.reach.items c.requires.numbering.reach)
