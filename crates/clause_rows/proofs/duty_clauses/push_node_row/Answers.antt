use Rattle.std.proofs.Common.{rules, ◌≡◌, ◌++◌, ◌<◌, ◌≤◌, true, length, sym, ◌∙◌, ap, subst, arith, OnOk}
use Rattle.std.specs.Prelude.{slice_index}
use Rattle.clause_gates.specs.NormalForms.{normal_clauses}
use Rattle.node_reach.specs.Reached.{is_marked}
use Rattle.node_rows.specs.NodeRows.{node_clauses}
use Rattle.node_values.specs.Nodes.{IsNode}
use Rattle.node_values.specs.Sheets.{node_at}
use Rattle.clause_rows.specs.Reach.{is_in_reach}
use Rattle.clause_rows.proofs.Inside.{reach_inside}
use Rattle.clause_rows.proofs.Variables.{firsts_length, node_listed, row_listed}
use Rattle.clause_rows.proofs.duty_clauses.push_node_row.Goals as goal

pub overflow_cast-i : goal.overflow_cast-i
overflow_cast-i c =
    let there : is_in_reach c.args.duty.now c.args.i ≡ true =
    sym (c.requires.numbering.reach c.args.i) ∙ sym (ap (λ marks. is_marked marks c.args.i) c.as_slice.ensures.value) ∙ sym c.is_marked.ensures ∙ c.if-not-is_marked.false in
    let inside : c.args.i < length c.args.duty.now.sheet.now = reach_inside c.args.duty.now c.requires.whole c.in_order.ensures.sheet c.args.i there in
    let room : length c.args.duty.now.sheet.now ≤ 65536 = c.in_order.ensures.room in
    search rules

pub node-node-requires : goal.node-node-requires
node-node-requires c =
    let there : is_in_reach c.args.duty.now c.args.i ≡ true =
    sym (c.requires.numbering.reach c.args.i) ∙ sym (ap (λ marks. is_marked marks c.args.i) c.as_slice.ensures.value) ∙ sym c.is_marked.ensures ∙ c.if-not-is_marked.false in
    reach_inside c.args.duty.now c.requires.whole c.in_order.ensures.sheet c.args.i there

pub bounds-firsts-i : goal.bounds-firsts-i
bounds-firsts-i c =
    let same = ap length c.as_slice-firsts.ensures.value in
    let long = firsts_length c.args.duty.now c.requires.whole c.in_order.ensures.sheet c.args.numbering.now.reach.items c.requires.numbering.reach
    c.args.numbering.now.firsts.items c.requires.numbering.firsts in
    omega (arith, same, long, c.requires.place)

pub push_node-requires-clause-node : goal.push_node-requires-clause-node
push_node-requires-clause-node c =
    let there : is_in_reach c.args.duty.now c.args.i ≡ true =
    sym (c.requires.numbering.reach c.args.i) ∙ sym (ap (λ marks. is_marked marks c.args.i) c.as_slice.ensures.value) ∙ sym c.is_marked.ensures ∙ c.if-not-is_marked.false in
    subst (IsNode (slice_index c.as_slice-2.result.now) (length c.as_slice-2.result.now)) (sym c.node-node.ensures)
    (subst (λ ws. IsNode (slice_index ws) (length ws) (node_at c.args.duty.now.sheet.now c.args.i)) (sym c.as_slice-2.ensures.value)
    (node_listed c.args.duty.now c.requires.whole c.in_order.ensures.sheet c.args.numbering.now.reach.items c.requires.numbering.reach
    c.args.numbering.now.widths.items c.requires.numbering.widths c.args.i there))

pub push_node-requires-clause-lengths : goal.push_node-requires-clause-lengths
push_node-requires-clause-lengths c =
    ap length c.as_slice-firsts.ensures.value
    ∙ firsts_length c.args.duty.now c.requires.whole c.in_order.ensures.sheet c.args.numbering.now.reach.items c.requires.numbering.reach
    c.args.numbering.now.firsts.items c.requires.numbering.firsts
    ∙ sym (ap length c.as_slice-2.ensures.value ∙ c.requires.numbering.widths.len)

pub returns : goal.returns
returns c =
    let there : is_in_reach c.args.duty.now c.args.i ≡ true =
    sym (c.requires.numbering.reach c.args.i) ∙ sym (ap (λ marks. is_marked marks c.args.i) c.as_slice.ensures.value) ∙ sym c.is_marked.ensures ∙ c.if-not-is_marked.false in
    let firsts = c.as_slice-firsts.ensures.value in
    let widths = c.as_slice-2.ensures.value in
    let node = c.node-node.ensures in
    subst (λ rows. OnOk c.push_node.result (c.push_node.new.list ≡ c.args.list.now ++ normal_clauses rows))
    ((λ j. node_clauses (slice_index (firsts j)) (slice_index (widths j)) (slice_index (firsts j) c.args.i) (node j))
    ∙ row_listed c.args.duty.now c.requires.whole c.in_order.ensures.sheet c.args.numbering.now.reach.items c.requires.numbering.reach
    c.args.numbering.now.firsts.items c.requires.numbering.firsts c.args.numbering.now.widths.items c.requires.numbering.widths c.args.i there)
    c.push_node.ensures
