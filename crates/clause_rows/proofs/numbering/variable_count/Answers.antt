use Rattle.std.proofs.Common.{rules, ◌≡◌, ◌+◌, ◌<◌, ◌≤◌, true, length, sym, ◌∙◌, ap, subst, arith}
use Rattle.std.specs.Prelude.{slice_index}
use Rattle.node_rows.specs.NodeRows.{helpers_of}
use Rattle.node_values.specs.Nodes.{IsNode}
use Rattle.clause_rows.specs.Reach.{is_in_reach}
use Rattle.clause_rows.proofs.Inside.{reach_inside}
use Rattle.clause_rows.proofs.Variables.{helpers_bounded, helpers_listed, node_listed}
use Rattle.clause_rows.proofs.numbering.variable_count.Goals as goal

pub overflow_cast-i : goal.overflow_cast-i
overflow_cast-i c =
    let there : is_in_reach c.args.duty.now c.args.i ≡ true = sym (c.requires.reach c.args.i) ∙ sym c.is_marked.ensures ∙ c.if-not-is_marked.false in
    let inside : c.args.i < length c.args.duty.now.sheet.now = reach_inside c.args.duty.now c.requires.whole c.in_order.ensures.sheet c.args.i there in
    let room : length c.args.duty.now.sheet.now ≤ 65536 = c.in_order.ensures.room in
    search rules

pub node-node-requires : goal.node-node-requires
node-node-requires c =
    let there : is_in_reach c.args.duty.now c.args.i ≡ true = sym (c.requires.reach c.args.i) ∙ sym c.is_marked.ensures ∙ c.if-not-is_marked.false in
    reach_inside c.args.duty.now c.requires.whole c.in_order.ensures.sheet c.args.i there

pub helper_count-requires-clause-node : goal.helper_count-requires-clause-node
helper_count-requires-clause-node c =
    let there : is_in_reach c.args.duty.now c.args.i ≡ true = sym (c.requires.reach c.args.i) ∙ sym c.is_marked.ensures ∙ c.if-not-is_marked.false in
    subst (IsNode (slice_index c.args.widths.now) (length c.args.widths.now)) (sym c.node-node.ensures)
    (node_listed c.args.duty.now c.requires.whole c.in_order.ensures.sheet c.args.reach.now c.requires.reach c.args.widths.now c.requires.widths c.args.i there)

pub overflow_add-result : goal.overflow_add-result
overflow_add-result c =
    let there : is_in_reach c.args.duty.now c.args.i ≡ true = sym (c.requires.reach c.args.i) ∙ sym c.is_marked.ensures ∙ c.if-not-is_marked.false in
    let inside : c.args.i < length c.args.widths.now = omega (arith, c.requires.widths.len, c.requires.place) in
    let w = (c.requires.widths.words c.args.i inside).1 in
    let few : c.helper_count.result ≤ 12352 =
    subst (λ n. n ≤ 12352) (sym (c.helper_count.ensures ∙ ap (helpers_of (slice_index c.args.widths.now)) c.node-node.ensures))
    (helpers_bounded c.args.duty.now c.requires.whole c.in_order.ensures.sheet c.args.reach.now c.requires.reach c.args.widths.now c.requires.widths c.args.i there) in
    omega (arith, w, few)

pub returns-clause-value : goal.returns-clause-value
returns-clause-value c =
    let there : is_in_reach c.args.duty.now c.args.i ≡ true = sym (c.requires.reach c.args.i) ∙ sym c.is_marked.ensures ∙ c.if-not-is_marked.false in
    let width = c.requires.widths.marked c.args.i (sym c.is_marked.ensures ∙ c.if-not-is_marked.false) in
    let helpers =
    c.helper_count.ensures ∙ ap (helpers_of (slice_index c.args.widths.now)) c.node-node.ensures
    ∙ helpers_listed c.args.duty.now c.requires.whole c.in_order.ensures.sheet c.args.reach.now c.requires.reach c.args.widths.now c.requires.widths c.args.i there in
    rw there (λ j. width j + helpers j)

pub returns-clause-few : goal.returns-clause-few
returns-clause-few c =
    let there : is_in_reach c.args.duty.now c.args.i ≡ true = sym (c.requires.reach c.args.i) ∙ sym c.is_marked.ensures ∙ c.if-not-is_marked.false in
    let inside : c.args.i < length c.args.widths.now = omega (arith, c.requires.widths.len, c.requires.place) in
    let w = (c.requires.widths.words c.args.i inside).1 in
    let few : c.helper_count.result ≤ 12352 =
    subst (λ n. n ≤ 12352) (sym (c.helper_count.ensures ∙ ap (helpers_of (slice_index c.args.widths.now)) c.node-node.ensures))
    (helpers_bounded c.args.duty.now c.requires.whole c.in_order.ensures.sheet c.args.reach.now c.requires.reach c.args.widths.now c.requires.widths c.args.i there) in
    omega (arith, w, few)

pub returns-clause-outside : goal.returns-clause-outside
returns-clause-outside c past =
    let there : is_in_reach c.args.duty.now c.args.i ≡ true = sym (c.requires.reach c.args.i) ∙ sym c.is_marked.ensures ∙ c.if-not-is_marked.false in
    let inside : c.args.i < length c.args.duty.now.sheet.now = reach_inside c.args.duty.now c.requires.whole c.in_order.ensures.sheet c.args.i there in
    let room : length c.args.duty.now.sheet.now ≤ 65536 = c.in_order.ensures.room in
    absurd (omega (arith, past, inside, room))
