use Rattle.std.proofs.Common.{List, ◌++◌, ◌<◌, length, sym, ◌∙◌, ap, subst}
use Rattle.std.specs.Prelude.{slice_index}
use Rattle.std.specs.List.{AllByRecursion, flat_map}
use Rattle.clause_gates.specs.NormalForms.{normal_clauses}
use Rattle.duty_claims.specs.declared.duty.StartPair.{StartPair}
use Rattle.clause_rows.specs.DutyClauses.{pair_row}
use Rattle.clause_rows.specs.Reach.{IsPairAmong, needed_pairs}
use Rattle.clause_rows.proofs.Inside.{goals_in_reach, hypotheses_in_reach, pairs_in_reach}
use Rattle.clause_rows.proofs.Together.{put_together}
use Rattle.clause_rows.proofs.Variables.{first_inside, nodes_inside, pairs_inside}
use Rattle.clause_rows.proofs.duty_clauses.clauses.Goals as goal

pub push_pairs-requires-clause-pairs : goal.push_pairs-requires-clause-pairs
push_pairs-requires-clause-pairs c =
    let d = c.args.duty.now in
    let sheet = c.in_order.ensures.sheet in
    let numbering = c.in_ok-numbering.ensures.numbering in
    subst (AllByRecursion (IsPairAmong (λ node. node.0 < length c.as_slice-firsts.result.now))) (sym (c.as_slice-2.ensures.value ∙ c.in_ok-pairs.ensures))
    (pairs_inside d c.requires sheet c.in_ok-numbering.numbering.reach.items numbering.reach c.as_slice-firsts.result.now
    (c.as_slice-firsts.ensures.value ∙ numbering.firsts) (needed_pairs d) (pairs_in_reach d c.requires sheet))

pub push_units-requires-clause-nodes : goal.push_units-requires-clause-nodes
push_units-requires-clause-nodes c =
    let d = c.args.duty.now in
    let sheet = c.in_order.ensures.sheet in
    let numbering = c.in_ok-numbering.ensures.numbering in
    nodes_inside d c.requires sheet c.in_ok-numbering.numbering.reach.items numbering.reach c.as_slice-firsts.result.now
    (c.as_slice-firsts.ensures.value ∙ numbering.firsts) d.hyps.now (hypotheses_in_reach d c.requires sheet)

pub push_negation-requires-clause-node : goal.push_negation-requires-clause-node
push_negation-requires-clause-node c =
    let d = c.args.duty.now in
    let sheet = c.in_order.ensures.sheet in
    let numbering = c.in_ok-numbering.ensures.numbering in
    first_inside d c.requires sheet c.in_ok-numbering.numbering.reach.items numbering.reach c.as_slice-firsts.result.now
    (c.as_slice-firsts.ensures.value ∙ numbering.firsts) d.goal.0 (goals_in_reach d c.requires sheet).0

pub push_negations-requires-clause-nodes : goal.push_negations-requires-clause-nodes
push_negations-requires-clause-nodes c =
    let d = c.args.duty.now in
    let sheet = c.in_order.ensures.sheet in
    let numbering = c.in_ok-numbering.ensures.numbering in
    nodes_inside d c.requires sheet c.in_ok-numbering.numbering.reach.items numbering.reach c.as_slice-firsts.result.now
    (c.as_slice-firsts.ensures.value ∙ numbering.firsts) d.more.now (goals_in_reach d c.requires sheet).1

pub returns : goal.returns
returns c =
    c.into_clauses.ensures
    ∙ put_together c.args.duty.now c.requires c.in_order.ensures.sheet c.in_ok-numbering.numbering.reach.items c.in_ok-numbering.ensures.numbering.reach
    c.as_slice-firsts.result.now (c.as_slice-firsts.ensures.value ∙ c.in_ok-numbering.ensures.numbering.firsts)
    c.new-list.result c.push_nodes.new.list c.push_pairs.new.list c.push_units.new.list c.push_negation.new.list c.push_negations.new.list
    c.new-list.ensures c.in_ok-push_nodes.ensures
    (c.in_ok-push_pairs.ensures ∙ ap (λ (pairs : List StartPair). c.push_nodes.new.list
    ++ normal_clauses (flat_map (pair_row (slice_index c.as_slice-firsts.result.now)) pairs)) (c.as_slice-2.ensures.value ∙ c.in_ok-pairs.ensures))
    c.in_ok-push_units.ensures c.in_ok-push_negation.ensures c.in_ok-push_negations.ensures
