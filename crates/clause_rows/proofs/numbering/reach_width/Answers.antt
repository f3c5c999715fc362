use Rattle.std.proofs.Common.{rules, ◌≡◌, ◌<◌, ◌≤◌, true, length, sym, ◌∙◌, subst}
use Rattle.node_values.proofs.SheetLaws.{width_ranged}
use Rattle.clause_rows.specs.Reach.{is_in_reach}
use Rattle.clause_rows.proofs.Inside.{reach_inside}
use Rattle.clause_rows.proofs.numbering.reach_width.Goals as goal

pub overflow_cast-i : goal.overflow_cast-i
overflow_cast-i c =
    let there : is_in_reach c.args.duty.now c.args.i ≡ true = sym (c.requires.reach c.args.i) ∙ sym c.is_marked.ensures ∙ c.if-is_marked.true in
    let inside : c.args.i < length c.args.duty.now.sheet.now = reach_inside c.args.duty.now c.requires.whole c.in_order.ensures.sheet c.args.i there in
    let room : length c.args.duty.now.sheet.now ≤ 65536 = c.in_order.ensures.room in
    search rules

pub width-requires : goal.width-requires
width-requires c =
    let there : is_in_reach c.args.duty.now c.args.i ≡ true = sym (c.requires.reach c.args.i) ∙ sym c.is_marked.ensures ∙ c.if-is_marked.true in
    reach_inside c.args.duty.now c.requires.whole c.in_order.ensures.sheet c.args.i there

pub returns-then-is_marked-clause-range : goal.returns-then-is_marked-clause-range
returns-then-is_marked-clause-range c =
    let there : is_in_reach c.args.duty.now c.args.i ≡ true = sym (c.requires.reach c.args.i) ∙ sym c.is_marked.ensures ∙ c.if-is_marked.true in
    subst (λ w. (0 < w) × (w ≤ 64)) (sym c.width.ensures)
    (width_ranged c.args.duty.now.sheet.now c.in_order.ensures.sheet c.args.i
    (reach_inside c.args.duty.now c.requires.whole c.in_order.ensures.sheet c.args.i there))
