use Rattle.std.proofs.Common.{◌-◌, ap, sym, ◌∙◌}
use Rattle.text_codes.specs.Readers.{times_at}
use Rattle.certificate_file.specs.TreeReading.{tree_at}
use Rattle.certificate_file.proofs.Fronts.{with_front, front_none, times_more, times_fails, times_done, stops_whole, gives_same, as_fitted}
use Rattle.certificate_file.proofs.SplitReading.{split_ok, split_stops, tree_split}
use Rattle.certificate_file.proofs.tree_lines.+trees.Goals as goal

pub split-returns-in_err-kids : goal.split-returns-in_err-kids
split-returns-in_err-kids t c =
    stops_whole _ _ c.in_err-kids.field-0.0 _ _ c.from_residual-in_err-kids.ensures.1 c.in_err-kids.ensures
    (λ left e. split_stops (tree_at c.args.depth) c.args.text.now c.in_ok-rest.rest.now c.in_ok-i.rest.now left (c.in_ok-i.i, (c.in_ok-i.j, (c.in_ok-i.rels, c.in_ok-i.steps))) _
    c.in_ok-rest.ensures c.in_ok-i.ensures c.len.ensures e)

pub split-returns : goal.split-returns
split-returns t c =
    split_ok (tree_at c.args.depth) c.args.text.now c.in_ok-rest.rest.now c.in_ok-i.rest.now c.in_ok-kids.rest.now (c.in_ok-i.i, (c.in_ok-i.j, (c.in_ok-i.rels, c.in_ok-i.steps)))
    c.in_ok-kids.kids _ c.in_ok-rest.ensures c.in_ok-i.ensures c.len.ensures c.in_ok-kids.ensures

pub tree-returns-then-depth-gt0 : goal.tree-returns-then-depth-gt0
tree-returns-then-depth-gt0 t c =
    let e = c.if-letter-eq115.true in let u = c.in-len1-up.len_at_least in let s = c.split.ensures in let d = c.if-depth-gt0.true in
    gives_same _ c.split.result _ _ (tree_split c.args.depth c.args.text.now u e d) s

pub trees-loop-left-init : goal.trees-loop-left-init
trees-loop-left-init t c = ap (λ vs. with_front vs (times_at (tree_at c.args.depth) c.args.count c.args.text.now)) c.new-found.ensures.items ∙ front_none _

pub trees-returns-in_err-tree : goal.trees-returns-in_err-tree
trees-returns-in_err-tree t c =
    stops_whole _ _ c.in_err-tree.field-0.0 _ _ c.from_residual.ensures.1 c.in_err-tree.ensures
    (λ left e. sym c.loop-left.invariant ∙ times_fails (tree_at c.args.depth) c.loop-left.found.items c.loop-left.left c.loop-left.rest.now left c.loop-left-test.true e)

pub trees-loop-left-preserved : goal.trees-loop-left-preserved
trees-loop-left-preserved t c =
    ap (λ vs. with_front vs (times_at (tree_at c.args.depth) (c.loop-left.left - 1) c.in_ok-tree.after.now)) c.in_ok-push.ensures
    ∙ (sym (times_more (tree_at c.args.depth) c.loop-left.found.items c.loop-left.left c.loop-left.rest.now c.in_ok-tree.after.now c.in_ok-tree.tree c.loop-left-test.true c.in_ok-tree.ensures)
    ∙ c.loop-left.invariant)

pub trees-returns : goal.trees-returns
trees-returns t c =
    as_fitted _ _ c.in_ok-fitted.field-0 _ c.in_ok-fitted.ensures
    (sym c.loop-left.invariant ∙ times_done (tree_at c.args.depth) c.loop-left.found.items c.loop-left.left c.loop-left.rest.now c.loop-left-test.false)
