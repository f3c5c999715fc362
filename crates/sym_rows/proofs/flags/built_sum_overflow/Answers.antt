use Rattle.std.proofs.Common.{sym, ◌∙◌, arith}
use Rattle.sym_rows.specs.Leaves.{flag_leaf}
use Rattle.sym_rows.proofs.LeafWidths.{alike, later_leaves}
use Rattle.sym_rows.proofs.flags.built_sum_overflow.Goals as goal

pub node-requires : goal.node-requires
node-requires c = alike c.args.w _ (flag_leaf c.args.over) c.requires.leaves 1 0

pub node-requires-2 : goal.node-requires-2
node-requires-2 c =
    let later = later_leaves c.args.w c.args.sheet.now c.node.new.sheet (flag_leaf c.args.over) c.requires.leaves c.in_ok-left_differs.ensures.longer c.in_ok-left_differs.ensures.kept in
    alike c.args.w c.node.new.sheet (flag_leaf c.args.over) later 2 0

pub node-requires-3 : goal.node-requires-3
node-requires-3 c =
    let later = later_leaves c.args.w c.args.sheet.now c.node.new.sheet (flag_leaf c.args.over) c.requires.leaves c.in_ok-left_differs.ensures.longer c.in_ok-left_differs.ensures.kept in
    let first = c.in_ok-right_differs.ensures.kept c.in_ok-left_differs.left_differs.0 c.in_ok-left_differs.ensures.inside ∙ c.in_ok-left_differs.ensures.width ∙ c.requires.leaves.widths 1 in
    let second = c.in_ok-right_differs.ensures.width ∙ later.widths 2 in
    (omega (arith, c.in_ok-left_differs.ensures.inside, c.in_ok-right_differs.ensures.longer), c.in_ok-right_differs.ensures.inside, first ∙ sym second)

pub node-requires-4 : goal.node-requires-4
node-requires-4 c =
    let first = c.in_ok-right_differs.ensures.kept c.in_ok-left_differs.left_differs.0 c.in_ok-left_differs.ensures.inside ∙ c.in_ok-left_differs.ensures.width ∙ c.requires.leaves.widths 1 in
    let all = c.in_ok-differ.ensures.width ∙ first in
    (c.in_ok-differ.ensures.inside, omega arith, omega (arith, all, c.requires.some))
