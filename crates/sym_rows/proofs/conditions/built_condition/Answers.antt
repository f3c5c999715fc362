use Rattle.std.proofs.Common.{◌∙◌}
use Rattle.sym_rows.specs.Leaves.{condition_leaf}
use Rattle.sym_rows.proofs.LeafWidths.{alike, alike_leaf, later_leaves}
use Rattle.sym_rows.proofs.conditions.built_condition.Goals as goal

pub node-requires : goal.node-requires
node-requires c = c.requires.inside 2

pub node-requires-in-Ae : goal.node-requires-in-Ae
node-requires-in-Ae c = c.requires.inside 0

pub node-requires-in-Ns : goal.node-requires-in-Ns
node-requires-in-Ns c = c.requires.inside 3

pub node-requires-in-No : goal.node-requires-in-No
node-requires-in-No c = c.requires.inside 4

pub node-requires-in-Np : goal.node-requires-in-Np
node-requires-in-Np c = c.requires.inside 1

pub node-requires-in-Be : goal.node-requires-in-Be
node-requires-in-Be c = alike 1 _ (condition_leaf c.args.over) c.requires 0 2

pub node-requires-in-A : goal.node-requires-in-A
node-requires-in-A c = alike 1 _ (condition_leaf c.args.over) c.requires 0 2

pub node-requires-in-L : goal.node-requires-in-L
node-requires-in-L c = alike 1 _ (condition_leaf c.args.over) c.requires 3 4

pub node-requires-in-Ge : goal.node-requires-in-Ge
node-requires-in-Ge c = alike 1 _ (condition_leaf c.args.over) c.requires 3 4

pub node-requires-in-Le : goal.node-requires-in-Le
node-requires-in-Le c = alike 1 _ (condition_leaf c.args.over) c.requires 3 4

pub node-requires-in-G : goal.node-requires-in-G
node-requires-in-G c = alike 1 _ (condition_leaf c.args.over) c.requires 3 4

pub node-requires-in-Le-2 : goal.node-requires-in-Le-2
node-requires-in-Le-2 c =
    let later = later_leaves 1 c.args.sheet.now c.node-in-Le.new.sheet (condition_leaf c.args.over) c.requires c.in_ok-less-in-Le.ensures.longer c.in_ok-less-in-Le.ensures.kept in
    alike_leaf 1 c.node-in-Le.new.sheet (condition_leaf c.args.over) later 2 c.in_ok-less-in-Le.less c.in_ok-less-in-Le.ensures.inside (c.in_ok-less-in-Le.ensures.width ∙ c.requires.widths 3)

pub node-requires-in-G-2 : goal.node-requires-in-G-2
node-requires-in-G-2 c =
    let later = later_leaves 1 c.args.sheet.now c.node-in-G.new.sheet (condition_leaf c.args.over) c.requires c.in_ok-less-in-G.ensures.longer c.in_ok-less-in-G.ensures.kept in
    alike_leaf 1 c.node-in-G.new.sheet (condition_leaf c.args.over) later 2 c.in_ok-less-in-G.less c.in_ok-less-in-G.ensures.inside (c.in_ok-less-in-G.ensures.width ∙ c.requires.widths 3)
