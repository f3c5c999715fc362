use Rattle.sym_exprs.specs.Trees.{expr_of, leaf_node}
use Rattle.sym_exprs.proofs.Building.{ok_value}
use Rattle.sym_exprs.proofs.build.build_expr.Goals as goal

pub returns-clause-value : goal.returns-clause-value
returns-clause-value c =
    ok_value c.args.sheet.now c.build_tree.new.sheet (leaf_node c.args.leaves.now) (expr_of c.args.tree.now) c.build_tree.result c.in_order.ensures.sheet
    c.requires.inside c.requires.formed c.build_tree.ensures.built
