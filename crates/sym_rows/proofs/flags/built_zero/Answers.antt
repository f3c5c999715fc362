use Rattle.sym_rows.specs.Leaves.{flag_leaf}
use Rattle.sym_rows.proofs.LeafWidths.{alike_leaf, later_leaves}
use Rattle.sym_rows.proofs.flags.built_zero.Goals as goal

pub node-requires : goal.node-requires
node-requires c =
    let later = later_leaves c.args.w c.args.sheet.now c.constant.new.sheet (flag_leaf c.args.over) c.requires.leaves c.constant.ensures.longer c.constant.ensures.kept in
    alike_leaf c.args.w c.constant.new.sheet (flag_leaf c.args.over) later 0 c.in_ok-zero.zero c.in_ok-zero.ensures.inside c.in_ok-zero.ensures.width
