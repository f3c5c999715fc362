use Rattle.std.proofs.Common.{arith}
use Rattle.sym_rows.specs.Leaves.{flag_leaf}
use Rattle.sym_rows.proofs.LeafWidths.{later_leaves}
use Rattle.sym_rows.proofs.flags.built_shift_overflow.Goals as goal

pub node-requires : goal.node-requires
node-requires c = (c.requires.leaves.inside 0, omega arith, omega (arith, c.requires.some, c.requires.leaves.widths 0))

pub node-requires-2 : goal.node-requires-2
node-requires-2 c =
    let later = later_leaves c.args.w c.args.sheet.now c.node.new.sheet (flag_leaf c.args.over) c.requires.leaves c.node.ensures.longer c.node.ensures.kept in
    (later.inside 1, omega arith, omega (arith, c.requires.some, later.widths 1))
