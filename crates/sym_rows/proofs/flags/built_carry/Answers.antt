use Rattle.std.proofs.Common.{arith}
use Rattle.sym_rows.specs.Leaves.{flag_leaf}
use Rattle.sym_rows.proofs.LeafWidths.{alike}
use Rattle.sym_rows.proofs.flags.built_carry.Goals as goal

pub node-requires : goal.node-requires
node-requires c = alike c.args.w _ (flag_leaf c.args.over) c.requires.leaves 0 1

pub node-requires-in-Sub : goal.node-requires-in-Sub
node-requires-in-Sub c = alike c.args.w _ (flag_leaf c.args.over) c.requires.leaves 1 2

pub node-requires-in-Shl : goal.node-requires-in-Shl
node-requires-in-Shl c =
    let h = rw c.in-Shl.is at c.requires.row in
    (c.requires.leaves.inside 1, omega arith, omega (arith, h.0, h.1, c.requires.leaves.widths 1))

pub node-requires-in-Shr : goal.node-requires-in-Shr
node-requires-in-Shr c =
    let h = rw c.in-Shr.is at c.requires.row in
    (c.requires.leaves.inside 1, omega arith, omega (arith, h.0, h.1, c.requires.leaves.widths 1))

pub node-requires-in-Sar : goal.node-requires-in-Sar
node-requires-in-Sar c =
    let h = rw c.in-Sar.is at c.requires.row in
    (c.requires.leaves.inside 1, omega arith, omega (arith, h.0, h.1, c.requires.leaves.widths 1))
