use Rattle.std.proofs.Common.{arith}
use Rattle.sym_rows.proofs.flags.built_overflow.Goals as goal

pub node-requires : goal.node-requires
node-requires c = (c.requires.leaves.inside 1, omega arith, omega (arith, c.requires.some, c.requires.leaves.widths 1))
