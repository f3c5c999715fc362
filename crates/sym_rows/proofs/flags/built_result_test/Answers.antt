use Rattle.std.proofs.Common.{arith}
use Rattle.sym_rows.proofs.flags.built_result_test.Goals as goal

pub node-requires : goal.node-requires
node-requires c = (c.requires.leaves.inside 0, omega arith, omega (arith, c.requires.byte, c.requires.leaves.widths 0))
