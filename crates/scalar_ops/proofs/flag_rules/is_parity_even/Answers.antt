use Rattle.std.proofs.Common.{sym}
use Rattle.scalar_ops.proofs.Bits.{turned_lowest-test, parity_of_eight}
use Rattle.scalar_ops.proofs.flag_rules.is_parity_even.Goals as goal

pub returns : goal.returns
returns c = rw (c.is_bit_set.ensures, ← parity_of_eight c.args.r) (sym (turned_lowest-test _))
