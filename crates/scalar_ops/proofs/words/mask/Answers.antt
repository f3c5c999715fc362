use Rattle.scalar_ops.proofs.Masks.{mask_is}
use Rattle.std.proofs.Common.{arith}
use Rattle.scalar_ops.proofs.words.mask.Goals as goal

pub returns : goal.returns
returns c = mask_is c.args.width (omega arith)
