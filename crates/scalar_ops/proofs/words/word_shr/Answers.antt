use Rattle.std.proofs.Common.{arith}
use Rattle.scalar_ops.proofs.Masks.{shifted_below}
use Rattle.scalar_ops.proofs.words.word_shr.Goals as goal

pub returns-clause-below : goal.returns-clause-below
returns-clause-below c = shifted_below c.args.a c.args.width c.args.count c.requires.word (omega arith)
