use Rattle.std.proofs.Common.{◌∙◌, arith}
use Rattle.scalar_ops.proofs.Masks.{difference_low}
use Rattle.scalar_ops.proofs.words.word_sub.Goals as goal

pub returns-clause-value : goal.returns-clause-value
returns-clause-value c =
    c.low_bits.ensures.value ∙ difference_low c.args.a c.args.b c.args.width (omega arith) c.requires.subtrahend
