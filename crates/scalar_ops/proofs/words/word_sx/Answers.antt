use Rattle.std.proofs.Common.{◌≤◌, ◌^◌, arith}
use Rattle.insn_semantics.proofs.WordLaws.{power_grows}
use Rattle.scalar_ops.proofs.Masks.{copies_below}
use Rattle.scalar_ops.proofs.words.word_sx.Goals as goal

pub overflow_sub-result : goal.overflow_sub-result
overflow_sub-result c =
    let grows : 2 ^ c.args.from ≤ 2 ^ c.args.width = power_grows c.args.from c.args.width (omega arith) in
    omega arith

pub returns-clause-below : goal.returns-clause-below
returns-clause-below c =
    rw (c.mask.ensures, c.mask-2.ensures) (copies_below c.top_bit.result (2 ^ c.args.width) (2 ^ c.args.from) c.args.a
    c.top_bit.ensures.below (power_grows c.args.from c.args.width (omega arith)) c.requires.word)
