use Rattle.std.proofs.Common.{◌≡◌, ◌+◌, ◌^◌, ◌≤◌, refl, arith}
use Rattle.insn_semantics.specs.Words.{concatenation}
use Rattle.insn_semantics.proofs.WordLaws.{power_grows}
use Rattle.lane_ops.proofs.WordSteps.{zero_in_front}
use Rattle.lane_ops.proofs.lanewise.unsigned_difference.Goals as goal

pub word_sub-requires-clause-subtrahend : goal.word_sub-requires-clause-subtrahend
word_sub-requires-clause-subtrahend c =
    let grows : 2 ^ c.args.width ≤ 2 ^ (c.args.width + 2) = power_grows c.args.width (c.args.width + 2) (omega arith) in
    omega arith

pub returns-clause-value : goal.returns-clause-value
returns-clause-value c =
    let left : concatenation c.args.width 0 c.args.x ≡ c.args.x = zero_in_front c.args.width c.args.x in
    let right : concatenation c.args.width 0 c.args.y ≡ c.args.y = zero_in_front c.args.width c.args.y in
    rw (c.unsigned_saturated.ensures.value, c.word_sub.ensures.value, left, right) refl
