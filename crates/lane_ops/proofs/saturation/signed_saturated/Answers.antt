use Rattle.std.proofs.Common.{◌≡◌, ◌-◌, ◌^◌, ◌<◌, ◌≤◌, refl, ◌∙◌, ap, div-one, arith}
use Rattle.std.proofs.lemmas.Nat.{pow_pos}
use Rattle.insn_semantics.specs.Words.{minus}
use Rattle.insn_semantics.proofs.WordLaws.{power_grows}
use Rattle.lane_ops.proofs.WordSteps.{minus_from_zero}
use Rattle.lane_ops.proofs.saturation.signed_saturated.Goals as goal

pub word_sub-requires-clause-subtrahend : goal.word_sub-requires-clause-subtrahend
word_sub-requires-clause-subtrahend c =
    let grows : 2 ^ c.args.to ≤ 2 ^ c.args.from = power_grows c.args.to c.args.from (omega arith) in
    omega (arith, c.sign_bit-least.ensures.below)

pub returns-clause-value : goal.returns-clause-value
returns-clause-value c =
    let least : c.sign_bit-least.result ≡ 2 ^ (c.args.to - 1) = c.sign_bit-least.ensures.value in
    let some : 0 < 2 ^ (c.args.to - 1) = pow_pos (c.args.to - 1) in
    let grows : 2 ^ c.args.to ≤ 2 ^ c.args.from = power_grows c.args.to c.args.from (omega arith) in
    let word : 2 ^ (c.args.to - 1) < 2 ^ c.args.from = omega (arith, c.sign_bit-least.ensures.below) in
    let low : c.word_sub.result ≡ 2 ^ c.args.from - 2 ^ (c.args.to - 1) =
    c.word_sub.ensures.value ∙ ap (minus c.args.from 0) least ∙ minus_from_zero c.args.from (2 ^ (c.args.to - 1)) some word in
    rw (c.chosen.ensures.value, c.chosen-inside.ensures.value, c.is_signed_below-is_above.ensures, c.is_signed_below-is_below.ensures, c.low_bits.ensures.value, low, least, div-one) refl
