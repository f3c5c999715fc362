use Rattle.std.proofs.Common.{refl, div-one}
use Rattle.lane_ops.proofs.saturation.unsigned_saturated.Goals as goal

pub returns-clause-value : goal.returns-clause-value
returns-clause-value c =
    rw (c.chosen.ensures.value, c.chosen-inside.ensures.value, c.is_signed_below-is_below.ensures, c.is_signed_below-is_above.ensures, c.low_bits.ensures.value, c.ones-greatest.ensures.value, div-one) refl
