use Rattle.std.proofs.Common.{ap, ◌∙◌}
use Rattle.text_parts.specs.Numbers.{decimal_of, within}
use Rattle.text_parts.proofs.NumberTexts.{within_capped}
use Rattle.text_parts.proofs.numbers.decimal_within.Goals as goal

pub returns : goal.returns
returns c =
    c.bounded.ensures ∙ ap (within c.args.greatest) c.capped_decimal.ensures
    ∙ within_capped c.args.greatest (decimal_of c.args.text.now) c.ranges.greatest.fits
