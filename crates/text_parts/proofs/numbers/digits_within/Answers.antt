use Rattle.std.proofs.Common.{ap, ◌∙◌}
use Rattle.text_parts.specs.Numbers.{digits_of, within}
use Rattle.text_parts.proofs.NumberTexts.{within_capped}
use Rattle.text_parts.proofs.numbers.digits_within.Goals as goal

pub returns : goal.returns
returns c =
    c.bounded.ensures ∙ ap (within c.args.greatest) c.capped_digits.ensures
    ∙ within_capped c.args.greatest (digits_of c.args.radix c.args.text.now) c.ranges.greatest.fits
