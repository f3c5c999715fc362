use Rattle.std.proofs.Common.{ap, ◌∙◌}
use Rattle.text_parts.specs.Numbers.{amount_of, within}
use Rattle.text_parts.proofs.NumberTexts.{within_capped}
use Rattle.text_parts.proofs.numbers.amount_within.Goals as goal

pub returns : goal.returns
returns c =
    c.bounded.ensures ∙ ap (within c.args.greatest) c.capped_amount.ensures
    ∙ within_capped c.args.greatest (amount_of c.args.text.now) c.ranges.greatest.fits
