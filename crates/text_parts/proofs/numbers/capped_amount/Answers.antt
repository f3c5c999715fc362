use Rattle.std.proofs.Common.{ℕ, Option, ap, ◌∙◌}
use Rattle.std.specs.Option.{option_or}
use Rattle.text_parts.specs.Numbers.{amount_of, capped, decimal_of, hexadecimal_of}
use Rattle.text_parts.proofs.NumberTexts.{capped-or}
use Rattle.text_parts.proofs.numbers.capped_amount.Goals as goal

pub returns : goal.returns
unfolding amount_of
returns c =
    let text = c.args.text.now in
    c.or.ensures ∙ ap (λ (o : Option ℕ). option_or o c.capped_decimal.result) c.capped_hexadecimal.ensures
    ∙ ap (option_or (capped (hexadecimal_of text))) c.capped_decimal.ensures
    ∙ capped-or (hexadecimal_of text) (decimal_of text)
