use Rattle.std.proofs.Common.{◌≡◌, ◌≢◌, length, sym, ◌∙◌}
use Rattle.std.proofs.lemmas.Bool.{eqb-true, eqb-false}
use Rattle.text_parts.proofs.NumberTexts.{none_of_nothing, kept_is_capped}
use Rattle.text_parts.proofs.numbers.capped_digits.Goals as goal

pub returns-then-is_empty : goal.returns-then-is_empty
returns-then-is_empty c =
    let none : length c.args.text.now ≡ 0 = eqb-true (length c.args.text.now) 0 (sym c.is_empty.ensures ∙ c.if-is_empty.true) in
    none_of_nothing c.args.radix c.args.text.now none

pub returns : goal.returns
returns c =
    let some : length c.args.text.now ≢ 0 = eqb-false (length c.args.text.now) 0 (sym c.is_empty.ensures ∙ c.if-is_empty.false) in
    c.kept_digits.ensures ∙ kept_is_capped c.args.radix c.args.text.now c.requires.some some
