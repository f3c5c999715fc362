use Rattle.std.proofs.Common.{ap, ◌∙◌, is_some}
use Rattle.text_parts.specs.Places.{place_from}
use Rattle.tests_text.specs.Shapes.{numerals}
use Rattle.tests_text.proofs.Named.{placed_among}
use Rattle.tests_text.proofs.shape.is_numeral.Goals as goal

pub returns : goal.returns
returns c =
    c.is_some.ensures ∙ ap is_some (c.place_in.ensures ∙ ap (λ table. place_from 0 table c.args.name.now) c.numerals.ensures.all)
    ∙ placed_among numerals 0 c.args.name.now
