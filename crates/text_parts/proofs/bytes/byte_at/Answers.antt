use Rattle.std.proofs.Common.{ℕ, ◌+◌, ◌*◌, get_or, sym, ap, ◌∙◌}
use Rattle.std.specs.Char.{digit_value}
use Rattle.text_parts.proofs.ByteTexts.{decoded-at}
use Rattle.text_parts.proofs.bytes.byte_at.Goals as goal

pub returns : goal.returns
returns c =
    let text = c.args.text.now in
    ap (λ (v : ℕ). 16 * v + c.digit_value-2.result) c.digit_value.ensures.value
    ∙ ap (λ (v : ℕ). 16 * digit_value (get_or text (2 * c.args.i) 0) + v) c.digit_value-2.ensures.value
    ∙ sym (decoded-at text c.args.i c.requires.hex c.requires.inside)
