use Rattle.std.proofs.Common.{◌≡◌, sym, ◌∙◌, ap, Some, map}
use Rattle.std.proofs.lemmas.List.{take_all}
use Rattle.processor_cases.specs.Numbers.{word_number}
use Rattle.text_parts.specs.Cuts.{parts}
use Rattle.processor_cases.proofs.Readings.{numbers_of-words, values_more, values_none}
use Rattle.processor_cases.proofs.numbers.numbers.Goals as goal

pub returns-in-None : goal.returns-in-None
returns-in-None c =
    let words : map (λ x. x.now) c.as_slice-word-items.result.now ≡ parts 32 c.args.line.now = ap (map (λ x. x.now)) c.as_slice-word-items.ensures.value ∙ c.in_ok-words.ensures in
    sym (values_none (λ x. word_number x.now) c.as_slice-word-items.result.now c.loop-word.word-index _ c.loop-word-test.true (sym c.number.ensures ∙ c.in-None.is))
    ∙ numbers_of-words (λ x. x.now) c.as_slice-word-items.result.now c.args.line.now words

pub loop-word-preserved : goal.loop-word-preserved
loop-word-preserved c =
    values_more (λ x. word_number x.now) c.as_slice-word-items.result.now c.loop-word.word-index _ c.loop-word.numbers.items c.in-Some.n
    c.loop-word-test.true (sym c.number.ensures ∙ c.in-Some.is) c.loop-word.invariant
    ∙ ap Some (sym c.in_ok-push-in-Some.ensures.items)

pub returns : goal.returns
returns c =
    let words : map (λ x. x.now) c.as_slice-word-items.result.now ≡ parts 32 c.args.line.now = ap (map (λ x. x.now)) c.as_slice-word-items.ensures.value ∙ c.in_ok-words.ensures in
    sym (rw (take_all c.loop-word.word-index c.as_slice-word-items.result.now c.loop-word-test.false) at c.loop-word.invariant)
    ∙ numbers_of-words (λ x. x.now) c.as_slice-word-items.result.now c.args.line.now words
