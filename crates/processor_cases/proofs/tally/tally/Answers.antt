use Rattle.std.proofs.Common.{◌≡◌, ◌∙◌, ap, map, subst, drop, []}
use Rattle.std.specs.Prelude.{◌↔◌, IsSomeAnd}
use Rattle.std.proofs.lemmas.List.{drop_all}
use Rattle.std.specs.Str.Lines.{lines}
use Rattle.processor_cases.specs.Agreement.{Agrees}
use Rattle.processor_cases.proofs.Tallies.{CountsTo, all_counted, line_counted, none_counted}
use Rattle.processor_cases.proofs.tally.tally.Goals as goal

pub loop-line-init : goal.loop-line-init
loop-line-init c = none_counted _

pub loop-line-preserved : goal.loop-line-preserved
loop-line-preserved c =
    line_counted (λ x. x.now) c.as_slice-line-items.result.now c.loop-line.line-index _ c.loop-line.counts.wrong c.count.new.counts.wrong _ c.loop-line-test.true
    (subst (λ o. (c.count.new.counts.wrong ≡ 0) ↔ ((c.loop-line.counts.wrong ≡ 0) × IsSomeAnd o Agrees)) c.in_ok-case.ensures c.count.ensures)
    c.loop-line.invariant

pub returns : goal.returns
returns c =
    let same : map (λ x. x.now) c.as_slice-line-items.result.now ≡ lines c.args.text.now = ap (map (λ x. x.now)) c.as_slice-line-items.ensures.value ∙ c.in_ok-lines.ensures in
    let over : drop c.loop-line.line-index c.as_slice-line-items.result.now ≡ [] = drop_all c.loop-line.line-index c.as_slice-line-items.result.now c.loop-line-test.false in
    all_counted c.loop-line.counts.wrong (lines c.args.text.now)
    (subst (λ all. CountsTo c.loop-line.counts.wrong [] all) same (subst (λ rest. CountsTo c.loop-line.counts.wrong (map (λ x. x.now) rest) (map (λ x. x.now) c.as_slice-line-items.result.now)) over c.loop-line.invariant))
