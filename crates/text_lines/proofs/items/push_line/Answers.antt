use Rattle.std.proofs.Common.{◌++◌, ◌∙◌, sym, ap, map, List, rules}
use Rattle.text_lines.specs.Lines.{Item}
use Rattle.text_lines.specs.Cutting.{items_left}
use Rattle.text_lines.specs.Views.{seen}
use Rattle.text_lines.proofs.CodeSteps.{items-pushed, label-next, label-less, statement-last, statement-empty}
use Rattle.text_lines.proofs.items.push_line.Goals as goal

pub loop-name-smaller : goal.loop-name-smaller
loop-name-smaller c = label-less c.loop-name.rest.now c.in-Some.name.now c.in-Some.after.now (sym c.in-Some.ensures)

pub loop-name-preserved : goal.loop-name-preserved
loop-name-preserved c =
    ap (λ (x : List Item). x ++ items_left c.args.line c.in-Some.after.now) (ap (map seen) c.in_ok-push.ensures.items ∙ items-pushed c.loop-name.items.items _)
    ∙ label-next (map seen c.loop-name.items.items) c.args.line c.loop-name.rest.now c.in-Some.name.now c.in-Some.after.now (sym c.in-Some.ensures)
    ∙ c.loop-name.invariant

pub returns-in_ok-push-2-clause-pushed : goal.returns-in_ok-push-2-clause-pushed
returns-in_ok-push-2-clause-pushed c =
    ap (map seen) c.in_ok-push-2.ensures.items ∙ items-pushed c.loop-name.items.items _
    ∙ statement-last (map seen c.loop-name.items.items) c.args.line c.loop-name.rest.now c.trim-text.result.now (sym c.in_default.ensures) c.trim-text.ensures (search rules)
    ∙ c.loop-name.invariant

pub returns-else-not-is_empty-clause-pushed : goal.returns-else-not-is_empty-clause-pushed
returns-else-not-is_empty-clause-pushed c =
    statement-empty (map seen c.loop-name.items.items) c.args.line c.loop-name.rest.now c.trim-text.result.now (sym c.in_default.ensures) c.trim-text.ensures (search rules)
    ∙ c.loop-name.invariant
