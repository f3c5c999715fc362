use Rattle.std.proofs.Common.{ℕ, ◌+◌, ◌++◌, ◌∙◌, sym, ap, map, List, arith}
use Rattle.text_lines.specs.Cutting.{items_left}
use Rattle.text_lines.specs.Views.{seen}
use Rattle.text_lines.proofs.CodeSteps.{items-begin, items-next, items-end, line-less, line-counts, line-none}
use Rattle.text_lines.proofs.TextItems.{items-held}
use Rattle.text_lines.proofs.items.items_in.Goals as goal

pub loop-here-init : goal.loop-here-init
loop-here-init c = (items-begin c.new-items.result.items c.args.text.now c.new-items.ensures.items, omega arith, omega arith)

pub loop-here-smaller : goal.loop-here-smaller
loop-here-smaller c = line-less c.loop-here.rest.now c.in-Some.here.now c.in-Some.after.now (sym c.in-Some.ensures)

pub loop-here-preserved : goal.loop-here-preserved
loop-here-preserved c =
    let is = sym c.in-Some.ensures in
    let h = c.loop-here in (
      items-next (map seen h.items.items) (map seen c.push_line.new.items.items) (h.line + 1) h.rest.now c.in-Some.here.now c.in-Some.after.now is
          (c.in_ok-push_line.ensures.pushed ∙ ap (λ (x : List ℕ). map seen h.items.items ++ items_left (h.line + 1) x) c.visible_part.ensures)
          ∙ h.invariant.0,
      omega (arith, h.invariant.1, line-counts h.rest.now c.in-Some.here.now c.in-Some.after.now is),
      omega (arith, h.invariant.2, line-less h.rest.now c.in-Some.here.now c.in-Some.after.now is),
    )

pub returns-clause-items : goal.returns-clause-items
returns-clause-items c =
    sym (items-end (map seen c.loop-here.items.items) (c.loop-here.line + 1) c.loop-here.rest.now (sym c.in_default.ensures)) ∙ c.loop-here.invariant.0

pub returns-clause-held : goal.returns-clause-held
returns-clause-held c =
    items-held c.args.text.now (map seen c.loop-here.items.items)
    (sym (items-end (map seen c.loop-here.items.items) (c.loop-here.line + 1) c.loop-here.rest.now (sym c.in_default.ensures)) ∙ c.loop-here.invariant.0)

pub returns-clause-lines : goal.returns-clause-lines
returns-clause-lines c = omega (arith, c.loop-here.invariant.1, line-none c.loop-here.rest.now (sym c.in_default.ensures))
