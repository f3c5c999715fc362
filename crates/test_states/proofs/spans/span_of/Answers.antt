use Rattle.std.proofs.Common.{◌<◌, length, get_or, sym, ◌∙◌, arith}
use Rattle.test_states.proofs.Naming.{names_inside, names_outside}
use Rattle.test_states.proofs.Spanning.{has_from, not_of_range}
use Rattle.test_states.proofs.spans.span_of.Goals as goal
use Rattle.test_states.proofs.spans.span_of.Goals.{then-has, else-has}

pub loop-at-preserved : goal.loop-at-preserved
loop-at-preserved c = let below : c.loop-at.at-index < length c.args.named.now = omega arith in elim c.if-has.branch [
  | then-has w ↦
      (let inside = has_from c.args.range.first c.args.range.last (get_or c.args.named.now c.loop-at.at-index (0, 0)).0 (sym c.has.ensures ∙ w.if-has.true) in
      rw w.bytes-is (names_inside c.args.named.now c.loop-at.at-index c.args.range.first c.in-Some.len c.loop-at.bytes.items (0, 0) c.loop-at.invariant below
      inside.0 (omega (arith, inside.1, inside.0, c.in-Some.ensures.1))))
  | else-has w ↦ rw w.bytes-is
      (names_outside c.args.named.now c.loop-at.at-index c.args.range.first c.in-Some.len c.loop-at.bytes.items (0, 0) c.loop-at.invariant below
      (λ k inside same. not_of_range c.args.range.first c.args.range.last (get_or c.args.named.now c.loop-at.at-index (0, 0)).0 c.in-Some.len k
      (sym c.has.ensures ∙ w.if-has.false) c.requires c.in-Some.ensures.1 inside same))
]
