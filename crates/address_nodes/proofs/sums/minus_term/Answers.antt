use Rattle.std.proofs.Common.{sym, ◌∙◌}
use Rattle.address_nodes.proofs.Growing.{stays}
use Rattle.address_nodes.proofs.sums.minus_term.Goals as goal

pub build-requires : goal.build-requires
build-requires c =
    let there = stays c.begin.new.sheet c.in_order-2.ensures.sheet c.multiple.new.sheet c.in_ok-term.ensures.extends 64 c.in_ok-first.first c.in_ok-first.ensures.width in
    (there.0, c.in_ok-term.ensures.width.0, there.1 ∙ sym c.in_ok-term.ensures.width.1)
