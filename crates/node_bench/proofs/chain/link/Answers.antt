use Rattle.std.proofs.Common.{sym, ◌∙◌}
use Rattle.node_bench.proofs.Kept.{stays}
use Rattle.node_bench.proofs.chain.link.Goals as goal

pub build-requires-2 : goal.build-requires-2
build-requires-2 c =
    let last = stays c.args.sheet.now c.build.new.self c.args.last.0 c.in_order.ensures.sheet c.build.ensures.extends (c.requires.place, c.requires.width) in
    (last.0, c.in_ok-number.ensures.inside, last.1 ∙ sym c.in_ok-number.ensures.width)

pub build-requires-3 : goal.build-requires-3
build-requires-3 c =
    let last = stays c.args.sheet.now c.build.new.self c.args.last.0 c.in_order.ensures.sheet c.build.ensures.extends (c.requires.place, c.requires.width) in
    let number = stays c.build.new.self c.build-2.new.self c.in_ok-number.number.0 c.build.ensures.sheet c.build-2.ensures.extends
    (c.in_ok-number.ensures.inside, c.in_ok-number.ensures.width) in
    (c.in_ok-product.ensures.inside, number.0, c.in_ok-product.ensures.width ∙ last.1 ∙ sym number.1)

pub returns-clause-width : goal.returns-clause-width
returns-clause-width c =
    let last = stays c.args.sheet.now c.build.new.self c.args.last.0 c.in_order.ensures.sheet c.build.ensures.extends (c.requires.place, c.requires.width) in
    c.in_ok-id.ensures.width ∙ c.in_ok-product.ensures.width ∙ last.1
