use Rattle.std.proofs.Common.{◌≡◌, ◌<◌, length, sym, ◌∙◌, subst, arith}
use Rattle.node_values.specs.Nodes.{IsNode}
use Rattle.node_values.specs.Sheets.{width_at}
use Rattle.duty_trials.proofs.Values.{line_says}
use Rattle.duty_trials.proofs.whole.says_in_line.Goals as goal

pub returns-then-end-len : goal.returns-then-end-len
returns-then-end-len c t =
    let ns = c.args.built.now.sheet in
    let sheet = c.in_order.ensures.sheet in
    let there = sym c.node.ensures ∙ c.in-Ult.is in
    let below : c.in-Ult.behind.0 < c.args.node.0 = (subst (IsNode (width_at ns) c.args.node.0) there (sheet c.args.node.0 c.requires.node)).0 in
    line_says ns sheet c.args.node.0 c.requires.node (c.args.base, c.args.len) c.args.address c.in-Ult.behind c.in-Ult.end
    (omega (arith, below, c.requires.node)) c.requires.address.1 there c.if-end-len.true (sym c.node-then-end-len.ensures ∙ c.is_difference.ensures t)
