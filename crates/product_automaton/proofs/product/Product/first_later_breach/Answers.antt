use Rattle.first_breaches.proofs.FirstBreaches.{first_breach-at}
use Rattle.product_automaton.specs.Rules.{Keeps, later_rules}
use Rattle.product_automaton.proofs.Breaching.{breach-made}
use Rattle.product_automaton.proofs.product.Product.first_later_breach.Goals as goal

pub returns-in-Some : goal.returns-in-Some
returns-in-Some c =
    breach-made later_rules c.args.self.now c.args.left.now c.args.right.now _ c.in-Some.place c.at.result c.at.ensures
    (first_breach-at (Keeps c.args.self.now c.args.left.now c.args.right.now) later_rules c.loop-rule.rule-index _ c.in-Some.place
    c.loop-rule-test.true c.loop-rule.invariant c.in-Some.ensures)
