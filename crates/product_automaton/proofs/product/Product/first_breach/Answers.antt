use Rattle.first_breaches.proofs.FirstBreaches.{first_breach-here}
use Rattle.product_automaton.specs.declared.rules.Rule.TheVariants.{Sizes}
use Rattle.product_automaton.specs.Rules.{Keeps, later_rules, rule_order}
use Rattle.product_automaton.proofs.Breaching.{breach-made, found-later}
use Rattle.product_automaton.proofs.product.Product.first_breach.Goals as goal

pub first_later_breach-requires : goal.first_later_breach-requires
first_later_breach-requires c = λ n. c.in-None.ensures (n, 0)

pub returns-in-Some : goal.returns-in-Some
returns-in-Some c =
    breach-made rule_order c.args.self.now c.args.left.now c.args.right.now Sizes c.in-Some.place c.at.result c.at.ensures
    (first_breach-here (Keeps c.args.self.now c.args.left.now c.args.right.now) Sizes later_rules c.in-Some.place c.in-Some.ensures)

pub returns-in-None : goal.returns-in-None
returns-in-None c =
    found-later c.args.self.now c.args.left.now c.args.right.now c.first_later_breach.result c.in-None.ensures c.first_later_breach.ensures
