use Rattle.std.proofs.Common.{take}
use Rattle.std.specs.List.{AllByRecursion}
use Rattle.first_breaches.specs.Breaches.{Place}
use Rattle.product_automaton.specs.Rules.{Keeps, later_rules}
use Rattle.product_automaton.proofs.product.Product.first_later_breach.Given as goal

-- each rule so far is kept at every place
abbrev pub invariant-loop-rule : goal.invariant-loop-rule
invariant-loop-rule l = AllByRecursion (λ rule. (at : Place) → Keeps l.self l.left l.right rule at) (take l.rule-index later_rules)
