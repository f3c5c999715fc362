use Rattle.std.proofs.Common.{ℕ, ◌<◌}
use Rattle.product_automaton.specs.Rules.{Keeps}
use Rattle.product_automaton.proofs.product.Product.first_place.Given as goal

-- the rule is kept at each place so far
abbrev pub invariant-loop-number : goal.invariant-loop-number
invariant-loop-number l = (n : ℕ) → n < l.number → (k : ℕ) → Keeps l.self l.left l.right l.rule (n, k)
