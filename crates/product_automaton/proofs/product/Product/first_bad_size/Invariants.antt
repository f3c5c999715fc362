use Rattle.std.proofs.Common.{ℕ, ◌<◌}
use Rattle.product_automaton.specs.Rules.{KeepsSizes}
use Rattle.product_automaton.proofs.product.Product.first_bad_size.Given as goal

-- the first rule is kept at each number so far
abbrev pub invariant-loop-number : goal.invariant-loop-number
invariant-loop-number l = (n : ℕ) → n < l.number → KeepsSizes l.self n
