use Rattle.product_automaton.proofs.product.Product.first_second.Goals as goal

pub returns-in-Invariants : goal.returns-in-Invariants
returns-in-Invariants c = rw c.in-Invariants.is c.broken_invariant.ensures
