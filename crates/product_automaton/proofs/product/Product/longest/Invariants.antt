use Rattle.std.proofs.Common.{◌≡◌, drop, max}
use Rattle.product_automaton.specs.Ranks.{longest_path}
use Rattle.product_automaton.proofs.product.Product.longest.Given as goal

-- the longest path so far, or that of the edges to come
abbrev pub invariant-loop-edge : goal.invariant-loop-edge
invariant-loop-edge l = max l.longest (longest_path (drop l.edge-index l.edge-items)) ≡ longest_path l.self.edges
