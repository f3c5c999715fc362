use Rattle.std.proofs.Common.{◌≡◌, ◌+◌, ◌*◌, ◌≤◌}
use Rattle.clause_words.specs.Products.{stage_start}
use Rattle.clause_words.proofs.product.product_helper_count.Given as goal

abbrev pub invariant-loop-k : goal.invariant-loop-k
invariant-loop-k l = record { value : l.count ≡ stage_start l.w 0 l.k; few : l.count ≤ 64 + 191 * l.k }
