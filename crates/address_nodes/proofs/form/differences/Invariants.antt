use Rattle.std.proofs.Common.{◌≡◌, ℕ, ◌+◌, length}
use Rattle.address_nodes.specs.Differences.{terms_below}
use Rattle.address_nodes.proofs.Merging.{IsMerged}
use Rattle.address_nodes.proofs.form.differences.Given as goal

abbrev pub invariant-loop-left : goal.invariant-loop-left
invariant-loop-left l =
    (n : ℕ) (f g : ℕ → ℕ) → l.fn.first ≡ terms_below f n → l.fn.second ≡ terms_below g n → IsMerged f g n l.left l.right l.terms.items

abbrev pub decreases-loop-left : goal.decreases-loop-left
decreases-loop-left l = length l.left + length l.right
