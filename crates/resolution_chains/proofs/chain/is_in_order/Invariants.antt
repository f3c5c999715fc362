use Rattle.std.proofs.Common.{ℕ, ◌<◌, ◌+◌}
use Rattle.std.specs.Prelude.{map, slice_index}
use Rattle.resolution_chains.proofs.chain.is_in_order.Given as goal

-- the variables rise up to here
abbrev pub invariant-loop-at : goal.invariant-loop-at
invariant-loop-at l = (k : ℕ) → k + 1 < l.at
    → slice_index (map (λ x. x.var) l.lits) k < slice_index (map (λ x. x.var) l.lits) (k + 1)
