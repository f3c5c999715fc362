use Rattle.std.proofs.Common.{ℕ, ◌<◌, slice_get}
use Rattle.std.specs.Prelude.{IfSome}
use Rattle.product_automaton.specs.Rules.{KeepsInvariants}
use Rattle.product_automaton.proofs.well_formed.first_unfit.Given as goal

-- each invariant so far fits
abbrev pub invariant-loop-k : goal.invariant-loop-k
invariant-loop-k l = (k : ℕ) → k < l.k → IfSome (slice_get l.invs k) KeepsInvariants
