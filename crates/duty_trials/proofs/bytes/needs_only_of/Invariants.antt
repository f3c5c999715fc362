use Rattle.std.proofs.Common.{◌≡◌, ℕ, ◌<◌, true}
use Rattle.node_values.specs.Sheets.{node_at}
use Rattle.node_reach.specs.Reached.{is_marked}
use Rattle.duty_claims.specs.Needs.{is_start}
use Rattle.duty_trials.proofs.bytes.needs_only_of.Given as goal

abbrev pub invariant-loop-i : goal.invariant-loop-i
invariant-loop-i l =
    (k : ℕ) → k < l.i → is_start (node_at l.built.sheet k) ≡ true → is_marked l.inner.items k ≡ true → is_marked l.outer.items k ≡ true
