use Rattle.std.proofs.Common.{◌≡◌, ◌≤◌, drop, length}
use Rattle.node_values.specs.Sheets.{Extends, IsSheet}
use Rattle.address_nodes.specs.Multiples.{AreTerms, IsSumSoFar, subtracted}
use Rattle.address_nodes.proofs.sums.subtract_terms.Given as goal

abbrev pub invariant-loop-at : goal.invariant-loop-at
invariant-loop-at l = record {
  inside : l.at ≤ length l.terms;
  sheet : IsSheet l.sheet;
  built : subtracted (record { nodes = l.initial.sheet; node = l.initial.less }) (drop l.at l.terms) ≡ record { nodes = l.sheet; node = l.less };
  extends : Extends l.initial.sheet l.sheet;
  sum : IsSumSoFar l.sheet l.less;
  terms : AreTerms l.sheet l.terms;
}

abbrev pub decreases-loop-at : goal.decreases-loop-at
decreases-loop-at l = l.at
