use Rattle.std.proofs.Common.{◌≡◌, ◌≤◌, drop, length}
use Rattle.node_values.specs.Sheets.{Extends, IsSheet}
use Rattle.address_nodes.specs.Multiples.{AreTerms, IsSumSoFar, added}
use Rattle.address_nodes.proofs.sums.add_terms.Given as goal

abbrev pub invariant-loop-at : goal.invariant-loop-at
invariant-loop-at l = record {
  inside : l.at ≤ length l.terms;
  sheet : IsSheet l.sheet;
  built : added l.initial.sheet (drop l.at l.terms) ≡ record { nodes = l.sheet; node = l.sum };
  extends : Extends l.initial.sheet l.sheet;
  sum : IsSumSoFar l.sheet l.sum;
  terms : AreTerms l.sheet l.terms;
}

abbrev pub decreases-loop-at : goal.decreases-loop-at
decreases-loop-at l = l.at
