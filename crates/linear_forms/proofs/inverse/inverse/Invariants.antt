use Rattle.std.proofs.Common.{◌*◌}
use Rattle.node_forms.specs.Sums.{SameWord}
use Rattle.linear_forms.proofs.inverse.inverse.Given as goal

abbrev pub invariant-loop-bits : goal.invariant-loop-bits
invariant-loop-bits l = record {
  product : SameWord 64 (l.product * l.odd) l.power;
  one : SameWord l._bits l.power 1;
}
