use Rattle.std.proofs.Common.{◌≡◌, drop}
use Rattle.node_forms.specs.Sums.{listed_coefficient}
use Rattle.linear_forms.proofs.places.coefficient.Given as goal

abbrev pub invariant-loop-node : goal.invariant-loop-node
invariant-loop-node l = listed_coefficient (drop l.node-index l.atoms) l.atom.0 ≡ listed_coefficient l.atoms l.atom.0
