use Rattle.std.proofs.Common.{take}
use Rattle.std.specs.List.{AllByRecursion}
use Rattle.linear_forms.specs.declared.places.Place.{Place}
use Rattle.linear_forms.specs.declared.places.Place.TheVariants.{Atom}
use Rattle.linear_forms.specs.Places.{IsAmong}
use Rattle.linear_forms.proofs.places.add_atoms.Given as goal

abbrev pub invariant-loop-atom : goal.invariant-loop-atom
invariant-loop-atom l = record {
  kept : (place : Place) → IsAmong l.initial.places.keys place → IsAmong l.places.keys place;
  atoms : AllByRecursion (λ p. IsAmong l.places.keys (Atom p.0)) (take l.atom-index l.atom-items);
}
