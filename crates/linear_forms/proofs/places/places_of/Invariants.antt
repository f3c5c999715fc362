use Rattle.std.proofs.Common.{take}
use Rattle.std.specs.List.{AllByRecursion}
use Rattle.linear_forms.specs.declared.places.Place.TheVariants.{Constant}
use Rattle.linear_forms.specs.Places.{HasAtoms, IsAmong}
use Rattle.linear_forms.proofs.places.places_of.Given as goal

abbrev pub invariant-loop-part : goal.invariant-loop-part
invariant-loop-part g l = record {
  constant : IsAmong l.places.keys Constant;
  target : HasAtoms l.places.keys l.target;
  parts : AllByRecursion (λ part. HasAtoms l.places.keys (g.P.HasLinearForm.part_form part)) (take l.part-index l.parts);
}
