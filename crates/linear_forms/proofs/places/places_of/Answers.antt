use Rattle.std.proofs.Common.{◌<◌, arith, length, List, subst, take}
use Rattle.linear_forms.specs.declared.places.Place.{Place}
use Rattle.linear_forms.specs.declared.places.Place.TheVariants.{Constant}
use Rattle.linear_forms.specs.Places.{HasAtoms}
use Rattle.linear_forms.proofs.Pushes.{all_more}
use Rattle.linear_forms.proofs.WeightedSums.{all_map, has_atoms_kept}
use Rattle.linear_forms.proofs.places.places_of.Goals as goal

pub loop-part-preserved : goal.loop-part-preserved
loop-part-preserved g c =
    let before : List Place = c.loop-part.places.keys in
    let after : List Place = c.add_atoms-in-loop-part.new.places.keys in
    let kept = c.in_ok-add_atoms-2.ensures.kept in
    let inside : c.loop-part.part-index < length c.args.parts.now = omega arith in
    record {
      constant = kept Constant c.loop-part.invariant.constant;
      target = has_atoms_kept before after kept c.args.target.now c.loop-part.invariant.target;
      parts = all_more (λ part. HasAtoms after (g.P.HasLinearForm.part_form part)) c.args.parts.now c.loop-part.part-index c.part-item.result inside c.part-item.is
          (subst (HasAtoms after) c.form.ensures c.in_ok-add_atoms-2.ensures.atoms)
          (all_map (λ part. HasAtoms before (g.P.HasLinearForm.part_form part)) (λ part. HasAtoms after (g.P.HasLinearForm.part_form part))
          (λ part h. has_atoms_kept before after kept (g.P.HasLinearForm.part_form part) h)
          (take c.loop-part.part-index c.args.parts.now) c.loop-part.invariant.parts);
    }
