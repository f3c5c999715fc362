use Rattle.std.proofs.Common.{◌≡◌, arith, length, subst, List, take, refl, ◌∙◌}
use Rattle.std.specs.Prelude.{slice_index_or}
use Rattle.std.specs.List.{AllByRecursion}
use Rattle.std.proofs.Math.Seq.{take-length}
use Rattle.linear_forms.specs.declared.places.Place.{Place}
use Rattle.linear_forms.specs.declared.places.Place.TheVariants.{Atom}
use Rattle.linear_forms.proofs.WeightedSums.{Agrees, agrees_at, combination_of}
use Rattle.linear_forms.proofs.combining.combines.Goals as goal

pub returns-then-not-agrees : goal.returns-then-not-agrees
returns-then-not-agrees c = (
  λ h. cc,
  λ h. c.if-not-agrees.ensures.1
      (agrees_at c.args.target.now.w c.args.target.now c.args.parts.now h
      (slice_index_or c.as_slice-place-items.result.now c.loop-place.place-index (Atom (record { 0 = 0 })))),
)

pub returns : goal.returns
returns c =
    let places : List Place = c.as_slice-place-items.result.now in
    let all = subst (λ n. AllByRecursion (Agrees c.args.target.now.w c.args.target.now c.args.parts.now) (take n places))
    (let end : c.loop-place.place-index ≡ length places = omega arith in end) c.loop-place.invariant in
    let every = subst (AllByRecursion (Agrees c.args.target.now.w c.args.target.now c.args.parts.now)) (take-length places ∙ c.as_slice-place-items.ensures.keys) all in (
      λ _. combination_of c.args.target.now.w c.args.target.now c.args.parts.now c.in_ok-places.places.keys
          c.in_ok-places.ensures.constant c.in_ok-places.ensures.target c.in_ok-places.ensures.parts every,
      λ _. refl,
    )
