use Rattle.std.proofs.Common.{◌≡◌, ℕ, ◌%◌, ◌^◌, ◌<◌, ◌≤◌, [], length, List, subst, sym, arith, ap, ◌∙◌}
use Rattle.std.specs.List.{AllByRecursion, AllZip}
use Rattle.std.proofs.lemmas.List.{get_or_default}
use Rattle.linear_forms.specs.Pivots.{CanBeCleared}
use Rattle.linear_forms.specs.MatrixRows.{IsCleared, IsEven, IsMultiple, IsReduced, word}
use Rattle.linear_forms.proofs.Reducing.{all_both, clearable, cleared, made_of, not_made, raised, started}
use Rattle.linear_forms.proofs.Zips.{whole}
use Rattle.linear_forms.proofs.elimination.eliminate.Goals as goal

pub loop-power-init : goal.loop-power-init
loop-power-init c = record {
  power = omega arith;
  reduced = started c.args.w c.args.n c.args.rows.items c.args.target c.requires.long c.requires.rows c.requires.target;
}

pub find_pivot-requires-clause-places : goal.find_pivot-requires-clause-places
find_pivot-requires-clause-places c =
    let Long : List (List ℕ) → Type 0 = λ rows. AllByRecursion (λ row. c.args.n ≤ length row) rows in
    let places : c.args.n ≤ length c.args.target = c.requires.places in
    let h = c.loop-power.invariant.reduced.long in
    subst Long (sym c.as_slice.ensures.value)
    (all_both (λ row. length row ≡ length c.args.target) (λ row. length row ≡ length c.args.target) (λ row. c.args.n ≤ length row)
    (λ row e e'. omega (arith, e)) c.loop-power.rows.items h h)

pub loop-power-preserved-in-None : goal.loop-power-preserved-in-None
loop-power-preserved-in-None c =
    let even = subst (AllByRecursion (IsEven c.args.n c.loop-power.power)) c.as_slice.ensures.value c.in-None.ensures in
    record {
      power = omega arith;
      reduced = raised c.args.w c.args.n (omega arith) c.args.rows.items c.args.target c.loop-power.rows.items c.loop-power.target
          c.loop-power.power even c.loop-power.invariant.reduced;
    }

pub returns-then-not-has_factor-clause-none : goal.returns-then-not-has_factor-clause-none
returns-then-not-has_factor-clause-none c =
    let other = subst (λ (row : List ℕ). word c.in-Some.place row % 2 ^ c.loop-power.power ≡ 0 → ⊥) c.words.ensures c.if-not-has_factor.ensures in
    let small : c.loop-power.power ≤ c.args.w = omega arith in
    not_made c.args.w c.args.n (omega arith) c.args.rows.items c.args.target c.loop-power.rows.items c.loop-power.target
    c.loop-power.power c.in-Some.place small c.in-Some.ensures.1 other c.loop-power.invariant.reduced

pub clear_all-requires-clause-rows : goal.clear_all-requires-clause-rows
clear_all-requires-clause-rows c =
    let inside : c.in-Some.at < length c.loop-power.rows.items = omega (arith, c.in-Some.ensures.0, ap length c.as_slice.ensures.value) in
    let row = c.new-pivot.ensures.row ∙ c.remove.ensures.value ∙ get_or_default c.loop-power.rows.items c.in-Some.at c.remove.result [] inside in
    let place : c.new-pivot.result.place < c.args.n = omega (arith, c.in-Some.ensures.1, c.new-pivot.ensures.place) in
    subst (AllByRecursion (CanBeCleared c.new-pivot.result)) (sym (c.as_mut_slice.ensures.value ∙ c.remove.ensures.items))
    (clearable c.args.w c.args.n (omega arith) c.args.rows.items c.args.target c.loop-power.rows.items c.loop-power.target
    c.loop-power.power c.in-Some.at c.new-pivot.result [] [] inside row c.new-pivot.ensures.power place c.loop-power.invariant.reduced)

pub loop-power-preserved : goal.loop-power-preserved
loop-power-preserved c =
    let p = c.new-pivot.result in
    let inside : c.in-Some.at < length c.loop-power.rows.items = omega (arith, c.in-Some.ensures.0, ap length c.as_slice.ensures.value) in
    let row = c.new-pivot.ensures.row ∙ c.remove.ensures.value ∙ get_or_default c.loop-power.rows.items c.in-Some.at c.remove.result [] inside in
    let place : c.new-pivot.result.place < c.args.n = omega (arith, c.in-Some.ensures.1, c.new-pivot.ensures.place) in
    let Others : List (List ℕ) → Type 0 = λ rows. AllZip (IsCleared p.row p.place) rows c.clear_all.new.rows in
    let others = subst Others (c.as_mut_slice.ensures.value ∙ c.remove.ensures.items) c.clear_all.ensures in
    let long : length c.clear_all.new.rows ≡ length c.remove.new.self.items = omega (arith, c.clear_all.auto.rows, c.as_mut_slice.ensures.len) in
    let all = whole c.clear_all.new.rows c.remove.new.self.items c.remove.new.self.len (omega (arith, long)) long in
    let Reduced : List (List ℕ) → Type 0 = λ rows. IsReduced c.args.w c.args.n c.loop-power.power c.args.rows.items c.args.target rows c.clear.new.row in
    let small : c.loop-power.power ≤ c.args.w = omega arith in
    record {
      power = small;
      reduced = subst Reduced (sym all)
          (cleared c.args.w c.args.n (omega arith) c.args.rows.items c.args.target c.loop-power.rows.items c.loop-power.target
          c.loop-power.power c.in-Some.at c.new-pivot.result c.clear_all.new.rows c.clear.new.row inside
          c.new-pivot.ensures.pivot row c.new-pivot.ensures.power place others c.clear.ensures c.loop-power.invariant.reduced);
    }

pub returns-then-is_multiple-clause-makes : goal.returns-then-is_multiple-clause-makes
returns-then-is_multiple-clause-makes c =
    let end : c.loop-power.power ≡ c.args.w = let most = c.loop-power.invariant.power in omega arith in
    let Reduced : ℕ → Type 0 = λ power. IsReduced c.args.w c.args.n power c.args.rows.items c.args.target c.loop-power.rows.items c.loop-power.target in
    made_of c.args.w c.args.n (omega arith) c.args.rows.items c.args.target c.loop-power.rows.items c.loop-power.target
    (subst Reduced end c.loop-power.invariant.reduced) (subst (IsMultiple c.args.n c.args.w) c.words-2.ensures c.if-is_multiple.ensures)

pub returns-clause-none : goal.returns-clause-none
returns-clause-none c =
    let end : c.loop-power.power ≡ c.args.w = let most = c.loop-power.invariant.power in omega arith in
    let Reduced : ℕ → Type 0 = λ power. IsReduced c.args.w c.args.n power c.args.rows.items c.args.target c.loop-power.rows.items c.loop-power.target in
    let place = c.if-is_multiple.ensures in
    let other = subst (λ (row : List ℕ). word place.0 row % 2 ^ c.args.w ≡ 0 → ⊥) c.words-2.ensures place.2 in
    not_made c.args.w c.args.n (omega arith) c.args.rows.items c.args.target c.loop-power.rows.items c.loop-power.target
    c.args.w place.0 (omega arith) place.1 other (subst Reduced end c.loop-power.invariant.reduced)
