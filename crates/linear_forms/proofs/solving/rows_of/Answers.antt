use Rattle.std.proofs.Common.{◌≡◌, ℕ, ◌+◌, ◌<◌, List, length, ◌++◌, ◌∷◌, [], get_or, take, sym, ap, subst, arith, length-append}
use Rattle.std.specs.List.{AllByRecursion, AllZip}
use Rattle.linear_forms.specs.Places.{IsRowOf, IsUnit}
use Rattle.linear_forms.proofs.Pushes.{all_last, numbered_last, zip_more}
use Rattle.linear_forms.proofs.solving.rows_of.Goals as goal

pub loop-at-preserved : goal.loop-at-preserved
loop-at-preserved c =
    let old : List (List ℕ) = c.loop-at.rows.items in
    let new : List ℕ = c.in_ok-row_of.field-0 in
    let items : c.push.new.self.items ≡ old ++ new ∷ [] = c.in_ok-push.ensures.items in
    let count : length old ≡ c.loop-at.at = c.loop-at.invariant.count in
    let longer : length (old ++ new ∷ []) ≡ length old + 1 = length-append old (new ∷ []) in
    let n : ℕ = length c.args.places.now in
    let m : ℕ = length c.args.parts.now in
    let inside : c.loop-at.at < length c.args.parts.now = omega arith in
    let unit = subst (λ k. IsUnit n m k new) (sym count) c.in_ok-row_of.ensures.unit in
    let all = subst (λ k. (i : ℕ) → i < k → IsUnit n m i (get_or (old ++ new ∷ []) i [])) (sym longer) (numbered_last (IsUnit n m) old new [] c.loop-at.invariant.units unit) in
    record {
      count = omega (arith, ap length items, longer, count);
      long = subst (AllByRecursion (λ row. length row ≡ n + m)) (sym items)
          (all_last (λ row. length row ≡ n + m) old new c.loop-at.invariant.long c.in_ok-row_of.ensures.length);
      words = subst (λ rows. AllZip (IsRowOf c.args.places.now) (take (c.loop-at.at + 1) c.args.parts.now) rows) (sym items)
          (zip_more (IsRowOf c.args.places.now) c.args.parts.now c.loop-at.at c.index-parts-at.result old new inside c.index-parts-at.is
          c.in_ok-row_of.ensures.words c.loop-at.invariant.words);
      units = subst (λ (rows : List (List ℕ)). (i : ℕ) → i < length rows → IsUnit n m i (get_or rows i [])) (sym items) all;
    }
