use Rattle.std.proofs.Common.{◌≡◌, ℕ, ◌+◌, ◌%◌, ◌^◌, List, length, [], get_or, sym, ◌∙◌, ap, subst, arith}
use Rattle.std.specs.Prelude.{slice_index}
use Rattle.std.specs.List.{AllByRecursion}
use Rattle.std.proofs.lemmas.List.{get_or-drop}
use Rattle.node_forms.specs.Sums.{SameWord}
use Rattle.linear_forms.specs.declared.places.Place.{Place}
use Rattle.linear_forms.specs.declared.places.Place.TheVariants.{Constant}
use Rattle.linear_forms.specs.Places.{HasAtoms, IsAmong, IsUnit}
use Rattle.linear_forms.specs.MatrixRows.{AddsUp, word}
use Rattle.linear_forms.proofs.Systems.{all_from, base_adds_up, combination_by, makes_of, row_adds_up}
use Rattle.linear_forms.proofs.solving.solve.Goals as goal

pub eliminate-requires-clause-rows : goal.eliminate-requires-clause-rows
eliminate-requires-clause-rows c =
    let w : ℕ = c.args.target.now.w in
    let n : ℕ = length c.as_slice-places.result.now in
    let rows : List (List ℕ) = c.in_ok-rows.rows.items in
    let count : length rows ≡ length c.args.parts.now = c.in_ok-rows.ensures.count in
    all_from (AddsUp w n rows []) rows []
    (λ i b. row_adds_up w n rows (omega arith) i b (subst (λ m. IsUnit n m i (get_or rows i [])) (sym count) (c.in_ok-rows.ensures.units i b)))

pub eliminate-requires-clause-target : goal.eliminate-requires-clause-target
eliminate-requires-clause-target c =
    let n : ℕ = length c.as_slice-places.result.now in
    let rows : List (List ℕ) = c.in_ok-rows.rows.items in
    let count : length rows ≡ length c.args.parts.now = c.in_ok-rows.ensures.count in
    base_adds_up c.args.target.now.w n rows c.in_ok-base.base (subst (λ m. IsUnit n m m c.in_ok-base.base) (sym count) c.in_ok-base.ensures.unit)

pub returns-in-None-clause-none : goal.returns-in-None-clause-none
returns-in-None-clause-none c weights h =
    c.in-None.ensures.none (slice_index weights)
    (makes_of c.args.target.now.w c.as_slice-places.result.now c.args.target.now c.args.parts.now c.in_ok-rows.rows.items c.in_ok-base.base
    c.in_ok-rows.ensures.words c.in_ok-base.ensures.words weights h)

pub returns-clause-combines : goal.returns-clause-combines
returns-clause-combines c =
    let w : ℕ = c.args.target.now.w in
    let places : List Place = c.as_slice-places.result.now in
    let n : ℕ = length places in
    let keys = sym c.as_slice-places.ensures.keys in
    let left : List ℕ = c.in-Some.left in
    let weights : List ℕ = c.in_ok-low_words-in-Some.field-0.items in
    let same : (k : ℕ) → SameWord w (slice_index weights k) (word (n + k) left) =
    λ k. c.in_ok-low_words-in-Some.ensures.same k
    ∙ ap (λ x. x % 2 ^ w) (ap (word k) c.split_at.ensures.back ∙ get_or-drop n c.words.result.now k 0 ∙ ap (word (n + k)) c.words.ensures) in
    combination_by w places c.args.target.now c.args.parts.now c.in_ok-rows.rows.items c.in_ok-base.base
    c.in_ok-rows.ensures.words c.in_ok-base.ensures.words weights (λ k. word (n + k) left) same c.in-Some.ensures.makes
    (subst (λ ps. IsAmong ps Constant) keys c.in_ok-places.ensures.constant)
    (subst (λ ps. HasAtoms ps c.args.target.now) keys c.in_ok-places.ensures.target)
    (subst (λ ps. AllByRecursion (HasAtoms ps) c.args.parts.now) keys c.in_ok-places.ensures.parts)
