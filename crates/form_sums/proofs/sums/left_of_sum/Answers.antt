use Rattle.std.proofs.Common.{◌≡◌, ℕ, ◌+◌, ◌%◌, ◌^◌, ◌∙◌, true, false, List, [], ◌∷◌, sym, ap, subst, drop, arith}
use Rattle.std.specs.Prelude.{get_or, slice_index}
use Rattle.std.proofs.lemmas.List.{drop_all, drop_more}
use Rattle.node_values.specs.declared.node.NodeId.{NodeId}
use Rattle.node_forms.specs.Forms.{form_at}
use Rattle.node_forms.specs.Sums.{SameWord}
use Rattle.form_sums.specs.Sums.{AreWide, sum_coefficient, sum_constant}
use Rattle.form_sums.specs.Made.{AreClear}
use Rattle.form_sums.proofs.Summing.{clear_of_cancel, part_added}
use Rattle.form_sums.proofs.sums.left_of_sum.Goals as goal

pub loop-weight-preserved : goal.loop-weight-preserved
loop-weight-preserved c =
    let w : ℕ = c.args.w in
    let none : ℕ × NodeId = (0, record { 0 = 0 }) in
    let i : ℕ = c.loop-weight.weight-index in
    let p : ℕ × NodeId = get_or c.args.parts.now i none in
    let rest : List (ℕ × NodeId) = drop (i + 1) c.args.parts.now in
    let more : drop i c.args.parts.now ≡ p ∷ rest = drop_more c.args.parts.now i none c.loop-weight-test.true in
    let wide : AreWide c.args.nodes.now w (p ∷ rest) = subst (AreWide c.args.nodes.now w) more c.loop-weight.invariant.5 in (
      λ a. part_added w (λ j. (form_at c.args.nodes.now w j).coefficient a) p rest (slice_index c.loop-weight.totals a)
          (slice_index c.add_part.new.totals a) (c.in_ok-constant.ensures.totals a)
          ∙ ap (λ (ps : List (ℕ × NodeId)). (slice_index c.loop-weight.totals a + sum_coefficient c.args.nodes.now w ps a) % 2 ^ w) (sym more)
          ∙ c.loop-weight.invariant.0 a,
      part_added w (λ j. (form_at c.args.nodes.now w j).constant) p rest c.loop-weight.constant c.in_ok-constant.constant c.in_ok-constant.ensures.constant
          ∙ ap (λ (ps : List (ℕ × NodeId)). (c.loop-weight.constant + sum_constant c.args.nodes.now w ps) % 2 ^ w) (sym more)
          ∙ c.loop-weight.invariant.1,
      c.in_ok-constant.ensures.below,
      c.in_ok-constant.ensures.room,
      c.in_ok-constant.ensures.forms,
      wide.1,
    )

pub returns-else-are_clear-clause-left : goal.returns-else-are_clear-clause-left
returns-else-are_clear-clause-left c = λ cancel.
    let w : ℕ = c.args.w in
    let total : ℕ → ℕ = slice_index c.loop-weight.totals in
    let sum : ℕ → ℕ = sum_coefficient c.args.nodes.now w c.args.parts.now in
    let over : drop c.loop-weight.weight-index c.args.parts.now ≡ [] = drop_all c.loop-weight.weight-index c.args.parts.now (omega arith) in
    let clear : AreClear c.loop-weight.totals = λ a. clear_of_cancel w (total a) (sum a) (c.loop-weight.invariant.2 a)
    (ap (λ (t : ℕ). t % 2 ^ w) (let e : total a ≡ total a + 0 = omega arith in e)
    ∙ subst (λ (ps : List (ℕ × NodeId)). SameWord w (total a + sum_coefficient c.args.nodes.now w ps a) (sum a)) over (c.loop-weight.invariant.0 a))
    (cancel a) in
    absurd (let t : false ≡ true = c.if-are_clear.ensures.1 clear in cc)
