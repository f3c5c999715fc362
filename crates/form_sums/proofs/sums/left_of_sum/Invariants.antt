use Rattle.std.proofs.Common.{◌≡◌, ℕ, ◌+◌, drop, length}
use Rattle.std.specs.Prelude.{slice_index}
use Rattle.node_forms.specs.Sums.{SameWord}
use Rattle.form_sums.specs.Made.{AreBelow, AreForms}
use Rattle.form_sums.specs.Sums.{AreWide, sum_coefficient, sum_constant}
use Rattle.form_sums.proofs.sums.left_of_sum.Given as goal

-- the totals and the constant with the rest of the parts are those of all
abbrev pub invariant-loop-weight : goal.invariant-loop-weight
invariant-loop-weight l =
    ((a : ℕ) → SameWord l.w (slice_index l.totals a + sum_coefficient l.nodes l.w (drop l.weight-index l.parts) a) (sum_coefficient l.nodes l.w l.parts a))
    × SameWord l.w (l.constant + sum_constant l.nodes l.w (drop l.weight-index l.parts)) (sum_constant l.nodes l.w l.parts)
    × AreBelow l.w l.totals × (length l.totals ≡ length l.nodes) × AreForms l.nodes l.forms
    × AreWide l.nodes l.w (drop l.weight-index l.parts)
