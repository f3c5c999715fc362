use Rattle.std.proofs.Common.{◌∙◌, sym, eqb-true, eq-eqb}
use Rattle.form_sums.proofs.Zeros.{clear_count, count_clear}
use Rattle.form_sums.proofs.totals.Totals.are_clear.Goals as goal

pub returns : goal.returns
returns c = (
  λ h. rw (sym c.self.view_is) (count_clear c.self.inside.totals.items (sym c.self.invariant ∙ eqb-true c.self.inside.count 0 h)),
  λ h. eq-eqb c.self.inside.count 0 (c.self.invariant ∙ clear_count c.self.inside.totals.items (rw c.self.view_is h)),
)
