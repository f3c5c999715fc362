use Rattle.std.proofs.Common.{◌∙◌, sym, eqb-true, eq-eqb}
use Rattle.resolution_chains.proofs.Marking.{clean_count, count_clean}
use Rattle.resolution_chains.proofs.marks.Marks.is_clean.Goals as goal

pub returns : goal.returns
returns c = (
  λ h. rw (sym c.self.view_is) (count_clean c.self.inside.signs.items (sym c.self.invariant ∙ eqb-true c.self.inside.count 0 h)),
  λ h. eq-eqb c.self.inside.count 0 (c.self.invariant ∙ clean_count c.self.inside.signs.items (rw c.self.view_is h)),
)
