use Rattle.duty_claims.proofs.Needs.{needed-is, needs_go_on}
use Rattle.duty_claims.proofs.laws.needs_go_on.Goals as goal

pub returns : goal.returns
returns c = record { is = needed-is; on = needs_go_on }
