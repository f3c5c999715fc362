use Rattle.std.proofs.Common.{subst}
use Rattle.machine.specs.Kept.{IsKept}
use Rattle.machine.proofs.state.State.is_kept.Goals as goal

pub returns : goal.returns
returns c = subst IsKept c.self.view_is c.self.invariant.kept
