use Rattle.refuted_duties.proofs.Grounds.{refuted_true}
use Rattle.refuted_duties.proofs.laws.refuted_duties_are_true.Goals as goal

pub returns : goal.returns
returns c = refuted_true c.args.duty.now c.in_order.ensures.sheet c.requires c.broken_duties_have_assignments.ensures
