use Rattle.duty_readings.proofs.Assigning.{has_assignments}
use Rattle.duty_readings.proofs.laws.broken_duties_have_assignments.Goals as goal

pub returns : goal.returns
returns c = has_assignments c.args.duty.now c.in_order.ensures.sheet c.requires
