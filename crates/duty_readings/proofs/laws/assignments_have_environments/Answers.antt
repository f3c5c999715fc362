use Rattle.duty_readings.proofs.Reading.{has_environments}
use Rattle.duty_readings.proofs.laws.assignments_have_environments.Goals as goal

pub returns : goal.returns
returns c = has_environments c.args.duty.now c.in_order.ensures.sheet c.in_order.ensures.distinct c.requires
