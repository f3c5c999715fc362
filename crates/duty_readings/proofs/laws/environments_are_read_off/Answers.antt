use Rattle.duty_readings.proofs.Reading.{reads_environment}
use Rattle.duty_readings.proofs.laws.environments_are_read_off.Goals as goal

pub returns : goal.returns
returns c = reads_environment c.args.duty.now c.in_order.ensures.sheet c.in_order.ensures.distinct c.requires
