use Rattle.duty_claims.proofs.Goals.{held, unbroken}
use Rattle.duty_readings.proofs.Assigning.{has_assignments}
use Rattle.duty_readings.proofs.Reading.{has_environments}
use Rattle.duty_readings.proofs.laws.true_duties_have_no_assignments.Goals as goal

pub returns : goal.returns
returns c = (
  λ true v m.
      let read = has_environments c.args.duty.now c.in_order.ensures.sheet c.in_order.ensures.distinct c.requires v m in
      unbroken c.args.duty.now c.in_order.ensures.sheet true read.0 read.1.breaks,
  λ none.
      held c.args.duty.now c.in_order.ensures.sheet c.requires (λ e b.
      let made = has_assignments c.args.duty.now c.in_order.ensures.sheet c.requires e b in
      none made.0 made.1.meets),
)
