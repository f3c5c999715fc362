use Rattle.duty_claims.proofs.Goals.{held, unbroken}
use Rattle.duty_claims.proofs.laws.duties_are_true_or_broken.Goals as goal

pub returns : goal.returns
returns c = (unbroken c.args.duty.now c.in_order.ensures.sheet, held c.args.duty.now c.in_order.ensures.sheet c.requires)
