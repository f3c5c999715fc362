use Rattle.address_nodes.proofs.Least.{last_is_least}
use Rattle.address_nodes.proofs.difference.subtracts_least.Goals as goal

pub returns-in-Some : goal.returns-in-Some
returns-in-Some c = last_is_least c.args.terms.now c.in-Some.field-0.now c.in-Some.ensures.value
