use Rattle.std.proofs.Common.{arith}
use Rattle.std.proofs.lemmas.Grind.{common_steps}
use Rattle.att_statements.proofs.operand.bare_part.Goals as goal

pub returns : goal.returns
returns g c = grind (arith, common_steps, c.label_part.ensures c.args.op)
