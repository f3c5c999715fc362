use Rattle.plain_functions.proofs.PlainLaws.{plain-equivalent}
use Rattle.plain_functions.proofs.laws.plain_functions_agree.Goals as goal

pub returns : goal.returns
returns c pool_f pool_g = plain-equivalent c.args.f.now.insns c.args.g.now.insns pool_f pool_g c.requires.left c.requires.right c.requires.same
