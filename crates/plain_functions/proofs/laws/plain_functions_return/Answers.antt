use Rattle.plain_functions.proofs.PlainLaws.{plain-only_returns}
use Rattle.plain_functions.proofs.laws.plain_functions_return.Goals as goal

pub returns : goal.returns
returns c pool = plain-only_returns c.args.f.now.insns pool c.requires
