use Rattle.insn_semantics.proofs.FormedLaws.{conds_formed}
use Rattle.insn_semantics.proofs.formed_laws.conditions_are_formed.Goals as goal

pub returns : goal.returns
returns c = conds_formed
