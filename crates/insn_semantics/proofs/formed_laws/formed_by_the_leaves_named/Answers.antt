use Rattle.insn_semantics.proofs.FormedLeaves.{formed_by_leaves}
use Rattle.insn_semantics.proofs.formed_laws.formed_by_the_leaves_named.Goals as goal

pub returns : goal.returns
returns c = formed_by_leaves
