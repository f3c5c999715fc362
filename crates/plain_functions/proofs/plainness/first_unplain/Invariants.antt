use Rattle.plain_functions.proofs.PlainEnds.{AreSoFar}
use Rattle.plain_functions.proofs.plainness.first_unplain.Given as goal

-- each instruction so far is plain where it stands, and the flag tells whether one of them returns
abbrev pub invariant-loop-insn : goal.invariant-loop-insn
invariant-loop-insn l = AreSoFar l.insns l.insn-index l.returned
