use Rattle.std.proofs.Common.{arith, rules, subst}
use Rattle.plain_functions.proofs.PlainEnds.{AreSoFar, closed-plain, more-so-far, none-so-far}
use Rattle.plain_functions.proofs.plainness.first_unplain.Goals as goal

pub loop-insn-init : goal.loop-insn-init
loop-insn-init c = none-so-far _

pub loop-insn-preserved : goal.loop-insn-preserved
loop-insn-preserved c =
    more-so-far _ _ _ _ c.loop-insn-test.true (subst (AreSoFar _ _) c.if-returned.false c.loop-insn.invariant) (c.is_plain_insn.ensures.0 (search rules)) c.is_return-returned.ensures

pub returns-clause-plain : goal.returns-clause-plain
returns-clause-plain c = λ closed. closed-plain _ closed (λ k h. c.loop-insn.invariant.each k (omega arith))
