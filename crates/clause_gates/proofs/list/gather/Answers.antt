use Rattle.clause_gates.specs.NormalForms.{normal_form}
use Rattle.clause_gates.proofs.Forms.{gathered_ends, gathered_stops, normal_increasing}
use Rattle.clause_gates.proofs.list.gather.Goals as goal

pub returns-then-not-branch-clause-value : goal.returns-then-not-branch-clause-value
returns-then-not-branch-clause-value c =
    gathered_stops c.loop-lit.kept.items c.args.lits.now c.loop-lit.lit-index _ (normal_form c.args.lits.now) c.loop-lit-test.true
    (rw c.if-not-branch.true at c.in_ok-insert.ensures) c.loop-lit.invariant

pub returns-clause-ordered : goal.returns-clause-ordered
returns-clause-ordered c =
    λ t. normal_increasing c.args.lits.now c.loop-lit.kept.items
    (gathered_ends c.loop-lit.kept.items c.args.lits.now c.loop-lit.lit-index (normal_form c.args.lits.now) c.loop-lit-test.false c.loop-lit.invariant)
