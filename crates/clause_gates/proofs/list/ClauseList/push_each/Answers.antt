use Rattle.std.proofs.Common.{sym}
use Rattle.clause_gates.proofs.Forms.{pushed_more}
use Rattle.clause_gates.proofs.list.ClauseList.push_each.Goals as goal

pub loop-lits-preserved : goal.loop-lits-preserved
loop-lits-preserved g c =
    pushed_more c.args.self.now c.loop-lits.self c.push.new.self c.args.rows.now c.loop-lits.lits-index c.lits-item.result
    c.loop-lits-test.true (sym c.lits-item.is) c.loop-lits.invariant c.in_ok-push.ensures.ok
