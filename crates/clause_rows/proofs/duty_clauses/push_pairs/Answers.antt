use Rattle.std.specs.Prelude.{slice_index}
use Rattle.clause_rows.specs.DutyClauses.{pair_row}
use Rattle.clause_rows.proofs.Pushing.{pushed_of}
use Rattle.clause_rows.proofs.duty_clauses.push_pairs.Goals as goal

pub loop-pair-preserved : goal.loop-pair-preserved
loop-pair-preserved c =
    pushed_of (pair_row (slice_index c.args.firsts.now)) c.args.list.now c.loop-pair.list c.push_pair.new.list
    c.args.pairs.now c.loop-pair.pair-index _ c.loop-pair-test.true c.loop-pair.invariant c.in_ok-push_pair.ensures
