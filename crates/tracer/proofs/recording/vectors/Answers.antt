use Rattle.tracer.proofs.Recorded.{vectors-more}
use Rattle.tracer.proofs.recording.vectors.Goals as goal

pub loop-n-preserved : goal.loop-n-preserved
loop-n-preserved c =
    vectors-more c.args.state.now.vecs c.loop-n.vecs c.loop-n.n c.vec.result.now c.loop-n.invariant.0 c.loop-n-test.true c.vec.ensures c.loop-n.invariant.1
