use Rattle.std.proofs.Common.{◌∙◌, arith}
use Rattle.std.proofs.Math.ListN.{length-set}
use Rattle.machine.proofs.VectorWrites.{all_cleared, vector_cleared}
use Rattle.machine.proofs.vectors.clear_above.Goals as goal

pub loop-n-preserved : goal.loop-n-preserved
loop-n-preserved c = (
  vector_cleared c.args.vecs.now c.loop-n.vecs c.loop-n.n c.cleared_above-vec.result (omega (arith, c.told-vecs, c.loop-n-test.true)) c.loop-n.invariant.0
      c.cleared_above-vec.ensures,
  length-set c.loop-n.vecs c.loop-n.n c.cleared_above-vec.result ∙ c.loop-n.invariant.1,
)

pub returns-clause-cleared : goal.returns-clause-cleared
returns-clause-cleared c = all_cleared c.args.vecs.now c.loop-n.vecs c.loop-n.n (omega (arith, c.told-vecs, c.loop-n-test.false)) c.loop-n.invariant.0
