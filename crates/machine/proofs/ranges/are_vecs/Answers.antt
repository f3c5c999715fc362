use Rattle.std.proofs.Common.{List, arith, subst}
use Rattle.std.proofs.lemmas.List.{take_all}
use Rattle.std.proofs.lemmas.List.Elements.{All-more}
use Rattle.std.specs.List.{All}
use Rattle.lane_views.specs.declared.Bytes32.{Bytes32}
use Rattle.machine.proofs.StartRanges.{IsVec, vecs_in_range}
use Rattle.machine.proofs.ranges.are_vecs.Goals as goal

pub loop-vec-preserved : goal.loop-vec-preserved
loop-vec-preserved c =
    All-more (λ (v : Bytes32). IsVec v.bytes) c.args.vecs.now c.loop-vec.vec-index _ (omega (arith, c.told-vecs, c.loop-vec-test.true)) c.loop-vec.invariant
    (c.is_vec.ensures.length, c.is_vec.ensures.below)

pub returns : goal.returns
returns c =
    vecs_in_range c.args.vecs.now c.told-vecs
    (subst (λ (vs : List Bytes32). All (λ (v : Bytes32). IsVec v.bytes) vs) (take_all c.loop-vec.vec-index c.args.vecs.now (omega (arith, c.told-vecs, c.loop-vec-test.false))) c.loop-vec.invariant)
