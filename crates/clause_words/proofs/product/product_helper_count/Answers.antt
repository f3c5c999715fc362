use Rattle.std.proofs.Common.{◌≡◌, ◌-◌, suc, arith}
use Rattle.clause_words.proofs.Stages.{start_next}
use Rattle.clause_words.proofs.product.product_helper_count.Goals as goal

pub loop-k-preserved : goal.loop-k-preserved
loop-k-preserved c =
    let size : c.args.w - 1 - c.loop-k.k ≡ c.args.w - suc c.loop-k.k = omega arith in
    record {
      value = start_next c.args.w 0 c.loop-k.k (c.args.w - 1 - c.loop-k.k) c.loop-k.count size c.loop-k.invariant.value;
      few = omega arith;
    }
