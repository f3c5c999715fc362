use Rattle.std.proofs.Common.{◌≡◌, ◌∙◌, ◌+◌, ◌-◌, ◌++◌, suc, ap, arith}
use Rattle.clause_gates.specs.NormalForms.{normal_clauses}
use Rattle.clause_words.specs.Products.{stage_clauses}
use Rattle.clause_words.proofs.Columns.{pushed_column}
use Rattle.clause_words.proofs.Stages.{stage_is, start_next, sum_next}
use Rattle.clause_words.proofs.product.push_stages.Goals as goal

pub loop-k-preserved : goal.loop-k-preserved
loop-k-preserved c =
    let size : c.args.w - 1 - c.loop-k.k ≡ c.args.w - suc c.loop-k.k = omega arith in
    let i = c.loop-k.invariant in
    record {
      clauses = pushed_column c.args.list.now c.loop-k.list c.push_stage.new.list (stage_clauses c.args.w c.args.a c.args.b c.args.h) c.loop-k.k
          i.clauses
          (c.in_ok-push_stage.ensures
          ∙ ap (λ rows. c.loop-k.list ++ normal_clauses rows)
          (stage_is c.args.w c.args.a c.args.b c.args.h c.loop-k.k (c.args.w - 1 - c.loop-k.k) (c.args.b + c.loop-k.k + 1) c.loop-k.start c.loop-k.sum
          size (omega arith) i.start i.sum));
      sum = sum_next c.args.w c.args.h c.loop-k.k (c.args.w - 1 - c.loop-k.k) c.loop-k.start size i.start;
      start = start_next c.args.w c.args.h c.loop-k.k (c.args.w - 1 - c.loop-k.k) c.loop-k.start size i.start;
      sum_room = omega arith;
      room = omega arith;
    }
