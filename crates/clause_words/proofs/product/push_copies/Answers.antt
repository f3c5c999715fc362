use Rattle.std.proofs.Common.{◌≡◌, ◌∙◌, ◌+◌, ◌-◌, ◌++◌, suc, ap, arith}
use Rattle.clause_gates.specs.Gates.{copy_gate, positive}
use Rattle.clause_gates.specs.NormalForms.{normal_clauses}
use Rattle.clause_words.specs.Products.{sum_start}
use Rattle.clause_words.specs.Rows.{bit}
use Rattle.clause_words.proofs.Columns.{pushed_column}
use Rattle.clause_words.proofs.Stages.{copy_is, start_next, sum_next}
use Rattle.clause_words.proofs.product.push_copies.Goals as goal

pub loop-k-preserved : goal.loop-k-preserved
loop-k-preserved c =
    let size : c.args.w - 1 - c.loop-k.k ≡ c.args.w - suc c.loop-k.k = omega arith in
    let i = c.loop-k.invariant in
    record {
      clauses = pushed_column c.args.list.now c.loop-k.list c.copy-in-loop-k.new.self
          (λ k. copy_gate (bit c.args.r k) (positive (sum_start c.args.w c.args.h k))) (c.loop-k.k + 1) i.clauses
          (c.in_ok-copy-2.ensures
          ∙ ap (λ rows. c.loop-k.list ++ normal_clauses rows)
          (copy_is c.args.w c.args.r c.args.h c.loop-k.k (c.loop-k.start + (c.args.w - 1 - c.loop-k.k)) c.bit-in-loop-k.result c.plain-in-loop-k.result
          c.bit-in-loop-k.ensures c.plain-in-loop-k.ensures
          (sum_next c.args.w c.args.h c.loop-k.k (c.args.w - 1 - c.loop-k.k) c.loop-k.start size i.start)));
      start = start_next c.args.w c.args.h c.loop-k.k (c.args.w - 1 - c.loop-k.k) c.loop-k.start size i.start;
      room = omega arith;
    }
