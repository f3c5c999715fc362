use Rattle.std.proofs.Common.{◌∙◌, ap}
use Rattle.clause_gates.specs.Gates.{negation}
use Rattle.clause_words.specs.Rows.{all_alike, bit}
use Rattle.clause_words.proofs.Columns.{alike_more, put_behind}
use Rattle.clause_words.proofs.row.push_all_alike.Goals as goal

pub loop-k-preserved : goal.loop-k-preserved
loop-k-preserved c =
    put_behind c.loop-k.lits.items c.push-in-loop-k.new.self.items c.negated.result (negation (bit c.args.alike c.loop-k.k)) (all_alike c.loop-k.k c.args.r c.args.alike)
    c.in_ok-push-2.ensures.items c.loop-k.invariant
    (c.negated.ensures ∙ ap negation c.bit-in-loop-k.ensures) ∙ alike_more c.loop-k.k c.args.r c.args.alike
