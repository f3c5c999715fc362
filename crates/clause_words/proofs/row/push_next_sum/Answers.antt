use Rattle.std.proofs.Common.{[], ◌∷◌}
use Rattle.std.proofs.lemmas.Result.{on_ok_weaker}
use Rattle.clause_gates.specs.Gates.{majority_gate, xor_gate}
use Rattle.clause_gates.proofs.Forms.{pushed_parts}
use Rattle.clause_words.proofs.row.push_next_sum.Goals as goal

pub returns-then-goes_on : goal.returns-then-goes_on
returns-then-goes_on c =
    rw c.if-goes_on.true
    (on_ok_weaker c.majority.result
    (pushed_parts c.args.list.now c.xor_of_three.new.self c.majority.new.self
    (xor_gate c.args.r (c.args.a ∷ c.args.b ∷ c.args.into ∷ [])) (majority_gate c.args.out c.args.a c.args.b c.args.into)
    c.in_ok-xor_of_three.ensures)
    c.majority.ensures)
