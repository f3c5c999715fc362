use Rattle.std.proofs.Common.{sym, ◌∙◌, arith}
use Rattle.address_nodes.proofs.Exponents.{exponent_found, exponent_none, exponent_passed}
use Rattle.address_nodes.proofs.sums.exponent_of.Goals as goal

pub returns-then-q-n : goal.returns-then-q-n
returns-then-q-n c = sym (exponent_found c.loop-n.n c.args.q c.loop-n-test.true c.loop-n.invariant.0 c.if-q-n.true) ∙ c.loop-n.invariant.1

pub loop-n-preserved : goal.loop-n-preserved
loop-n-preserved c =
    let most = c.loop-n.invariant.0 in
    (omega arith, sym (exponent_passed c.loop-n.n c.args.q c.loop-n-test.true c.loop-n.invariant.0 c.if-q-n.false) ∙ c.loop-n.invariant.1)

pub returns : goal.returns
returns c = sym (exponent_none c.loop-n.n c.args.q c.loop-n-test.false) ∙ c.loop-n.invariant.1
