use Rattle.std.proofs.Common.{arith}
use Rattle.plain_functions.proofs.Products.{apart-none, apart-one, value-same}
use Rattle.plain_functions.proofs.sums.telling_registers.Goals as goal

pub returns-then-left-right-clause-some : goal.returns-then-left-right-clause-some
returns-then-left-right-clause-some c = apart-none c.args.left.now c.args.right.now (omega arith) (omega arith) c.if-left-right.true

pub returns-then-left-n-clause-some : goal.returns-then-left-n-clause-some
returns-then-left-n-clause-some c =
    apart-one c.args.left.now c.args.right.now c.loop-n.n (omega arith) (omega arith) (omega arith) (omega arith) (omega arith) (omega arith)
    c.if-left-right.false c.if-left-n.true c.loop-n.invariant

pub returns-clause-none : goal.returns-clause-none
returns-clause-none c = value-same c.args.left.now c.args.right.now (omega arith) (λ j h. c.loop-n.invariant j (omega arith)) c.if-left-right.false
