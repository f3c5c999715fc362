use Rattle.std.proofs.Common.{◌≤◌, arith}
use Rattle.tests_text.proofs.Filling.{vector-default}
use Rattle.tests_text.proofs.vector.default_vector.Goals as goal

pub returns : goal.returns
returns c =
    let h = c.loop-i in
    let over : 32 ≤ h.i = omega arith in
    vector-default c.args.k c.args.n h.bytes h.i over h.invariant.1 h.invariant.0
