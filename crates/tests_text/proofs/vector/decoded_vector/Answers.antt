use Rattle.std.proofs.Common.{◌≤◌, arith}
use Rattle.tests_text.proofs.Filling.{vector-decoded}
use Rattle.tests_text.proofs.vector.decoded_vector.Goals as goal

pub returns : goal.returns
returns c =
    let h = c.loop-i in
    let over : 32 ≤ h.i = omega arith in
    vector-decoded h.bytes c.args.text.now h.i c.requires.hex c.requires.long over h.invariant.1 h.invariant.0
