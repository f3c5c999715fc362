use Rattle.std.proofs.Common.{◌/◌, ◌≤◌, length, arith}
use Rattle.tests_text.proofs.Filling.{push-end, push-more}
use Rattle.tests_text.proofs.memory.push_bytes.Goals as goal

pub loop-i-preserved : goal.loop-i-preserved
loop-i-preserved c =
    let h = c.loop-i in
    push-more c.push.new.self h.bytes c.args.bytes.now c.args.text.now c.args.at h.i c.byte_at.result c.requires.hex c.loop-i-test.true h.invariant c.byte_at.ensures c.in_ok-push.ensures.ok

pub returns : goal.returns
returns c =
    let h = c.loop-i in
    let over : length c.args.text.now / 2 ≤ h.i = omega arith in
    push-end h.bytes c.args.bytes.now c.args.text.now c.args.at h.i c.requires.hex over h.invariant
