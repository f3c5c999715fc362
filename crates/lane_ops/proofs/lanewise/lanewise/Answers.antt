use Rattle.std.proofs.Common.{◌^◌, ◌<◌, arith}
use Rattle.std.proofs.lemmas.Nat.{or_lt, xor_lt}
use Rattle.lane_ops.proofs.lanewise.lanewise.Goals as goal

pub returns-in-Por-clause-below : goal.returns-in-Por-clause-below
returns-in-Por-clause-below c =
    let left : c.args.x < 2 ^ 64 = omega arith in
    let right : c.args.y < 2 ^ 64 = omega arith in
    rw c.in-Por.is (or_lt 64 c.args.x c.args.y left right)

pub returns-in-Pxor-clause-below : goal.returns-in-Pxor-clause-below
returns-in-Pxor-clause-below c =
    let left : c.args.x < 2 ^ 64 = omega arith in
    let right : c.args.y < 2 ^ 64 = omega arith in
    rw c.in-Pxor.is (xor_lt 64 c.args.x c.args.y left right)
