use Rattle.std.proofs.Common.{◌^◌, arith}
use Rattle.plain_functions.proofs.Products.{dot-plus_times, value-plus_times}
use Rattle.plain_functions.specs.Sums.{dot}
use Rattle.plain_functions.proofs.sums.Sum.plus_times.Goals as goal

pub returns : goal.returns
returns c = λ regs.
    let a = c.args.self.now in let b = c.args.other.now in
    value-plus_times c.args.weight (2 ^ 64) (dot a.coefs regs) (dot b.coefs regs) (dot c.loop-k.coefs regs) a.constant b.constant
    (dot-plus_times c.args.weight (2 ^ 64) a.coefs b.coefs c.loop-k.coefs (omega arith) (omega arith) (λ j h. c.loop-k.invariant.1 j (omega arith)) regs)
