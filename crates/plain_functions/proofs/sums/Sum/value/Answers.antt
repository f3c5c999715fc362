use Rattle.std.proofs.Common.{◌+◌, ◌^◌, ◌%◌, ◌∙◌, ap, sym, get_or, take, arith}
use Rattle.plain_functions.proofs.Products.{dot-take_more, value-more}
use Rattle.plain_functions.specs.Sums.{dot}
use Rattle.plain_functions.proofs.sums.Sum.value.Goals as goal

pub loop-k-preserved : goal.loop-k-preserved
loop-k-preserved c =
    let s = c.args.self.now in let regs = c.args.regs.now in let k = c.loop-k.k in
    value-more (2 ^ 64) c.loop-k.total (dot (take k s.coefs) (take k regs)) s.constant (get_or s.coefs k 0) (get_or regs k 0) c.loop-k.invariant
    ∙ ap (λ v. (v + s.constant) % 2 ^ 64) (sym (dot-take_more s.coefs regs k (omega arith) (omega arith)))
