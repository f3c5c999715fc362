use Rattle.std.proofs.Common.{◌+◌, ◌^◌, ◌%◌, ap, ◌∙◌, add-zero}
use Rattle.plain_functions.proofs.Products.{dot-one}
use Rattle.plain_functions.proofs.sums.Sum.register.Goals as goal

pub returns : goal.returns
returns c = λ regs e. ap (λ v. (v + 0) % 2 ^ 64) (dot-one 16 c.args.n regs c.requires e) ∙ ap (λ v. v % 2 ^ 64) (add-zero _)
