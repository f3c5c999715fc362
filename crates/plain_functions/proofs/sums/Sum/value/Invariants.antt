use Rattle.std.proofs.Common.{◌≡◌, ◌+◌, ◌%◌, ◌^◌, take}
use Rattle.plain_functions.specs.Sums.{dot}
use Rattle.plain_functions.proofs.sums.Sum.value.Given as goal

abbrev pub invariant-loop-k : goal.invariant-loop-k
invariant-loop-k l = l.total ≡ (dot (take l.k l.self.coefs) (take l.k l.regs) + l.self.constant) % 2 ^ 64
