use Rattle.std.proofs.Common.{◌≡◌, ◌+◌, ◌%◌, ◌^◌, drop}
use Rattle.admission.specs.Values.{sum_of}
use Rattle.admission.proofs.expr.Expr.value.Given as goal

-- the sum so far and the terms that are left make the whole sum
abbrev pub invariant-loop-term : goal.invariant-loop-term
invariant-loop-term l = (l.sum + sum_of l.regs (drop l.term-index l.self.terms)) % 2 ^ 64 ≡ sum_of l.regs l.self.terms
