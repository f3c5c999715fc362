use Rattle.std.proofs.Common.{◌≡◌, ℕ, ◌<◌, get_or}
use Rattle.plain_functions.proofs.sums.telling_registers.Given as goal

-- the coefficients so far agree
abbrev pub invariant-loop-n : goal.invariant-loop-n
invariant-loop-n l = (j : ℕ) → j < l.n → get_or l.left.coefs j 0 ≡ get_or l.right.coefs j 0
