use Rattle.std.proofs.Common.{◌≡◌, ◌++◌, take, drop, length}
use Rattle.machine.proofs.vectors.lower_and_upper.Given as goal

-- the low bytes so far stand in place of the others
abbrev pub invariant-loop-k : goal.invariant-loop-k
invariant-loop-k l = (l.bytes ≡ take l.k l.low ++ drop l.k l.high) × (length l.bytes ≡ 32)
