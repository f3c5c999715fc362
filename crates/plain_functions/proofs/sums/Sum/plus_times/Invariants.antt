use Rattle.std.proofs.Common.{◌≡◌, ℕ, ◌+◌, ◌*◌, ◌%◌, ◌^◌, ◌<◌, length, get_or}
use Rattle.plain_functions.proofs.sums.Sum.plus_times.Given as goal

abbrev pub invariant-loop-k : goal.invariant-loop-k
invariant-loop-k l =
    (length l.coefs ≡ 16)
    × ((j : ℕ) → j < l.k → get_or l.coefs j 0 ≡ (get_or l.self.coefs j 0 + get_or l.other.coefs j 0 * l.weight % 2 ^ 64) % 2 ^ 64)
