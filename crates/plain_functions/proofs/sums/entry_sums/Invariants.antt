use Rattle.std.proofs.Common.{◌≡◌, ℕ, ◌%◌, ◌^◌, ◌<◌, List, length, Some, slice_get, slice_index}
use Rattle.plain_functions.specs.declared.sums.Sum.{Sum}
use Rattle.plain_functions.specs.Sums.{sum_value}
use Rattle.plain_functions.proofs.sums.entry_sums.Given as goal

-- the registers so far are their entry registers
abbrev pub invariant-loop-n : goal.invariant-loop-n
invariant-loop-n l =
    (length l.sums ≡ 16)
    × ((regs : List ℕ) → length regs ≡ 16 → (k : ℕ) (s : Sum) → k < l.n → slice_get l.sums k ≡ Some s → sum_value s regs ≡ slice_index regs k % 2 ^ 64)
