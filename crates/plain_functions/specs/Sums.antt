-- Sums of entry registers with coefficients, and a constant, modulo 2^64.
use Rattle.std.specs.Prelude.{◌≡◌, ◌≢◌, ◌⊎◌, ℕ, ◌+◌, ◌-◌, ◌*◌, ◌^◌, ◌%◌, ◌<◌, List, [], ◌∷◌, length, take, Some, slice_get, slice_index}
use Rattle.insn_table.specs.declared.insn.Insn.{Insn}
use Rattle.machine.specs.Machine.{AreRegs}
use Rattle.plain_functions.specs.Straight.{regs_through}
use Rattle.plain_functions.specs.Shown.{no_register, one_register}
use Rattle.plain_functions.specs.declared.sums.Sum.{Sum}

-- the products of two lists, item by item, added up
abbrev pub dot : List ℕ → List ℕ → ℕ
dot [] ys = 0
dot (x ∷ xs) [] = 0
dot (x ∷ xs) (y ∷ ys) = x * y + dot xs ys

-- the value of a sum where the entry registers are these
abbrev pub sum_value : Sum → List ℕ → ℕ
sum_value s regs = (dot s.coefs regs + s.constant) % 2 ^ 64

-- each register holds what its sum says, where the entry registers are start
pub record Tracks (sums : List Sum) (start regs : List ℕ) : Type 0 where
  pub sixteen : length regs ≡ 16
  pub holds : (n : ℕ) (s : Sum) → slice_get sums n ≡ Some s → sum_value s start ≡ slice_index regs n

-- the sum is what the function's moves leave in register 0, whatever the entry registers
abbrev pub LeavesInRax : List Insn → Sum → Type 0
LeavesInRax insns s =
    (start : List ℕ) → AreRegs start → sum_value s start ≡ slice_index (regs_through (take (length insns - 1) insns) start) 0

-- Both sums have values that differ where the entry registers are these: all 0 where they differ there, else 1 in the
-- first register, by number, where they differ.
abbrev pub TellsApart : Sum → Sum → List ℕ → Type 0
TellsApart a b regs =
    (sum_value a regs ≢ sum_value b regs)
    × ((regs ≡ no_register)
    ⊎ ((n : ℕ) × (n < 16) × (regs ≡ one_register n) × (sum_value a no_register ≡ sum_value b no_register)
    × ((m : ℕ) → m < n → sum_value a (one_register m) ≡ sum_value b (one_register m))))
