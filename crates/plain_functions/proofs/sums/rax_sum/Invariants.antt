use Rattle.std.proofs.Common.{◌≡◌, ℕ, List, length, take}
use Rattle.machine.specs.Machine.{AreRegs}
use Rattle.plain_functions.specs.Straight.{regs_through}
use Rattle.plain_functions.specs.Sums.{Tracks}
use Rattle.plain_functions.proofs.sums.rax_sum.Given as goal

-- the sums are what the registers hold after the instructions so far
abbrev pub invariant-loop-insn : goal.invariant-loop-insn
invariant-loop-insn l =
    (length l.sums ≡ 16) × ((start : List ℕ) → AreRegs start → Tracks l.sums start (regs_through (take l.insn-index l.insn-items) start))
