-- Registers stay registers of 64 bits where one is set: sixteen of them, each below 2^64.
use Rattle.std.proofs.Common.{ℕ, ◌^◌, ◌<◌, List, length, slice_index, slice_set, arith}
use Rattle.std.proofs.Math.ListN.{length-set}
use Rattle.std.proofs.lemmas.Grind.{common_steps}
use Rattle.machine.specs.Machine.{AreRegs}

-- a list of numbers below 2^64 with one more written stays below
pub set-below : (regs : List ℕ) (r v n : ℕ) → r < length regs → v < 2 ^ 64 → slice_index regs n < 2 ^ 64 → slice_index (slice_set regs r v) n < 2 ^ 64
set-below regs r v n within small h = grind (arith, common_steps)

-- sixteen registers stay so where one is set
pub set_regs : (regs : List ℕ) (r v : ℕ) → r < 16 → v < 2 ^ 64 → AreRegs regs → AreRegs (slice_set regs r v)
set_regs regs r v within small all = record {
  sixteen = simp length-set all.sixteen;
  below = λ n. set-below regs r v n (omega (arith, all.sixteen)) small (all.below n);
}
