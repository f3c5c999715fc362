use Rattle.std.proofs.Common.{◌≡◌, ℕ, ◌<◌, length, slice_index}
use Rattle.tracer.proofs.recording.entry_registers.Given as goal

-- the registers so far
abbrev pub invariant-loop-n : goal.invariant-loop-n
invariant-loop-n l = (length l.regs ≡ 16) × ((k : ℕ) → k < l.n → slice_index l.regs k ≡ slice_index l.state.entry k)
