-- Straight code: plain moves, sums and differences, one after another, by what they do to the registers; and how plain
-- functions end.
use Rattle.std.specs.Prelude.{◌≡◌, ◌≢◌, ℕ, ◌+◌, ◌-◌, ◌^◌, ◌%◌, List, [], ◌∷◌, length, slice_index, slice_set, take}
use Rattle.insn_ops.specs.declared.op.Op.{Op}
use Rattle.insn_ops.specs.declared.op.Op.TheVariants.{Mov, Add, Sub}
use Rattle.insn_table.specs.declared.insn.Insn.{Insn}
use Rattle.insn_table.specs.declared.insn.Operand.{Operand}
use Rattle.insn_table.specs.declared.insn.Operand.TheVariants.{Reg, Imm}
use Rattle.plain_functions.specs.Plain.{IsPlain}
use Rattle.machine.specs.Frame.{SameFrame}
use Rattle.machine.specs.Machine.{AreRegs, Machine}
use Rattle.plain_functions.specs.ShortForm.{IsPlainStart}
use Rattle.machine.specs.Operands.{operand}
use Rattle.runs.specs.Run.{end_of, run_of}
use Rattle.machine.specs.Step.{step_of}
use Rattle.runs.specs.declared.ends.RunEnd.TheVariants.{Returned, Faulted, Unset}

-- what a source of 64 bits holds
abbrev pub value_at : List ℕ → Operand → ℕ
value_at regs (Reg n w) = slice_index regs n
value_at regs (Imm v) = v
value_at regs _ = 0

-- the registers after a write to a register of 64 bits
abbrev pub regs_with : List ℕ → Operand → ℕ → List ℕ
regs_with regs (Reg n w) v = slice_set regs n v
regs_with regs _ v = regs

-- what a move, sum or difference makes of the target's old value and the source, modulo 2^64
abbrev pub plain_result : Op → ℕ → ℕ → ℕ
plain_result Mov old value = value
plain_result Add old value = (old + value) % 2 ^ 64
plain_result Sub old value = (old + (2 ^ 64 - value)) % 2 ^ 64
plain_result _ old value = old

-- the registers after a plain move
abbrev pub regs_after : Insn → List ℕ → List ℕ
regs_after i regs =
    regs_with regs (operand i 1) (plain_result i.op (value_at regs (operand i 1)) (value_at regs (operand i 0)))

-- the registers after these moves
abbrev pub regs_through : List Insn → List ℕ → List ℕ
regs_through [] regs = regs
regs_through (i ∷ is) regs = regs_through is (regs_after i regs)

-- two plain functions whose moves leave the same in register 0, from each start state
pub record LeaveTheSame (f g : List Insn) : Type 0 where
  pub left : IsPlain f
  pub right : IsPlain g
  pub same : (s : Machine) → IsPlainStart s
      → slice_index (regs_through left.moves s.regs) 0 ≡ slice_index (regs_through right.moves s.regs) 0

-- From the start state s it returns at its last instruction, in a state of 64-bit registers, those after all moves
-- before it, where all but registers, flags and place is as it was; and it ends in no other way.
pub record OnlyReturns (insns : List Insn) (pool : List ℕ) (s : Machine) : Type 0 where
  pub end : Machine
  pub returned : run_of (step_of insns pool) s (length insns) ≡ (end, Returned (length insns))
  pub regs : AreRegs end.regs
  pub after : end.regs ≡ regs_through (take (length insns - 1) insns) s.regs
  pub frame : SameFrame s end
  pub vecs : end.vecs ≡ s.vecs
  pub memory : end.memory ≡ s.memory
  pub once : (n i : ℕ) → end_of (step_of insns pool) s n ≡ Returned i → i ≡ length insns
  pub no_fault : (n i : ℕ) → end_of (step_of insns pool) s n ≢ Faulted i
  pub no_unset : (n i : ℕ) → end_of (step_of insns pool) s n ≢ Unset i
