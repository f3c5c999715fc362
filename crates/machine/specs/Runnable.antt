-- What running an instruction needs of it: widths and numbers in their ranges.
use Rattle.std.specs.Prelude.{◌≡◌, ℕ, ◌-◌, ◌^◌, ◌<◌, List, length, Some, slice_get}
use Rattle.insn_ops.specs.declared.op.Op.{Op}
use Rattle.insn_ops.specs.declared.op.Op.TheVariants as ops
use Rattle.insn_ops.specs.declared.vector_op.VectorOp.{VectorOp}
use Rattle.insn_ops.specs.declared.vector_op.VectorOp.TheVariants.{Vzeroupper}
use Rattle.insn_table.specs.declared.insn.Insn.{Insn}
use Rattle.insn_table.specs.declared.insn.Operand.{Operand}
use Rattle.insn_table.specs.declared.insn.Operand.TheVariants.{Reg, Imm}
use Rattle.insn_table.specs.Closed.{IsLeaving}
use Rattle.insn_table.specs.Table.{HasRegisters}
use Rattle.lane_semantics.specs.VectorRows.{IsVectorRow, IsVectorWidth}
use Rattle.machine.specs.declared.operands.Family.{Family}
use Rattle.machine.specs.declared.operands.Family.TheVariants.{Clearing, OnVectors}
use Rattle.machine.specs.Family.{family_of}
use Rattle.machine.specs.Operands.{operand}
use Rattle.machine.specs.Step.{jump_place, target_operand}
pub use Rattle.insn_ops.specs.Outputs.{IsWidth}

-- the width of an instruction of a family is one of a general register, but of those on vectors
abbrev pub HasWidth : Family → ℕ → Type 0
HasWidth OnVectors w = Unit {0}
HasWidth Clearing w = Unit {0}
HasWidth _ w = IsWidth w

-- the table has the operation on vectors of w bits, with the widths of its lanes; `vzeroupper` has none
abbrev pub HasVectorRow : VectorOp → ℕ → Type 0
HasVectorRow Vzeroupper w = IsVectorWidth w
HasVectorRow op w = IsVectorRow op w

-- the operand is a general register, of any width
abbrev pub IsGeneralRegister : Operand → Type 0
IsGeneralRegister (Reg n w) = Unit {0}
IsGeneralRegister _ = ⊥

-- the source is a count in the range of its shift
pub record HasCount (i : Insn) : Type 0 where
  pub count : ℕ
  pub source : operand i 0 ≡ Imm count
  pub some : 0 < count
  pub below : count < i.w

-- what the row of an operation needs beside registers and a width
abbrev pub HasRowOf : Op → Insn → Type 0
HasRowOf ops.Shl i = HasCount i
HasRowOf ops.Shr i = HasCount i
HasRowOf ops.Sar i = HasCount i
HasRowOf ops.Lea i = IsGeneralRegister (target_operand ops.Lea i)
HasRowOf (ops.Movzx m) i = IsWidth m × (m < i.w)
HasRowOf (ops.Movsx m) i = IsWidth m × (m < i.w)
HasRowOf ops.Cltq i = i.w ≡ 64
HasRowOf (ops.Set c) i = i.w ≡ 8
HasRowOf (ops.Vector op) i = HasVectorRow op i.w
HasRowOf _ i = Unit {0}

-- a jump's place is below the number of instructions
abbrev pub JumpsBelow : ℕ → Op → Insn → Type 0
JumpsBelow n (ops.Jump c) i = jump_place (operand i 0) < n
JumpsBelow n ops.Jmp i = jump_place (operand i 0) < n
JumpsBelow n _ i = Unit {0}

-- the instruction can be run among n instructions
pub record IsRunnable (n : ℕ) (i : Insn) : Type 0 where
  pub width : HasWidth (family_of i.op) i.w
  pub numbers : (k : ℕ) → HasRegisters (operand i k)
  pub row : HasRowOf i.op i
  pub jump : JumpsBelow n i.op i

-- A function that can be run: it has an instruction and fewer than 2^32, each can be run, and the last one leaves.
pub record IsRunnableFunction (insns : List Insn) : Type 0 where
  pub some : 0 < length insns
  pub few : length insns < 2 ^ 32
  pub each : (k : ℕ) (i : Insn) → slice_get insns k ≡ Some i → IsRunnable (length insns) i
  pub last : (i : Insn) → slice_get insns (length insns - 1) ≡ Some i → IsLeaving i.op
