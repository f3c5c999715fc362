-- Plain functions: 64-bit moves, sums and differences that leave the stack pointer alone, and one return at the end.
use Rattle.std.specs.Prelude.{◌≡◌, ◌⊎◌, ℕ, ◌+◌, ◌^◌, ◌<◌, ◌≤◌, List, [], ◌∷◌, ◌++◌, false}
use Rattle.std.specs.List.{AllByRecursion}
use Rattle.insn_ops.specs.declared.op.Op.{Op}
use Rattle.insn_ops.specs.declared.op.Op.TheVariants.{Mov, Add, Sub, Ret}
use Rattle.insn_table.specs.declared.insn.Operand.{Operand}
use Rattle.insn_table.specs.declared.insn.Operand.TheVariants.{Reg, Imm, Mem, Vec, Pool, Target, Nothing}
use Rattle.insn_table.specs.declared.insn.Insn.{Insn}

-- a general register of 64 bits
abbrev pub IsRegister : Operand → Type 0
IsRegister (Reg n w) = (n < 16) × (w ≡ 64)
IsRegister (Imm v) = ⊥
IsRegister (Mem base index scale disp) = ⊥
IsRegister (Vec n w) = ⊥
IsRegister (Pool n) = ⊥
IsRegister (Target n) = ⊥
IsRegister Nothing = ⊥

-- a number from -2^31 to 2^31 - 1, modulo 2^64
abbrev pub IsSignedWord : ℕ → Type 0
IsSignedWord v = (v < 2 ^ 31) ⊎ ((2 ^ 64 ≤ v + 2 ^ 31) × (v < 2 ^ 64))

-- a general register of 64 bits, or an immediate of 32 bits that is extended by its sign
abbrev pub IsSource : Operand → Type 0
IsSource (Reg n w) = (n < 16) × (w ≡ 64)
IsSource (Imm v) = IsSignedWord v
IsSource (Mem base index scale disp) = ⊥
IsSource (Vec n w) = ⊥
IsSource (Pool n) = ⊥
IsSource (Target n) = ⊥
IsSource Nothing = ⊥

-- the instruction has this source and this target, in the 64-bit form of MOV, ADD and SUB
pub record IsMoveOf (i : Insn) (source target : Operand) : Type 0 where
  pub args : i.args ≡ source ∷ target ∷ Nothing ∷ Nothing ∷ []
  pub reads : IsSource source
  pub writes : IsRegister target
  pub width : i.w ≡ 64
  pub legacy : i.vex ≡ false

-- the instruction is a return: it has no operands
pub record IsReturn (i : Insn) : Type 0 where
  pub op : i.op ≡ Ret
  pub args : i.args ≡ Nothing ∷ Nothing ∷ Nothing ∷ Nothing ∷ []
  pub width : i.w ≡ 64
  pub legacy : i.vex ≡ false

-- not the stack pointer, register 4
abbrev pub IsFree : Operand → Type 0
IsFree (Reg n w) = n ≡ 4 → ⊥
IsFree (Imm v) = Unit {0}
IsFree (Mem base index scale disp) = Unit {0}
IsFree (Vec n w) = Unit {0}
IsFree (Pool n) = Unit {0}
IsFree (Target n) = Unit {0}
IsFree Nothing = Unit {0}

-- a move, a sum or a difference
abbrev pub IsMoveOp : Op → Type 0
IsMoveOp Mov = Unit {0}
IsMoveOp Add = Unit {0}
IsMoveOp Sub = Unit {0}
IsMoveOp _ = ⊥

-- a move, sum or difference that neither reads nor writes the stack pointer
pub record IsPlainMove (i : Insn) : Type 0 where
  pub source : Operand
  pub target : Operand
  pub op : IsMoveOp i.op
  pub move : IsMoveOf i source target
  pub source_free : IsFree source
  pub target_free : IsFree target

-- plain moves, then a return
pub record IsPlain (insns : List Insn) : Type 0 where
  pub moves : List Insn
  pub last : Insn
  pub whole : insns ≡ moves ++ last ∷ []
  pub each : AllByRecursion IsPlainMove moves
  pub returns : IsReturn last
