-- The families of operations that a step runs alike, and the condition that an operation reads.
use Rattle.std.specs.Prelude.{Bool, false, Option, Some, None}
use Rattle.insn_ops.specs.declared.op.Cond.{Cond}
use Rattle.insn_ops.specs.declared.op.Flags.{Flags}
use Rattle.insn_ops.specs.declared.op.Op.{Op}
use Rattle.insn_ops.specs.declared.op.Op.TheVariants as ops
use Rattle.insn_ops.specs.declared.vector_op.VectorOp.{VectorOp}
use Rattle.insn_ops.specs.declared.vector_op.VectorOp.TheVariants.{Vzeroupper}
use Rattle.insn_semantics.specs.Conditions.{cond_of}
use Rattle.machine.specs.declared.operands.Family.{Family}
use Rattle.machine.specs.declared.operands.Family.TheVariants.{Computing, OnVectors, Clearing, Address, Choice, Setting, Branch, Jump, Pushing, Popping, Return, Idle}

-- the family of an operation on vectors: `vzeroupper` has no operands
abbrev pub vector_family : VectorOp → Family
vector_family Vzeroupper = Clearing
vector_family _ = OnVectors

-- the family of an operation
abbrev pub family_of : Op → Family
family_of ops.Lea = Address
family_of (ops.Cmov c) = Choice
family_of (ops.Set c) = Setting
family_of (ops.Jump c) = Branch
family_of ops.Jmp = Jump
family_of ops.Push = Pushing
family_of ops.Pop = Popping
family_of ops.Ret = Return
family_of ops.Nop = Idle
family_of ops.Endbr64 = Idle
family_of (ops.Vector op) = vector_family op
family_of _ = Computing

-- the condition that an operation reads
abbrev pub condition_of : Op → Option Cond
condition_of (ops.Cmov c) = Some c
condition_of (ops.Set c) = Some c
condition_of (ops.Jump c) = Some c
condition_of _ = None

-- the value of a condition, where there is one: None where a flag that it reads is unset
abbrev pub value_of_condition : Option Cond → Flags → Option Bool
value_of_condition None f = Some false
value_of_condition (Some c) f = cond_of c f

-- the condition's value, None where a flag that it reads is unset; an operation that reads none has any
abbrev pub holds_of : Op → Flags → Option Bool
holds_of op f = value_of_condition (condition_of op) f
