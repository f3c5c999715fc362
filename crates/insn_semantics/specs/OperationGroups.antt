-- Groups of operations, by what they do to the flags.
use Rattle.std.specs.Prelude.{Bool, true, false}
use Rattle.insn_ops.specs.declared.op.Op.{Op}
use Rattle.insn_ops.specs.declared.op.Op.TheVariants as ops

-- the operations on bits alone: each bit of the result is one of the bits of the operands at its place
abbrev pub is_bitwise : Op → Bool
is_bitwise ops.Test = true
is_bitwise ops.And = true
is_bitwise ops.Or = true
is_bitwise ops.Xor = true
is_bitwise _ = false

-- shifts
abbrev pub is_shift : Op → Bool
is_shift ops.Shl = true
is_shift ops.Shr = true
is_shift ops.Sar = true
is_shift _ = false

-- the operations that set the zero, sign and parity flags
abbrev pub sets_flags : Op → Bool
sets_flags ops.Add = true
sets_flags ops.Sub = true
sets_flags ops.Cmp = true
sets_flags ops.Inc = true
sets_flags ops.Dec = true
sets_flags ops.Neg = true
sets_flags ops.Test = true
sets_flags ops.And = true
sets_flags ops.Or = true
sets_flags ops.Xor = true
sets_flags ops.Shl = true
sets_flags ops.Shr = true
sets_flags ops.Sar = true
sets_flags _ = false

-- the operations that leave every flag as it is: those that move, widen or choose, `not`, `lea`, jumps and the like
abbrev pub leaves_flags : Op → Bool
leaves_flags ops.Mov = true
leaves_flags ops.Movabs = true
leaves_flags ops.Not = true
leaves_flags ops.Lea = true
leaves_flags (ops.Movzx m) = true
leaves_flags (ops.Movsx m) = true
leaves_flags ops.Cltq = true
leaves_flags (ops.Cmov c) = true
leaves_flags (ops.Set c) = true
leaves_flags (ops.Jump c) = true
leaves_flags ops.Jmp = true
leaves_flags ops.Push = true
leaves_flags ops.Pop = true
leaves_flags ops.Ret = true
leaves_flags ops.Nop = true
leaves_flags ops.Endbr64 = true
leaves_flags (ops.Vector op) = true
leaves_flags _ = false
