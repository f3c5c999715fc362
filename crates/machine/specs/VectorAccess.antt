-- Of how many bits the operands of an operation on vectors are in memory, and which addresses it takes.
use Rattle.std.specs.Prelude.{ℕ, ◌/◌, ◌%◌, ◌==◌, Bool, true, List, if◌then◌else◌}
use Rattle.insn_ops.specs.declared.op.Op.{Op}
use Rattle.insn_ops.specs.declared.op.Op.TheVariants.{Vector}
use Rattle.insn_ops.specs.declared.vector_op.LaneWidth.{LaneWidth}
use Rattle.insn_ops.specs.declared.vector_op.LaneWidth.TheVariants.{Byte, Word, Doubleword, Quadword}
use Rattle.insn_ops.specs.declared.vector_op.MoveOp.{MoveOp}
use Rattle.insn_ops.specs.declared.vector_op.MoveOp.TheVariants as moves
use Rattle.insn_ops.specs.declared.vector_op.VectorOp.{VectorOp}
use Rattle.insn_ops.specs.declared.vector_op.VectorOp.TheVariants.{Moving}
use Rattle.insn_table.specs.declared.insn.Operand.{Operand}
use Rattle.insn_table.specs.declared.insn.Operand.TheVariants.{Mem, Pool}
use Rattle.lane_semantics.specs.Widths.{bits}
use Rattle.machine.specs.Operands.{effective_address}

-- how many times as wide the lanes become that are widened
abbrev pub widening : LaneWidth → LaneWidth → ℕ
widening Byte Word = 2
widening Byte Doubleword = 4
widening Word Doubleword = 2
widening Doubleword Quadword = 2
widening _ _ = 1

-- the width of the source of an operation that moves lanes, where its vectors are of w bits
abbrev pub move_source_width : MoveOp → ℕ → ℕ
move_source_width moves.Movd w = 32
move_source_width moves.Movq w = 64
move_source_width (moves.Pbroadcast l) w = bits l
move_source_width moves.Inserti128 w = 128
move_source_width (moves.Pmovzx l m) w = w / widening l m
move_source_width (moves.Pmovsx l m) w = w / widening l m
move_source_width _ w = w

-- the same of each operation on vectors
abbrev pub vector_source_width : VectorOp → ℕ → ℕ
vector_source_width (Moving op) w = move_source_width op w
vector_source_width _ w = w

-- the width of what an operation that moves lanes writes to memory
abbrev pub move_target_width : MoveOp → ℕ → ℕ
move_target_width moves.Movd w = 32
move_target_width moves.Movq w = 64
move_target_width moves.Extracti128 w = 128
move_target_width _ w = w

-- the same of each operation on vectors
abbrev pub vector_target_width : VectorOp → ℕ → ℕ
vector_target_width (Moving op) w = move_target_width op w
vector_target_width _ w = w

-- the bytes of a vector of w bits, 128 or 256
abbrev pub vector_bytes : ℕ → ℕ
vector_bytes w = if w == 256 then 32 else 16

-- Memory operands of 16 bytes without VEX are aligned to 16 bytes, but for the unaligned moves; with VEX only the aligned
-- moves ask for it (Intel SDM volume 1, 11.4.3 and 14.9).
abbrev pub move_alignment : MoveOp → Bool → ℕ → ℕ
move_alignment moves.Movdqa vex w = vector_bytes w
move_alignment moves.Movaps vex w = vector_bytes w
move_alignment moves.Movdqu vex w = 1
move_alignment moves.Movups vex w = 1
move_alignment moves.Movd vex w = 1
move_alignment moves.Movq vex w = 1
move_alignment _ vex w = if vex then 1 else 16

-- the number of bytes that the address of a memory operand has to be a multiple of
abbrev pub vector_alignment : VectorOp → Bool → ℕ → ℕ
vector_alignment (Moving op) vex w = move_alignment op vex w
vector_alignment _ vex w = if vex then 1 else 16

-- the same of each operation; general instructions take every address
abbrev pub alignment : Op → Bool → ℕ → ℕ
alignment (Vector op) vex w = vector_alignment op vex w
alignment _ vex w = 1

-- the address of an operand in memory, or its place in the pool, is a multiple of n
abbrev pub is_aligned : ℕ → List ℕ → Operand → Bool
is_aligned n regs (Mem base index scale disp) = effective_address regs base index scale disp % n == 0
is_aligned n regs (Pool at) = at % n == 0
is_aligned n regs _ = true
