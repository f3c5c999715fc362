-- The widths of lanes, in bits.
use Rattle.std.specs.Prelude.{ℕ}
use Rattle.insn_ops.specs.declared.vector_op.LaneWidth.{LaneWidth}
use Rattle.insn_ops.specs.declared.vector_op.LaneWidth.TheVariants.{Byte, Word, Doubleword, Quadword}

-- a lane's width in bits
abbrev pub bits : LaneWidth → ℕ
bits Byte = 8
bits Word = 16
bits Doubleword = 32
bits Quadword = 64
