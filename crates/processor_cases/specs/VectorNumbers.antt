-- The vector rows, each at its number.
use Rattle.std.specs.Prelude.{List, [], ◌∷◌}
use Rattle.insn_ops.specs.declared.vector_op.LaneOp.TheVariants as scalar_ops
use Rattle.insn_ops.specs.declared.vector_op.LaneWidth.TheVariants as widths
use Rattle.insn_ops.specs.declared.vector_op.MoveOp.TheVariants as move_ops
use Rattle.insn_ops.specs.declared.vector_op.VectorOp.{VectorOp}
use Rattle.insn_ops.specs.declared.vector_op.VectorOp.TheVariants as ops

-- the rows by lane
abbrev pub lane_rows : List VectorOp
lane_rows =
    (ops.Lanewise (scalar_ops.Padd widths.Byte)) ∷ (ops.Lanewise (scalar_ops.Padd widths.Word)) ∷
    (ops.Lanewise (scalar_ops.Padd widths.Doubleword)) ∷ (ops.Lanewise (scalar_ops.Padd widths.Quadword)) ∷
    (ops.Lanewise (scalar_ops.Psub widths.Byte)) ∷ (ops.Lanewise (scalar_ops.Psub widths.Word)) ∷
    (ops.Lanewise (scalar_ops.Psub widths.Doubleword)) ∷ (ops.Lanewise (scalar_ops.Psub widths.Quadword)) ∷
    (ops.Lanewise (scalar_ops.Padds widths.Byte)) ∷ (ops.Lanewise (scalar_ops.Padds widths.Word)) ∷
    (ops.Lanewise (scalar_ops.Psubs widths.Byte)) ∷ (ops.Lanewise (scalar_ops.Psubs widths.Word)) ∷
    (ops.Lanewise (scalar_ops.Paddus widths.Byte)) ∷ (ops.Lanewise (scalar_ops.Paddus widths.Word)) ∷
    (ops.Lanewise (scalar_ops.Psubus widths.Byte)) ∷ (ops.Lanewise (scalar_ops.Psubus widths.Word)) ∷
    (ops.Lanewise scalar_ops.Pand) ∷ (ops.Lanewise scalar_ops.Pandn) ∷ (ops.Lanewise scalar_ops.Por) ∷
    (ops.Lanewise scalar_ops.Pxor) ∷ (ops.Lanewise (scalar_ops.Pcmpeq widths.Byte)) ∷
    (ops.Lanewise (scalar_ops.Pcmpeq widths.Word)) ∷ (ops.Lanewise (scalar_ops.Pcmpeq widths.Doubleword)) ∷
    (ops.Lanewise (scalar_ops.Pcmpgt widths.Byte)) ∷ (ops.Lanewise (scalar_ops.Pcmpgt widths.Word)) ∷
    (ops.Lanewise (scalar_ops.Pcmpgt widths.Doubleword)) ∷ (ops.Lanewise (scalar_ops.Pmull widths.Word)) ∷
    (ops.Lanewise (scalar_ops.Pmull widths.Doubleword)) ∷ (ops.Lanewise scalar_ops.Pmulhw) ∷
    (ops.Lanewise scalar_ops.Pmulhuw) ∷ (ops.Lanewise scalar_ops.Pmuludq) ∷
    (ops.Lanewise (scalar_ops.Psll widths.Word)) ∷ (ops.Lanewise (scalar_ops.Psll widths.Doubleword)) ∷
    (ops.Lanewise (scalar_ops.Psll widths.Quadword)) ∷ (ops.Lanewise (scalar_ops.Psrl widths.Word)) ∷
    (ops.Lanewise (scalar_ops.Psrl widths.Doubleword)) ∷ (ops.Lanewise (scalar_ops.Psrl widths.Quadword)) ∷
    (ops.Lanewise (scalar_ops.Psra widths.Word)) ∷ (ops.Lanewise (scalar_ops.Psra widths.Doubleword)) ∷
    (ops.Lanewise (scalar_ops.Pmins widths.Byte)) ∷ (ops.Lanewise (scalar_ops.Pmins widths.Word)) ∷
    (ops.Lanewise (scalar_ops.Pmins widths.Doubleword)) ∷ (ops.Lanewise (scalar_ops.Pmaxs widths.Byte)) ∷
    (ops.Lanewise (scalar_ops.Pmaxs widths.Word)) ∷ (ops.Lanewise (scalar_ops.Pmaxs widths.Doubleword)) ∷
    (ops.Lanewise (scalar_ops.Pminu widths.Byte)) ∷ (ops.Lanewise (scalar_ops.Pminu widths.Word)) ∷
    (ops.Lanewise (scalar_ops.Pminu widths.Doubleword)) ∷ (ops.Lanewise (scalar_ops.Pmaxu widths.Byte)) ∷
    (ops.Lanewise (scalar_ops.Pmaxu widths.Word)) ∷ (ops.Lanewise (scalar_ops.Pmaxu widths.Doubleword)) ∷
    (ops.Lanewise (scalar_ops.Pavg widths.Byte)) ∷ (ops.Lanewise (scalar_ops.Pavg widths.Word)) ∷
    (ops.Lanewise (scalar_ops.Pabs widths.Byte)) ∷ (ops.Lanewise (scalar_ops.Pabs widths.Word)) ∷
    (ops.Lanewise (scalar_ops.Pabs widths.Doubleword)) ∷ []

-- the other rows
abbrev pub other_rows : List VectorOp
other_rows =
    (ops.Moving move_ops.Pslldq) ∷ (ops.Moving move_ops.Psrldq) ∷ (ops.Moving (move_ops.Punpckl widths.Byte)) ∷
    (ops.Moving (move_ops.Punpckl widths.Word)) ∷ (ops.Moving (move_ops.Punpckl widths.Doubleword)) ∷
    (ops.Moving (move_ops.Punpckl widths.Quadword)) ∷ (ops.Moving (move_ops.Punpckh widths.Byte)) ∷
    (ops.Moving (move_ops.Punpckh widths.Word)) ∷ (ops.Moving (move_ops.Punpckh widths.Doubleword)) ∷
    (ops.Moving (move_ops.Punpckh widths.Quadword)) ∷ (ops.Moving move_ops.Pshufd) ∷
    (ops.Moving move_ops.Pshuflw) ∷ (ops.Moving move_ops.Pshufhw) ∷ (ops.Moving (move_ops.Packss widths.Word)) ∷
    (ops.Moving (move_ops.Packss widths.Doubleword)) ∷ (ops.Moving move_ops.Packuswb) ∷
    (ops.Moving move_ops.Movd) ∷ (ops.Moving move_ops.Movq) ∷ (ops.Moving move_ops.Movdqa) ∷
    (ops.Moving move_ops.Movdqu) ∷ (ops.Moving move_ops.Movaps) ∷ (ops.Moving move_ops.Movups) ∷
    (ops.Moving (move_ops.Pbroadcast widths.Byte)) ∷ (ops.Moving (move_ops.Pbroadcast widths.Word)) ∷
    (ops.Moving (move_ops.Pbroadcast widths.Doubleword)) ∷ (ops.Moving (move_ops.Pbroadcast widths.Quadword)) ∷
    (ops.Moving move_ops.Extracti128) ∷ (ops.Moving move_ops.Inserti128) ∷ (ops.Moving move_ops.Perm2i128) ∷
    (ops.Moving move_ops.Permq) ∷ (ops.Moving (move_ops.Pmovzx widths.Byte widths.Word)) ∷
    (ops.Moving (move_ops.Pmovzx widths.Byte widths.Doubleword)) ∷
    (ops.Moving (move_ops.Pmovzx widths.Word widths.Doubleword)) ∷
    (ops.Moving (move_ops.Pmovzx widths.Doubleword widths.Quadword)) ∷
    (ops.Moving (move_ops.Pmovsx widths.Byte widths.Word)) ∷
    (ops.Moving (move_ops.Pmovsx widths.Byte widths.Doubleword)) ∷
    (ops.Moving (move_ops.Pmovsx widths.Word widths.Doubleword)) ∷
    (ops.Moving (move_ops.Pmovsx widths.Doubleword widths.Quadword)) ∷ ops.Pmaddwd ∷ ops.Psadbw ∷ ops.Pshufb ∷
    ops.Pmovmskb ∷ []
