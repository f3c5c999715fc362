-- The parts of the mnemonics of operations on vectors, without the letter of VEX.
use Rattle.std.specs.Prelude.{ℕ, List, [], codes}
use Rattle.insn_ops.specs.declared.vector_op.LaneWidth.{LaneWidth}
use Rattle.insn_ops.specs.declared.vector_op.LaneWidth.TheVariants.{Byte, Word, Doubleword, Quadword}
use Rattle.insn_ops.specs.declared.vector_op.LaneOp.{LaneOp}
use Rattle.insn_ops.specs.declared.vector_op.LaneOp.TheVariants as lanes
use Rattle.insn_ops.specs.declared.vector_op.MoveOp.{MoveOp}
use Rattle.insn_ops.specs.declared.vector_op.MoveOp.TheVariants as moves
use Rattle.insn_ops.specs.declared.vector_op.VectorOp.{VectorOp}
use Rattle.insn_ops.specs.declared.vector_op.VectorOp.TheVariants.{Lanewise, Moving, Pmaddwd, Psadbw, Pshufb, Pmovmskb, Vzeroupper}

-- the letter of a lane's width
abbrev pub lane_letter : LaneWidth → List ℕ
lane_letter Byte = codes "b"
lane_letter Word = codes "w"
lane_letter Doubleword = codes "d"
lane_letter Quadword = codes "q"

-- the letters of lanes in turn, and of what two of them make
abbrev pub pair_letters : LaneWidth → List ℕ
pair_letters Byte = codes "bw"
pair_letters Word = codes "wd"
pair_letters Doubleword = codes "dq"
pair_letters Quadword = codes "qdq"

-- the letters of lanes that are packed, and of what they are packed to
abbrev pub packed_letters : LaneWidth → List ℕ
packed_letters Word = codes "wb"
packed_letters Doubleword = codes "dw"
packed_letters _ = []

-- the letters of lanes that are widened, and of what they become
abbrev pub widened_letters : LaneWidth → LaneWidth → List ℕ
widened_letters Byte Word = codes "bw"
widened_letters Byte Doubleword = codes "bd"
widened_letters Word Doubleword = codes "wd"
widened_letters Doubleword Quadword = codes "dq"
widened_letters _ _ = []

-- what the mnemonic of an operation by lane begins with
abbrev pub lane_stem : LaneOp → List ℕ
lane_stem (lanes.Padd l) = codes "padd"
lane_stem (lanes.Psub l) = codes "psub"
lane_stem (lanes.Padds l) = codes "padds"
lane_stem (lanes.Psubs l) = codes "psubs"
lane_stem (lanes.Paddus l) = codes "paddus"
lane_stem (lanes.Psubus l) = codes "psubus"
lane_stem lanes.Pand = codes "pand"
lane_stem lanes.Pandn = codes "pandn"
lane_stem lanes.Por = codes "por"
lane_stem lanes.Pxor = codes "pxor"
lane_stem (lanes.Pcmpeq l) = codes "pcmpeq"
lane_stem (lanes.Pcmpgt l) = codes "pcmpgt"
lane_stem (lanes.Pmull l) = codes "pmull"
lane_stem lanes.Pmulhw = codes "pmulhw"
lane_stem lanes.Pmulhuw = codes "pmulhuw"
lane_stem lanes.Pmuludq = codes "pmuludq"
lane_stem (lanes.Psll l) = codes "psll"
lane_stem (lanes.Psrl l) = codes "psrl"
lane_stem (lanes.Psra l) = codes "psra"
lane_stem (lanes.Pmins l) = codes "pmins"
lane_stem (lanes.Pmaxs l) = codes "pmaxs"
lane_stem (lanes.Pminu l) = codes "pminu"
lane_stem (lanes.Pmaxu l) = codes "pmaxu"
lane_stem (lanes.Pavg l) = codes "pavg"
lane_stem (lanes.Pabs l) = codes "pabs"

-- the letter of its lanes, where it has several widths
abbrev pub lane_middle : LaneOp → List ℕ
lane_middle (lanes.Padd l) = lane_letter l
lane_middle (lanes.Psub l) = lane_letter l
lane_middle (lanes.Padds l) = lane_letter l
lane_middle (lanes.Psubs l) = lane_letter l
lane_middle (lanes.Paddus l) = lane_letter l
lane_middle (lanes.Psubus l) = lane_letter l
lane_middle (lanes.Pcmpeq l) = lane_letter l
lane_middle (lanes.Pcmpgt l) = lane_letter l
lane_middle (lanes.Pmull l) = lane_letter l
lane_middle (lanes.Psll l) = lane_letter l
lane_middle (lanes.Psrl l) = lane_letter l
lane_middle (lanes.Psra l) = lane_letter l
lane_middle (lanes.Pmins l) = lane_letter l
lane_middle (lanes.Pmaxs l) = lane_letter l
lane_middle (lanes.Pminu l) = lane_letter l
lane_middle (lanes.Pmaxu l) = lane_letter l
lane_middle (lanes.Pavg l) = lane_letter l
lane_middle (lanes.Pabs l) = lane_letter l
lane_middle _ = []

-- what the mnemonic of an operation that moves lanes begins with
abbrev pub move_stem : MoveOp → List ℕ
move_stem moves.Pslldq = codes "pslldq"
move_stem moves.Psrldq = codes "psrldq"
move_stem (moves.Punpckl l) = codes "punpckl"
move_stem (moves.Punpckh l) = codes "punpckh"
move_stem moves.Pshufd = codes "pshufd"
move_stem moves.Pshuflw = codes "pshuflw"
move_stem moves.Pshufhw = codes "pshufhw"
move_stem (moves.Packss l) = codes "packss"
move_stem moves.Packuswb = codes "packuswb"
move_stem moves.Movd = codes "movd"
move_stem moves.Movq = codes "movq"
move_stem moves.Movdqa = codes "movdqa"
move_stem moves.Movdqu = codes "movdqu"
move_stem moves.Movaps = codes "movaps"
move_stem moves.Movups = codes "movups"
move_stem (moves.Pbroadcast l) = codes "pbroadcast"
move_stem moves.Extracti128 = codes "extracti128"
move_stem moves.Inserti128 = codes "inserti128"
move_stem moves.Perm2i128 = codes "perm2i128"
move_stem moves.Permq = codes "permq"
move_stem (moves.Pmovzx l m) = codes "pmovzx"
move_stem (moves.Pmovsx l m) = codes "pmovsx"

-- the letters of its lanes, where it has several widths
abbrev pub move_middle : MoveOp → List ℕ
move_middle (moves.Punpckl l) = pair_letters l
move_middle (moves.Punpckh l) = pair_letters l
move_middle (moves.Packss l) = packed_letters l
move_middle (moves.Pbroadcast l) = lane_letter l
move_middle (moves.Pmovzx l m) = widened_letters l m
move_middle (moves.Pmovsx l m) = widened_letters l m
move_middle _ = []

-- what a mnemonic begins with
abbrev pub vector_stem : VectorOp → List ℕ
vector_stem (Lanewise op) = lane_stem op
vector_stem (Moving op) = move_stem op
vector_stem Pmaddwd = codes "pmaddwd"
vector_stem Psadbw = codes "psadbw"
vector_stem Pshufb = codes "pshufb"
vector_stem Pmovmskb = codes "pmovmskb"
vector_stem Vzeroupper = codes "zeroupper"

-- the letters of lanes behind it
abbrev pub vector_middle : VectorOp → List ℕ
vector_middle (Lanewise op) = lane_middle op
vector_middle (Moving op) = move_middle op
vector_middle _ = []
