-- The shapes that mnemonics name: which widths each operation has, and which lanes.
use Rattle.std.specs.Prelude.{ℕ, Bool, true, false, ◌&&◌, ◌||◌, not, ◌==◌, if◌then◌else◌}
use Rattle.insn_ops.specs.declared.op.Op.{Op}
use Rattle.insn_ops.specs.declared.op.Op.TheVariants.{Mov, Add, Sub, Cmp, Test, And, Or, Xor, Inc, Dec, Neg, Not, Shl, Shr, Sar, Imul, Lea, Movzx, Movsx, Cmov, Set, Vector}
use Rattle.insn_ops.specs.declared.vector_op.LaneWidth.{LaneWidth}
use Rattle.insn_ops.specs.declared.vector_op.LaneWidth.TheVariants.{Byte, Word, Doubleword, Quadword}
use Rattle.insn_ops.specs.declared.vector_op.LaneOp.{LaneOp}
use Rattle.insn_ops.specs.declared.vector_op.LaneOp.TheVariants as lanes
use Rattle.insn_ops.specs.declared.vector_op.MoveOp.{MoveOp}
use Rattle.insn_ops.specs.declared.vector_op.MoveOp.TheVariants as moves
use Rattle.insn_ops.specs.declared.vector_op.VectorOp.{VectorOp}
use Rattle.insn_ops.specs.declared.vector_op.VectorOp.TheVariants as vectors
use Rattle.insn_spellings.specs.declared.shape.Shape.{Shape}

-- 16, 32 or 64 bits
abbrev pub is_wide : ℕ → Bool
is_wide w = w == 16 || (w == 32 || w == 64)

-- 32 or 64 bits
abbrev pub is_long : ℕ → Bool
is_long w = w == 32 || w == 64

-- 8, 16, 32 or 64 bits, as the suffixes b, w, l and q say
abbrev pub has_suffix : ℕ → Bool
has_suffix w = w == 8 || is_wide w

-- A widening move goes from bytes to words and wider, and from words to doublewords and quadwords.
abbrev pub widens_to : ℕ → ℕ → Bool
widens_to from w = (from == 8 && is_wide w) || (from == 16 && is_long w)

-- bytes or words
abbrev pub is_narrow : LaneWidth → Bool
is_narrow Byte = true
is_narrow Word = true
is_narrow _ = false

-- words or doublewords
abbrev pub is_middle : LaneWidth → Bool
is_middle Word = true
is_middle Doubleword = true
is_middle _ = false

-- lanes of a byte
abbrev pub is_byte : LaneWidth → Bool
is_byte Byte = true
is_byte _ = false

-- lanes of a word
abbrev pub is_word : LaneWidth → Bool
is_word Word = true
is_word _ = false

-- lanes of a quadword
abbrev pub is_quadword : LaneWidth → Bool
is_quadword Quadword = true
is_quadword _ = false

-- whether lanes of the first width are widened to lanes of the second
abbrev pub widens : LaneWidth → LaneWidth → Bool
widens Byte Word = true
widens Byte Doubleword = true
widens Word Doubleword = true
widens Doubleword Quadword = true
widens _ _ = false

-- whether an operation by lane has a mnemonic, with VEX or without
abbrev pub has_lanes : Bool → LaneOp → Bool
has_lanes vex (lanes.Padds l) = is_narrow l
has_lanes vex (lanes.Psubs l) = is_narrow l
has_lanes vex (lanes.Paddus l) = is_narrow l
has_lanes vex (lanes.Psubus l) = is_narrow l
has_lanes vex (lanes.Pcmpeq l) = not (is_quadword l)
has_lanes vex (lanes.Pcmpgt l) = not (is_quadword l)
has_lanes vex (lanes.Pmull l) = if vex then is_middle l else is_word l
has_lanes vex (lanes.Psll l) = not (is_byte l)
has_lanes vex (lanes.Psrl l) = not (is_byte l)
has_lanes vex (lanes.Psra l) = is_middle l
has_lanes vex (lanes.Pmins l) = if vex then not (is_quadword l) else is_word l
has_lanes vex (lanes.Pmaxs l) = if vex then not (is_quadword l) else is_word l
has_lanes vex (lanes.Pminu l) = if vex then not (is_quadword l) else is_byte l
has_lanes vex (lanes.Pmaxu l) = if vex then not (is_quadword l) else is_byte l
has_lanes vex (lanes.Pavg l) = is_narrow l
has_lanes vex (lanes.Pabs l) = vex && not (is_quadword l)
has_lanes vex _ = true

-- Whether an operation that moves lanes has a mnemonic, with VEX or without. Without VEX `movq` names the general move.
abbrev pub has_move : Bool → MoveOp → Bool
has_move vex (moves.Packss l) = is_middle l
has_move vex moves.Movq = vex
has_move vex (moves.Pbroadcast l) = vex
has_move vex moves.Extracti128 = vex
has_move vex moves.Inserti128 = vex
has_move vex moves.Perm2i128 = vex
has_move vex moves.Permq = vex
has_move vex (moves.Pmovzx l m) = vex && widens l m
has_move vex (moves.Pmovsx l m) = vex && widens l m
has_move vex _ = true

-- whether an operation on vectors has a mnemonic, with VEX or without
abbrev pub has_vectors : Bool → VectorOp → Bool
has_vectors vex (vectors.Lanewise op) = has_lanes vex op
has_vectors vex (vectors.Moving op) = has_move vex op
has_vectors vex vectors.Pshufb = vex
has_vectors vex vectors.Vzeroupper = vex
has_vectors vex _ = true

-- the width of a shape of vectors: without VEX 128 bits, with VEX 0, as the operands tell it, but for vzeroupper
abbrev pub vector_width : Bool → VectorOp → ℕ
vector_width true vectors.Vzeroupper = 256
vector_width true op = 0
vector_width false op = 128

-- whether a general operation has this width, 0 where the suffix may be left out; one without a width has 64
abbrev pub has_width : Op → ℕ → Bool
has_width Mov w = has_suffix w
has_width Add w = has_suffix w
has_width Sub w = has_suffix w
has_width Cmp w = has_suffix w
has_width Test w = has_suffix w
has_width And w = has_suffix w
has_width Or w = has_suffix w
has_width Xor w = has_suffix w
has_width Inc w = has_suffix w
has_width Dec w = has_suffix w
has_width Neg w = has_suffix w
has_width Not w = has_suffix w
has_width Shl w = has_suffix w
has_width Shr w = has_suffix w
has_width Sar w = has_suffix w
has_width Imul w = is_wide w
has_width Lea w = is_long w
has_width (Movzx from) w = widens_to from w
has_width (Movsx from) w = widens_to from w || (from == 32 && w == 64)
has_width (Cmov condition) w = w == 0 || is_wide w
has_width (Set condition) w = w == 8
has_width (Vector op) w = false
has_width _ w = w == 64

-- whether a mnemonic names an operation of this width, with VEX or without
abbrev pub has_shape : Op → Bool → ℕ → Bool
has_shape (Vector op) vex w = has_vectors vex op && w == vector_width vex op
has_shape op vex w = not vex && has_width op w

-- whether a mnemonic names this shape
abbrev pub is_shape : Shape → Bool
is_shape shape = has_shape shape.op shape.vex shape.w
