-- The rows that move lanes: which lane of which argument lane i of the result is made of, and how. k is the immediate.
-- The rows with one argument have it as the second. Those that work in each half of 128 bits by itself say so by half.
-- Each row is named as its section of Intel's SDM, volume 2, is: see MoveOp.
use Rattle.std.specs.Prelude.{◌≡◌, ℕ, ◌+◌, ◌-◌, ◌*◌, ◌/◌, ◌%◌, ◌≤◌, ◌==◌, nat_lt, if◌then◌else◌}
use Rattle.insn_ops.specs.declared.vector_op.LaneWidth.{LaneWidth}
use Rattle.insn_ops.specs.declared.vector_op.LaneWidth.TheVariants.{Byte, Word, Doubleword, Quadword}
use Rattle.insn_ops.specs.declared.vector_op.MoveOp.{MoveOp}
use Rattle.insn_ops.specs.declared.vector_op.MoveOp.TheVariants as ops
use Rattle.insn_semantics.specs.Exprs.{Expr, Leaf, Extended}
use Rattle.insn_semantics.specs.Words.{cut}
use Rattle.lane_semantics.specs.LaneRows.{signed_saturation, unsigned_saturation, zero_extended}
use Rattle.lane_semantics.specs.Widths.{bits}
use Rattle.lane_semantics.specs.declared.source.Source.{Source}
use Rattle.lane_semantics.specs.declared.source.Source.TheVariants.{First, Second, Zero}

-- the number that two bits of a control give, its pair j
abbrev pub pair : ℕ → ℕ → ℕ
pair k j = cut k (2 * j) 2

-- the lanes of w bits in a half
abbrev pub lanes_in_half : ℕ → ℕ
lanes_in_half w = 128 / w

-- lane j of w bits of the first argument or of the second, in turn
abbrev pub in_turn : ℕ → ℕ → ℕ → Source
in_turn w i j = if i % 2 == 0 then First w j else Second w j

-- The low or high lanes of a half of both arguments in turn: of n lanes in a half, from the half's lane `from` on.
abbrev pub unpacked : ℕ → ℕ → ℕ → ℕ → Source
unpacked w n from i = in_turn w i (n * (i / n) + (from + i % n / 2))

-- The lanes of a half of the first argument, then those of the same half of the second: n of each.
abbrev pub packed : ℕ → ℕ → ℕ → Source
packed w n i =
    if nat_lt (i % (2 * n)) n
    then First w (n * (i / (2 * n)) + i % (2 * n))
    else Second w (n * (i / (2 * n)) + (i % (2 * n) - n))

-- byte j of the half that four bits of a control select: the first argument's low or high half, the second's low or
-- high half, or zero
abbrev pub selected_half : ℕ → ℕ → Source
selected_half c j =
    if nat_lt c 8
    then (if nat_lt (c % 4) 2 then First 8 (16 * (c % 2) + j) else Second 8 (16 * (c % 2) + j))
    else Zero

-- the four bits of a control from this place on
abbrev pub four_bits : ℕ → ℕ → ℕ
four_bits k place = cut k place 4

-- byte i of the half of byte i, shifted by k bytes to the left or to the right
abbrev pub left_byte : ℕ → ℕ → Source
left_byte k i = if nat_lt (i % 16) k then Zero else Second 8 (i - k)

-- byte i where bytes move right by k within their half
abbrev pub right_byte : ℕ → ℕ → Source
right_byte k i = if nat_lt (i % 16 + k) 16 then Second 8 (i + k) else Zero

-- word i of its half with the low or the high four words shuffled
abbrev pub low_word : ℕ → ℕ → Source
low_word k i = if nat_lt (i % 8) 4 then Second 16 (8 * (i / 8) + pair k (i % 8)) else Second 16 i

-- word i where the high four words of each half are chosen
abbrev pub high_word : ℕ → ℕ → Source
high_word k i = if nat_lt (i % 8) 4 then Second 16 i else Second 16 (8 * (i / 8) + (4 + pair k (i % 8 - 4)))

-- byte i of the half that bit 0 of a control numbers, and of the first argument with that half replaced
abbrev pub extracted : ℕ → ℕ → Source
extracted k i = if nat_lt i 16 then Second 8 (16 * (k % 2) + i) else Zero

-- byte i of the first argument, with the half that bit 0 numbers replaced by the low half of the second
abbrev pub inserted : ℕ → ℕ → Source
inserted k i = if i / 16 == k % 2 then Second 8 (i % 16) else First 8 i

-- a lane and zeros above it
abbrev pub lowest : ℕ → ℕ → Source
lowest w i = if i == 0 then Second w 0 else Zero

-- the lane that lane i of the result is made of
abbrev pub move_source : MoveOp → ℕ → ℕ → Source
move_source ops.Pslldq k i = left_byte k i
move_source ops.Psrldq k i = right_byte k i
move_source (ops.Punpckl l) k i = unpacked (bits l) (lanes_in_half (bits l)) 0 i
move_source (ops.Punpckh l) k i = unpacked (bits l) (lanes_in_half (bits l)) (lanes_in_half (bits l) / 2) i
move_source ops.Pshufd k i = Second 32 (4 * (i / 4) + pair k (i % 4))
move_source ops.Pshuflw k i = low_word k i
move_source ops.Pshufhw k i = high_word k i
move_source (ops.Packss l) k i = packed (bits l) (lanes_in_half (bits l)) i
move_source ops.Packuswb k i = packed 16 8 i
move_source ops.Movd k i = lowest 32 i
move_source ops.Movq k i = lowest 64 i
move_source ops.Movdqa k i = Second 8 i
move_source ops.Movdqu k i = Second 8 i
move_source ops.Movaps k i = Second 8 i
move_source ops.Movups k i = Second 8 i
move_source (ops.Pbroadcast l) k i = Second (bits l) 0
move_source ops.Extracti128 k i = extracted k i
move_source ops.Inserti128 k i = inserted k i
move_source ops.Perm2i128 k i = selected_half (four_bits k (4 * (i / 16))) (i % 16)
move_source ops.Permq k i = Second 64 (pair k i)
move_source (ops.Pmovzx l m) k i = Second (bits l) i
move_source (ops.Pmovsx l m) k i = Second (bits l) i

-- what is made of it: leaf 0 is that lane
abbrev pub move_expr : MoveOp → Expr
move_expr (ops.Packss l) = signed_saturation (bits l) (bits l / 2) (Leaf 0)
move_expr ops.Packuswb = unsigned_saturation 16 8 (Leaf 0)
move_expr (ops.Pmovzx l m) = zero_extended (bits l) (bits m) (Leaf 0)
move_expr (ops.Pmovsx l m) = Extended (bits l) (bits m) (Leaf 0)
move_expr _ = Leaf 0

-- the width of the result's lanes, in bits
abbrev pub move_op_bits : MoveOp → ℕ
move_op_bits ops.Pslldq = 8
move_op_bits ops.Psrldq = 8
move_op_bits (ops.Punpckl l) = bits l
move_op_bits (ops.Punpckh l) = bits l
move_op_bits ops.Pshufd = 32
move_op_bits ops.Pshuflw = 16
move_op_bits ops.Pshufhw = 16
move_op_bits (ops.Packss l) = bits l / 2
move_op_bits ops.Packuswb = 8
move_op_bits ops.Movd = 32
move_op_bits ops.Movq = 64
move_op_bits ops.Movdqa = 8
move_op_bits ops.Movdqu = 8
move_op_bits ops.Movaps = 8
move_op_bits ops.Movups = 8
move_op_bits (ops.Pbroadcast l) = bits l
move_op_bits ops.Extracti128 = 8
move_op_bits ops.Inserti128 = 8
move_op_bits ops.Perm2i128 = 8
move_op_bits ops.Permq = 64
move_op_bits (ops.Pmovzx l m) = bits m
move_op_bits (ops.Pmovsx l m) = bits m

-- the widths between which lanes are widened
abbrev pub Widens : LaneWidth → LaneWidth → Type 0
Widens Byte Word = Unit {0}
Widens Byte Doubleword = Unit {0}
Widens Word Doubleword = Unit {0}
Widens Doubleword Quadword = Unit {0}
Widens _ _ = ⊥

-- the width of the lanes that it is made of, in bits
abbrev pub move_source_bits : MoveOp → ℕ
move_source_bits (ops.Packss l) = bits l
move_source_bits ops.Packuswb = 16
move_source_bits (ops.Pmovzx l m) = bits l
move_source_bits (ops.Pmovsx l m) = bits l
move_source_bits op = move_op_bits op

-- the lane widths that the table has of each row
abbrev pub HasMoveWidths : MoveOp → Type 0
HasMoveWidths (ops.Packss l) = (16 ≤ bits l) × (bits l ≤ 32)
HasMoveWidths (ops.Pmovzx l m) = Widens l m
HasMoveWidths (ops.Pmovsx l m) = Widens l m
HasMoveWidths _ = Unit {0}

-- of how many bits the vectors of the row are
abbrev pub IsMoveRow : MoveOp → ℕ → Type 0
IsMoveRow ops.Movd w = w ≡ 128
IsMoveRow ops.Movq w = w ≡ 128
IsMoveRow ops.Extracti128 w = w ≡ 256
IsMoveRow ops.Inserti128 w = w ≡ 256
IsMoveRow ops.Perm2i128 w = w ≡ 256
IsMoveRow ops.Permq w = w ≡ 256
IsMoveRow _ w = Unit {0}
