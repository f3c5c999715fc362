-- What the rows by lane compute, as an expression: leaf 0 is the first argument's lane, leaf 1 the second's, and leaf 2
-- names a part that stands more than once. k is the immediate. The rows with one argument have it as the second.
-- Each row is named as its section of Intel's SDM, volume 2, is: see LaneOp.
use Rattle.std.specs.Prelude.{ℕ, ◌+◌, ◌-◌, ◌^◌, ◌==◌, ◌≤◌, min, nat_lt, if◌then◌else◌}
use Rattle.insn_ops.specs.declared.vector_op.LaneOp.{LaneOp}
use Rattle.insn_ops.specs.declared.vector_op.LaneOp.TheVariants as ops
use Rattle.insn_semantics.specs.Exprs.{Expr, Leaf, Number, Two, Not, Shifted, Joined, Cut, Extended, Choice, Let, Operator, Plus, Minus, Times, And, Or, Xor, Equal, Below, SignedBelow, Left, Right, Signed}
use Rattle.lane_semantics.specs.Widths.{bits}

-- from m bits to n by zeros
abbrev pub zero_extended : ℕ → ℕ → Expr → Expr
zero_extended m n x = Joined m (Number (n - m) 0) x

-- Saturation of m bits, read by the sign, to w: a number above the greatest of w bits is the greatest, one below the
-- least is the least, and the others keep their low bits. Signed words of w bits go from -2^(w - 1) to 2^(w - 1) - 1,
-- unsigned ones from 0 to 2^w - 1.
abbrev pub signed_saturation : ℕ → ℕ → Expr → Expr
signed_saturation m w x =
    Choice (Two SignedBelow m (Number m (2 ^ (w - 1) - 1)) x) (Number w (2 ^ (w - 1) - 1))
    (Choice (Two SignedBelow m x (Number m (2 ^ m - 2 ^ (w - 1)))) (Number w (2 ^ (w - 1))) (Cut x 0 w))

-- x of m bits, saturated to w bits without a sign
abbrev pub unsigned_saturation : ℕ → ℕ → Expr → Expr
unsigned_saturation m w x =
    Choice (Two SignedBelow m x (Number m 0)) (Number w 0)
    (Choice (Two SignedBelow m (Number m (2 ^ w - 1)) x) (Number w (2 ^ w - 1)) (Cut x 0 w))

-- an operator on both lanes with one or two bits more, saturated
abbrev pub signed_saturated : Operator → ℕ → Expr
signed_saturated operator w =
    Let 2 (Two operator (w + 1) (Extended w (w + 1) (Leaf 0)) (Extended w (w + 1) (Leaf 1)))
    (signed_saturation (w + 1) w (Leaf 2))

-- a sum or a difference of lanes without a sign, saturated
abbrev pub unsigned_saturated : Operator → ℕ → Expr
unsigned_saturated operator w =
    Let 2 (Two operator (w + 2) (zero_extended w (w + 2) (Leaf 0)) (zero_extended w (w + 2) (Leaf 1)))
    (unsigned_saturation (w + 2) w (Leaf 2))

-- the low half of a lane of 64 bits, as 64 bits
abbrev pub low_half : Expr → Expr
low_half x = Let 2 (Cut x 0 32) (zero_extended 32 64 (Leaf 2))

-- a lane shifted by k, where all its bits may leave
abbrev pub shifted_left : ℕ → ℕ → Expr
shifted_left w k = if k == 0 then Leaf 1 else (if nat_lt k w then Shifted Left w (Leaf 1) k else Number w 0)

-- a lane shifted right by k bits, zeros coming in
abbrev pub shifted_right : ℕ → ℕ → Expr
shifted_right w k = if k == 0 then Leaf 1 else (if nat_lt k w then Shifted Right w (Leaf 1) k else Number w 0)

-- by the sign: from w - 1 on only copies of it are left
abbrev pub shifted_by_sign : ℕ → ℕ → Expr
shifted_by_sign w k = if k == 0 then Leaf 1 else Shifted Signed w (Leaf 1) (min k (w - 1))

-- the mean of both lanes, rounded up
abbrev pub average : ℕ → Expr
average w =
    Cut (Two Plus (w + 1) (Two Plus (w + 1) (zero_extended w (w + 1) (Leaf 0)) (zero_extended w (w + 1) (Leaf 1)))
    (Number (w + 1) 1)) 1 w

-- a signed lane without its sign
abbrev pub magnitude : ℕ → Expr
magnitude w = Choice (Two SignedBelow w (Leaf 1) (Number w 0)) (Two Minus w (Number w 0) (Leaf 1)) (Leaf 1)

-- what a lane of the result is, of the lanes at its place
abbrev pub lane_expr : LaneOp → ℕ → Expr
lane_expr (ops.Padd l) k = Two Plus (bits l) (Leaf 0) (Leaf 1)
lane_expr (ops.Psub l) k = Two Minus (bits l) (Leaf 0) (Leaf 1)
lane_expr (ops.Padds l) k = signed_saturated Plus (bits l)
lane_expr (ops.Psubs l) k = signed_saturated Minus (bits l)
lane_expr (ops.Paddus l) k = unsigned_saturated Plus (bits l)
lane_expr (ops.Psubus l) k = unsigned_saturated Minus (bits l)
lane_expr ops.Pand k = Two And 64 (Leaf 0) (Leaf 1)
lane_expr ops.Pandn k = Two And 64 (Not 64 (Leaf 0)) (Leaf 1)
lane_expr ops.Por k = Two Or 64 (Leaf 0) (Leaf 1)
lane_expr ops.Pxor k = Two Xor 64 (Leaf 0) (Leaf 1)
lane_expr (ops.Pcmpeq l) k = Extended 1 (bits l) (Two Equal (bits l) (Leaf 0) (Leaf 1))
lane_expr (ops.Pcmpgt l) k = Extended 1 (bits l) (Two SignedBelow (bits l) (Leaf 1) (Leaf 0))
lane_expr (ops.Pmull l) k = Two Times (bits l) (Leaf 0) (Leaf 1)
lane_expr ops.Pmulhw k = Cut (Two Times 32 (Extended 16 32 (Leaf 0)) (Extended 16 32 (Leaf 1))) 16 16
lane_expr ops.Pmulhuw k = Cut (Two Times 32 (zero_extended 16 32 (Leaf 0)) (zero_extended 16 32 (Leaf 1))) 16 16
lane_expr ops.Pmuludq k = Two Times 64 (low_half (Leaf 0)) (low_half (Leaf 1))
lane_expr (ops.Psll l) k = shifted_left (bits l) k
lane_expr (ops.Psrl l) k = shifted_right (bits l) k
lane_expr (ops.Psra l) k = shifted_by_sign (bits l) k
lane_expr (ops.Pmins l) k = Choice (Two SignedBelow (bits l) (Leaf 0) (Leaf 1)) (Leaf 0) (Leaf 1)
lane_expr (ops.Pmaxs l) k = Choice (Two SignedBelow (bits l) (Leaf 0) (Leaf 1)) (Leaf 1) (Leaf 0)
lane_expr (ops.Pminu l) k = Choice (Two Below (bits l) (Leaf 0) (Leaf 1)) (Leaf 0) (Leaf 1)
lane_expr (ops.Pmaxu l) k = Choice (Two Below (bits l) (Leaf 0) (Leaf 1)) (Leaf 1) (Leaf 0)
lane_expr (ops.Pavg l) k = average (bits l)
lane_expr (ops.Pabs l) k = magnitude (bits l)

-- the width of the row's lanes, in bits
abbrev pub lane_op_bits : LaneOp → ℕ
lane_op_bits (ops.Padd l) = bits l
lane_op_bits (ops.Psub l) = bits l
lane_op_bits (ops.Padds l) = bits l
lane_op_bits (ops.Psubs l) = bits l
lane_op_bits (ops.Paddus l) = bits l
lane_op_bits (ops.Psubus l) = bits l
lane_op_bits ops.Pand = 64
lane_op_bits ops.Pandn = 64
lane_op_bits ops.Por = 64
lane_op_bits ops.Pxor = 64
lane_op_bits (ops.Pcmpeq l) = bits l
lane_op_bits (ops.Pcmpgt l) = bits l
lane_op_bits (ops.Pmull l) = bits l
lane_op_bits ops.Pmulhw = 16
lane_op_bits ops.Pmulhuw = 16
lane_op_bits ops.Pmuludq = 64
lane_op_bits (ops.Psll l) = bits l
lane_op_bits (ops.Psrl l) = bits l
lane_op_bits (ops.Psra l) = bits l
lane_op_bits (ops.Pmins l) = bits l
lane_op_bits (ops.Pmaxs l) = bits l
lane_op_bits (ops.Pminu l) = bits l
lane_op_bits (ops.Pmaxu l) = bits l
lane_op_bits (ops.Pavg l) = bits l
lane_op_bits (ops.Pabs l) = bits l

-- the lane widths that the table has of each row
abbrev pub IsLaneRow : LaneOp → Type 0
IsLaneRow (ops.Padds l) = bits l ≤ 16
IsLaneRow (ops.Psubs l) = bits l ≤ 16
IsLaneRow (ops.Paddus l) = bits l ≤ 16
IsLaneRow (ops.Psubus l) = bits l ≤ 16
IsLaneRow (ops.Pcmpeq l) = bits l ≤ 32
IsLaneRow (ops.Pcmpgt l) = bits l ≤ 32
IsLaneRow (ops.Pmull l) = (bits l ≤ 32) × (16 ≤ bits l)
IsLaneRow (ops.Psll l) = 16 ≤ bits l
IsLaneRow (ops.Psrl l) = 16 ≤ bits l
IsLaneRow (ops.Psra l) = (bits l ≤ 32) × (16 ≤ bits l)
IsLaneRow (ops.Pmins l) = bits l ≤ 32
IsLaneRow (ops.Pmaxs l) = bits l ≤ 32
IsLaneRow (ops.Pminu l) = bits l ≤ 32
IsLaneRow (ops.Pmaxu l) = bits l ≤ 32
IsLaneRow (ops.Pavg l) = bits l ≤ 16
IsLaneRow (ops.Pabs l) = bits l ≤ 32
IsLaneRow _ = Unit {0}
