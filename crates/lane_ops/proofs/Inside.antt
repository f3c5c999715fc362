-- The lanes that the moving rows read lie inside vectors of 32 bytes.
use Rattle.std.proofs.Common.{◌≡◌, ℕ, ◌+◌, ◌-◌, ◌*◌, ◌/◌, ◌%◌, ◌<◌, ◌≤◌, ◌==◌, Bool, true, false, refl, sym, subst, inl, inr, arith}
use Rattle.std.specs.Prelude.{nat_lt, if◌then◌else◌}
use Rattle.std.proofs.lemmas.Bool.{cases_lt, le-ltb, lt-ltb}
use Rattle.std.proofs.lemmas.Nat.{mod_below}
use Rattle.insn_ops.specs.declared.vector_op.LaneWidth.{LaneWidth}
use Rattle.insn_ops.specs.declared.vector_op.LaneWidth.TheVariants.{Byte, Word, Doubleword, Quadword}
use Rattle.insn_ops.specs.declared.vector_op.MoveOp.{MoveOp}
use Rattle.insn_ops.specs.declared.vector_op.MoveOp.TheVariants as ops
use Rattle.lane_views.specs.Lanes.{IsLane, is_lane_width}
use Rattle.lane_views.proofs.Powers.{each_lane_width}
use Rattle.lane_semantics.specs.MoveRows.{HasMoveWidths, Widens, extracted, four_bits, high_word, in_turn, inserted, lanes_in_half, left_byte, low_word, lowest, move_op_bits, move_source, move_source_bits, packed, pair, right_byte, selected_half, unpacked}
use Rattle.lane_semantics.specs.Sources.{HasBits, IsInside}
use Rattle.lane_semantics.specs.VectorRows.{IsVectorWidth}
use Rattle.lane_semantics.specs.Widths.{bits}
use Rattle.lane_semantics.specs.declared.source.Source.{Source}
use Rattle.lane_semantics.specs.declared.source.Source.TheVariants.{First, Second, Zero}

-- a source of lanes of n bits that lies inside
pub record IsGood (n : ℕ) (s : Source) : Type 0 where
  pub inside : IsInside s
  pub bits : HasBits n s

either : (n : ℕ) (t : Bool) (x y : Source) → IsGood n x → IsGood n y → IsGood n (if t then x else y)
either n true x y h j = h
either n false x y h j = j

ordered : (n a b : ℕ) (x y : Source) → (a < b → IsGood n x) → (b ≤ a → IsGood n y) → IsGood n (if nat_lt a b then x else y)
ordered n a b x y h j = elim (cases_lt a b) [
  | inl l ↦ rw (lt-ltb a b l) (h l)
  | inr g ↦ rw (le-ltb a b g) (j g)
]

-- lanes of each width, by their number
byte : (i : ℕ) → i < 32 → IsLane 8 i 32
byte i h = (refl, omega arith)

word : (i : ℕ) → i < 16 → IsLane 16 i 32
word i h = (refl, omega arith)

double : (i : ℕ) → i < 8 → IsLane 32 i 32
double i h = (refl, omega arith)

quad : (i : ℕ) → i < 4 → IsLane 64 i 32
quad i h = (refl, omega arith)

first : (n i : ℕ) → IsLane n i 32 → IsGood n (First n i)
first n i h = record { inside = h; bits = refl }

second : (n i : ℕ) → IsLane n i 32 → IsGood n (Second n i)
second n i h = record { inside = h; bits = refl }

nothing : (n : ℕ) → IsGood n Zero
nothing n = record { inside = tt; bits = tt }

pair_below : (k j : ℕ) → pair k j < 4
pair_below k j = mod_below _ 4 (omega arith)

in_turn_inside : (w i j : ℕ) → IsLane w j 32 → IsGood w (in_turn w i j)
in_turn_inside w i j h = either w (i % 2 == 0) (First w j) (Second w j) (first w j h) (second w j h)

unpacked_inside : (l : LaneWidth) (from i : ℕ) → from ≤ lanes_in_half (bits l) / 2 → i < 256 / bits l → IsGood (bits l) (unpacked (bits l) (lanes_in_half (bits l)) from i)
unpacked_inside Byte from i h low = in_turn_inside 8 i (16 * (i / 16) + (from + i % 16 / 2)) (byte (16 * (i / 16) + (from + i % 16 / 2)) (omega arith))
unpacked_inside Word from i h low = in_turn_inside 16 i (8 * (i / 8) + (from + i % 8 / 2)) (word (8 * (i / 8) + (from + i % 8 / 2)) (omega arith))
unpacked_inside Doubleword from i h low = in_turn_inside 32 i (4 * (i / 4) + (from + i % 4 / 2)) (double (4 * (i / 4) + (from + i % 4 / 2)) (omega arith))
unpacked_inside Quadword from i h low = in_turn_inside 64 i (2 * (i / 2) + (from + i % 2 / 2)) (quad (2 * (i / 2) + (from + i % 2 / 2)) (omega arith))

packed_words : (i : ℕ) → i < 32 → IsGood 16 (packed 16 8 i)
packed_words i low =
    ordered 16 (i % 16) 8 (First 16 (8 * (i / 16) + i % 16)) (Second 16 (8 * (i / 16) + (i % 16 - 8)))
    (λ h. first 16 (8 * (i / 16) + i % 16) (word (8 * (i / 16) + i % 16) (omega arith)))
    (λ h. second 16 (8 * (i / 16) + (i % 16 - 8)) (word (8 * (i / 16) + (i % 16 - 8)) (omega arith)))

packed_doubles : (i : ℕ) → i < 16 → IsGood 32 (packed 32 4 i)
packed_doubles i low =
    ordered 32 (i % 8) 4 (First 32 (4 * (i / 8) + i % 8)) (Second 32 (4 * (i / 8) + (i % 8 - 4)))
    (λ h. first 32 (4 * (i / 8) + i % 8) (double (4 * (i / 8) + i % 8) (omega arith)))
    (λ h. second 32 (4 * (i / 8) + (i % 8 - 4)) (double (4 * (i / 8) + (i % 8 - 4)) (omega arith)))

widened : (l m : LaneWidth) (i : ℕ) → Widens l m → i < 256 / bits m → IsGood (bits l) (Second (bits l) i)
widened Byte Word i h low = second 8 i (byte i (omega arith))
widened Byte Doubleword i h low = second 8 i (byte i (omega arith))
widened Word Doubleword i h low = second 16 i (word i (omega arith))
widened Doubleword Quadword i h low = second 32 i (double i (omega arith))
widened _ _ i h low = absurd h

lowest_lane : (l : LaneWidth) → IsGood (bits l) (Second (bits l) 0)
lowest_lane Byte = second 8 0 (byte 0 (omega arith))
lowest_lane Word = second 16 0 (word 0 (omega arith))
lowest_lane Doubleword = second 32 0 (double 0 (omega arith))
lowest_lane Quadword = second 64 0 (quad 0 (omega arith))

packs : (l : LaneWidth) (i : ℕ) → (16 ≤ bits l) × (bits l ≤ 32) → i < 256 / (bits l / 2) → IsGood (bits l) (packed (bits l) (lanes_in_half (bits l)) i)
packs Byte i h low = absurd (omega arith)
packs Word i h low = packed_words i (omega arith)
packs Doubleword i h low = packed_doubles i (omega arith)
packs Quadword i h low = absurd (omega arith)

selected : (c j : ℕ) → j < 16 → IsGood 8 (selected_half c j)
selected c j low =
    let at : IsLane 8 (16 * (c % 2) + j) 32 = byte (16 * (c % 2) + j) (omega arith) in
    either 8 (nat_lt c 8) (if nat_lt (c % 4) 2 then First 8 (16 * (c % 2) + j) else Second 8 (16 * (c % 2) + j)) Zero
    (either 8 (nat_lt (c % 4) 2) (First 8 (16 * (c % 2) + j)) (Second 8 (16 * (c % 2) + j)) (first 8 _ at) (second 8 _ at)) (nothing 8)

lowest_inside : (w i : ℕ) → IsLane w 0 32 → IsGood w (lowest w i)
lowest_inside w i h = either w (i == 0) (Second w 0) Zero (second w 0 h) (nothing w)

left_inside : (k i : ℕ) → i < 32 → IsGood 8 (left_byte k i)
left_inside k i low = either 8 (nat_lt (i % 16) k) Zero (Second 8 (i - k)) (nothing 8) (second 8 (i - k) (byte (i - k) (omega arith)))

right_inside : (k i : ℕ) → i < 32 → IsGood 8 (right_byte k i)
right_inside k i low =
    ordered 8 (i % 16 + k) 16 (Second 8 (i + k)) Zero (λ h. second 8 (i + k) (byte (i + k) (omega arith))) (λ h. nothing 8)

low_inside : (k i : ℕ) → i < 16 → IsGood 16 (low_word k i)
low_inside k i low =
    let p : pair k (i % 8) < 4 = pair_below k (i % 8) in
    either 16 (nat_lt (i % 8) 4) (Second 16 (8 * (i / 8) + pair k (i % 8))) (Second 16 i)
    (second 16 _ (word (8 * (i / 8) + pair k (i % 8)) (omega arith))) (second 16 i (word i low))

high_inside : (k i : ℕ) → i < 16 → IsGood 16 (high_word k i)
high_inside k i low =
    let p : pair k (i % 8 - 4) < 4 = pair_below k (i % 8 - 4) in
    either 16 (nat_lt (i % 8) 4) (Second 16 i) (Second 16 (8 * (i / 8) + (4 + pair k (i % 8 - 4))))
    (second 16 i (word i low)) (second 16 _ (word (8 * (i / 8) + (4 + pair k (i % 8 - 4))) (omega arith)))

shuffled_inside : (k i : ℕ) → i < 8 → IsGood 32 (Second 32 (4 * (i / 4) + pair k (i % 4)))
shuffled_inside k i low =
    let p : pair k (i % 4) < 4 = pair_below k (i % 4) in
    second 32 (4 * (i / 4) + pair k (i % 4)) (double (4 * (i / 4) + pair k (i % 4)) (omega arith))

extracted_inside : (k i : ℕ) → i < 32 → IsGood 8 (extracted k i)
extracted_inside k i low =
    ordered 8 i 16 (Second 8 (16 * (k % 2) + i)) Zero (λ h. second 8 (16 * (k % 2) + i) (byte (16 * (k % 2) + i) (omega arith))) (λ h. nothing 8)

inserted_inside : (k i : ℕ) → i < 32 → IsGood 8 (inserted k i)
inserted_inside k i low =
    either 8 (i / 16 == k % 2) (Second 8 (i % 16)) (First 8 i) (second 8 (i % 16) (byte (i % 16) (omega arith))) (first 8 i (byte i low))

-- the lane that lane i of the result is made of lies inside, and has the row's width
pub source_good : (op : MoveOp) (k i : ℕ) → HasMoveWidths op → i < 256 / move_op_bits op → IsGood (move_source_bits op) (move_source op k i)
source_good ops.Pslldq k i row low = left_inside k i low
source_good ops.Psrldq k i row low = right_inside k i low
source_good (ops.Punpckl l) k i row low = unpacked_inside l 0 i (omega arith) low
source_good (ops.Punpckh l) k i row low = unpacked_inside l (lanes_in_half (bits l) / 2) i (omega arith) low
source_good ops.Pshufd k i row low = shuffled_inside k i low
source_good ops.Pshuflw k i row low = low_inside k i low
source_good ops.Pshufhw k i row low = high_inside k i low
source_good (ops.Packss l) k i row low = packs l i row low
source_good ops.Packuswb k i row low = packed_words i low
source_good ops.Movd k i row low = lowest_inside 32 i (double 0 (omega arith))
source_good ops.Movq k i row low = lowest_inside 64 i (quad 0 (omega arith))
source_good ops.Movdqa k i row low = second 8 i (byte i low)
source_good ops.Movdqu k i row low = second 8 i (byte i low)
source_good ops.Movaps k i row low = second 8 i (byte i low)
source_good ops.Movups k i row low = second 8 i (byte i low)
source_good (ops.Pbroadcast l) k i row low = lowest_lane l
source_good ops.Extracti128 k i row low = extracted_inside k i low
source_good ops.Inserti128 k i row low = inserted_inside k i low
source_good ops.Perm2i128 k i row low = selected (four_bits k (4 * (i / 16))) (i % 16) (mod_below i 16 (omega arith))
source_good ops.Permq k i row low = let p : pair k i < 4 = pair_below k i in second 64 (pair k i) (quad (pair k i) p)
source_good (ops.Pmovzx l m) k i row low = widened l m i row low
source_good (ops.Pmovsx l m) k i row low = widened l m i row low

-- a lane below the number of lanes in 128 bits is below the number of lanes in 256
pub lanes_below : (n w i : ℕ) → is_lane_width n ≡ true → IsVectorWidth w → i < w / n → i < 256 / n
lanes_below n w i width (inr e) h = subst (λ (v : ℕ). i < v / n) e h
lanes_below n w i width (inl e) h =
    let small : i < 128 / n = subst (λ (v : ℕ). i < v / n) e h in
    each_lane_width (λ (m : ℕ). i < 128 / m → i < 256 / m) n width (λ k. omega arith) (λ k. omega arith) (λ k. omega arith) (λ k. omega arith) small

-- lanes in 256 bits lie inside
pub lane_inside : (n w i : ℕ) → is_lane_width n ≡ true → IsVectorWidth w → i < w / n → IsLane n i 32
lane_inside n w i width vector h =
    each_lane_width (λ (m : ℕ). i < 256 / m → IsLane m i 32) n width (λ k. byte i k) (λ k. word i k) (λ k. double i k) (λ k. quad i k)
    (lanes_below n w i width vector h)

-- a vector's lanes have all its bytes
pub lanes_of_vector : (n w : ℕ) → is_lane_width n ≡ true → IsVectorWidth w → w / n * (n / 8) ≡ w / 8
lanes_of_vector n w width (inl e) = subst (λ (v : ℕ). v / n * (n / 8) ≡ v / 8) (sym e) (each_lane_width (λ (m : ℕ). 128 / m * (m / 8) ≡ 16) n width refl refl refl refl)
lanes_of_vector n w width (inr e) = subst (λ (v : ℕ). v / n * (n / 8) ≡ v / 8) (sym e) (each_lane_width (λ (m : ℕ). 256 / m * (m / 8) ≡ 32) n width refl refl refl refl)

-- the widths of a row's lanes are widths of lanes
bits_width : (l : LaneWidth) → is_lane_width (bits l) ≡ true
bits_width Byte = refl
bits_width Word = refl
bits_width Doubleword = refl
bits_width Quadword = refl

pub move_width : (op : MoveOp) → HasMoveWidths op → is_lane_width (move_op_bits op) ≡ true
move_width (ops.Punpckl l) row = bits_width l
move_width (ops.Punpckh l) row = bits_width l
move_width (ops.Packss Byte) row = absurd (omega arith)
move_width (ops.Packss Word) row = refl
move_width (ops.Packss Doubleword) row = refl
move_width (ops.Packss Quadword) row = absurd (omega arith)
move_width (ops.Pbroadcast l) row = bits_width l
move_width (ops.Pmovzx l m) row = bits_width m
move_width (ops.Pmovsx l m) row = bits_width m
move_width _ row = refl
