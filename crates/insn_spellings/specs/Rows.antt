-- Rows of the instruction table: a mnemonic and the shape that it names.
use Rattle.std.specs.Prelude.{◌≡◌, ℕ, Bool, true, false, ◌&&◌, List, [], ◌∷◌, Option, Some, None, bytes_eq, slice_get, if◌then◌else◌}
use Rattle.std.specs.Ordering.{nat_cmp, is_lt}
use Rattle.std.specs.Cmp.Lexicographic.{slice_cmp}
use Rattle.insn_ops.specs.declared.op.Op.{Op}
use Rattle.insn_ops.specs.declared.op.Op.TheVariants.{Vector}
use Rattle.insn_ops.specs.declared.vector_op.VectorOp.{VectorOp}
use Rattle.insn_spellings.specs.declared.shape.Shape.{Shape}

-- a row: its mnemonic and its shape
abbrev pub Row : Type 0
Row = List ℕ × Shape

-- a shape without VEX
abbrev pub general : Op → ℕ → Shape
general op w = record { op = op; w = w; vex = false }

-- a shape with VEX, whose vectors are as wide as the operands tell where w is 0
abbrev pub with_vex : VectorOp → ℕ → Shape
with_vex op w = record { op = Vector op; w = w; vex = true }

-- a row without VEX, by its mnemonic, operation and width
abbrev pub row : List ℕ → Op → ℕ → Row
row mnemonic op w = (mnemonic, general op w)

-- a row of vectors without VEX, which are of 128 bits
abbrev pub vector_row : List ℕ → VectorOp → Row
vector_row mnemonic op = row mnemonic (Vector op) 128

-- a row with VEX, whose operands tell the width
abbrev pub vex_row : List ℕ → VectorOp → Row
vex_row mnemonic op = (mnemonic, with_vex op 0)

-- a row with VEX that has no operands, of all 256 bits
abbrev pub upper_row : List ℕ → VectorOp → Row
upper_row mnemonic op = (mnemonic, with_vex op 256)

-- the shape of the first row with this mnemonic
abbrev pub named : List Row → List ℕ → Option Shape
named [] mnemonic = None
named (row ∷ rows) mnemonic = if bytes_eq row.0 mnemonic then Some row.1 else named rows mnemonic

-- whether each mnemonic stands behind the one before it in byte order, the first behind this mnemonic
abbrev pub in_order_after : List ℕ → List Row → Bool
in_order_after mnemonic [] = true
in_order_after mnemonic (row ∷ rows) = is_lt (slice_cmp nat_cmp mnemonic row.0) && in_order_after row.0 rows

-- whether the mnemonics rise strictly in byte order
abbrev pub in_order : List Row → Bool
in_order [] = true
in_order (row ∷ rows) = in_order_after row.0 rows

-- a row has this mnemonic and this shape
pub record IsRowOf (rows : List Row) (mnemonic : List ℕ) (shape : Shape) : Type 0 where
  pub index : ℕ
  pub there : slice_get rows index ≡ Some (mnemonic, shape)
