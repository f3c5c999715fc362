-- The operands that each instruction on vectors takes, in the order of the text: sources first, the destination last.
use Rattle.std.specs.Prelude.{ℕ, Bool, ◌&&◌, ◌||◌, ◌==◌, List, [], ◌∷◌, if◌then◌else◌}
use Rattle.insn_ops.specs.declared.vector_op.LaneOp.{LaneOp}
use Rattle.insn_ops.specs.declared.vector_op.LaneOp.TheVariants as lanes
use Rattle.insn_ops.specs.declared.vector_op.MoveOp.{MoveOp}
use Rattle.insn_ops.specs.declared.vector_op.MoveOp.TheVariants as moves
use Rattle.insn_ops.specs.declared.vector_op.VectorOp.{VectorOp}
use Rattle.insn_ops.specs.declared.vector_op.VectorOp.TheVariants as vectors
use Rattle.insn_table.specs.declared.classes.Class.TheVariants.{Register, Writable, Readable, Address, VectorRegister, VectorSource, Control}
use Rattle.insn_table.specs.Classes.{OperandForm, none, two, three, four}

-- two sources: without VEX the destination is the other one
abbrev pub computed : Bool → ℕ → OperandForm
computed vex w =
    if vex then three (VectorSource w) (VectorRegister w) (VectorRegister w) else two (VectorSource w) (VectorRegister w)

-- a shift by an immediate: without VEX of the destination
abbrev pub shifted : Bool → ℕ → OperandForm
shifted vex w =
    if vex then three Control (VectorRegister w) (VectorRegister w) else two Control (VectorRegister w)

-- one source of v bits
abbrev pub taken_from : ℕ → ℕ → OperandForm
taken_from v w = two (VectorSource v) (VectorRegister w)

-- one source, and an immediate that says how it is shuffled
abbrev pub shuffled : ℕ → OperandForm
shuffled w = three Control (VectorSource w) (VectorRegister w)

-- a source of v bits and one of 256, and an immediate that says how they are joined
abbrev pub joined : ℕ → OperandForm
joined v = four Control (VectorSource v) (VectorRegister 256) (VectorRegister 256)

-- a half, which an immediate names, to a register or to memory
abbrev pub extracted : List OperandForm
extracted = three Control (VectorRegister 256) (VectorRegister 128) ∷ three Control (VectorRegister 256) Address ∷ []

-- a copy to a register, or from one to memory
abbrev pub copied : ℕ → List OperandForm
copied w = two (VectorSource w) (VectorRegister w) ∷ two (VectorRegister w) Address ∷ []

-- v bits between a general register or memory and a vector register
abbrev pub exchanged : ℕ → List OperandForm
exchanged v = two (Readable v) (VectorRegister 128) ∷ two (VectorRegister 128) (Writable v) ∷ []

-- the low 64 bits of a vector register, or 64 bits of a general register or of memory
abbrev pub moved_quadword : List OperandForm
moved_quadword = two (VectorRegister 128) (VectorRegister 128) ∷ exchanged 64

-- the form of an operation by lane
abbrev pub lane_form : LaneOp → Bool → ℕ → OperandForm
lane_form (lanes.Psll l) vex w = shifted vex w
lane_form (lanes.Psrl l) vex w = shifted vex w
lane_form (lanes.Psra l) vex w = shifted vex w
lane_form (lanes.Pabs l) vex w = taken_from w w
lane_form _ vex w = computed vex w

-- a form of vectors of 256 bits alone
abbrev pub only_wide : ℕ → List OperandForm → List OperandForm
only_wide w forms = if w == 256 then forms else []

-- forms of vectors of 128 bits alone
abbrev pub only_low : ℕ → List OperandForm → List OperandForm
only_low w forms = if w == 128 then forms else []

-- the forms of an operation that moves lanes
abbrev pub move_forms : MoveOp → Bool → ℕ → List OperandForm
move_forms moves.Pslldq vex w = shifted vex w ∷ []
move_forms moves.Psrldq vex w = shifted vex w ∷ []
move_forms (moves.Punpckl l) vex w = computed vex w ∷ []
move_forms (moves.Punpckh l) vex w = computed vex w ∷ []
move_forms moves.Pshufd vex w = shuffled w ∷ []
move_forms moves.Pshuflw vex w = shuffled w ∷ []
move_forms moves.Pshufhw vex w = shuffled w ∷ []
move_forms (moves.Packss l) vex w = computed vex w ∷ []
move_forms moves.Packuswb vex w = computed vex w ∷ []
move_forms moves.Movd vex w = only_low w (exchanged 32)
move_forms moves.Movq vex w = only_low w moved_quadword
move_forms moves.Movdqa vex w = copied w
move_forms moves.Movdqu vex w = copied w
move_forms moves.Movaps vex w = copied w
move_forms moves.Movups vex w = copied w
move_forms (moves.Pbroadcast l) vex w = taken_from 128 w ∷ []
move_forms moves.Extracti128 vex w = only_wide w extracted
move_forms moves.Inserti128 vex w = only_wide w (joined 128 ∷ [])
move_forms moves.Perm2i128 vex w = only_wide w (joined 256 ∷ [])
move_forms moves.Permq vex w = only_wide w (shuffled 256 ∷ [])
move_forms (moves.Pmovzx l m) vex w = taken_from 128 w ∷ []
move_forms (moves.Pmovsx l m) vex w = taken_from 128 w ∷ []

-- the forms of an operation on vectors of w bits
abbrev pub forms_at : VectorOp → Bool → ℕ → List OperandForm
forms_at (vectors.Lanewise op) vex w = lane_form op vex w ∷ []
forms_at (vectors.Moving op) vex w = move_forms op vex w
forms_at vectors.Pmaddwd vex w = computed vex w ∷ []
forms_at vectors.Psadbw vex w = computed vex w ∷ []
forms_at vectors.Pshufb vex w = computed vex w ∷ []
forms_at vectors.Pmovmskb vex w = two (VectorRegister w) (Register 32) ∷ []
forms_at vectors.Vzeroupper vex w = none ∷ []

-- vectors of 128 bits, or with VEX of 256
abbrev pub is_vector_width : Bool → ℕ → Bool
is_vector_width vex w = w == 128 || (vex && w == 256)

-- the forms of an operation on vectors, with VEX or without
abbrev pub vector_forms : VectorOp → Bool → ℕ → List OperandForm
vector_forms op vex w = if is_vector_width vex w then forms_at op vex w else []
