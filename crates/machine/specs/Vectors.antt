-- What an instruction on vectors reads and writes. Its second argument is its first operand that is no immediate, and its
-- first argument the operand behind that one: without VEX the destination, with VEX the first source, and where there is
-- one source alone, none that the row reads. A vector is its 32 bytes, the lowest first.
use Rattle.std.specs.Prelude.{ℕ, ◌+◌, ◌-◌, ◌/◌, ◌%◌, ◌^◌, Bool, List, [], ◌++◌, get_or, replicate, take, drop, map, slice_index, slice_set, if◌then◌else◌}
use Rattle.insn_ops.specs.declared.op.Op.{Op}
use Rattle.insn_ops.specs.declared.op.Op.TheVariants.{Vector}
use Rattle.insn_ops.specs.declared.vector_op.VectorOp.{VectorOp}
use Rattle.insn_table.specs.declared.insn.Insn.{Insn}
use Rattle.insn_table.specs.declared.insn.Operand.{Operand}
use Rattle.insn_table.specs.declared.insn.Operand.TheVariants.{Reg, Imm, Mem, Vec, Pool}
use Rattle.insn_table.specs.Classes.{is_number}
use Rattle.lane_views.specs.Lanes.{lane, with_lane}
use Rattle.lane_semantics.specs.Vectors.{vector_of}
use Rattle.machine.specs.Access.{arity, source_width, target_width}
use Rattle.machine.specs.Machine.{Machine}
use Rattle.memory_spans.specs.Memory.{with_bytes, vector_from}
use Rattle.machine.specs.Operands.{effective_address, operand}

-- the place of the first operand that is no immediate
abbrev pub source_place : Insn → ℕ
source_place i = if is_number (operand i 0) then 1 else 0

-- the low eight bits of an immediate, 0 of another operand
abbrev pub control_of : Operand → ℕ
control_of (Imm v) = v % 2 ^ 8
control_of _ = 0

-- what vector register n holds
abbrev pub vector_at : Machine → ℕ → List ℕ
vector_at s n = get_or s.vecs n []

-- a word of 64 bits, and zeros above it
abbrev pub word_vector : ℕ → List ℕ
word_vector word = with_lane 64 0 word (replicate 32 0)

-- what an operand of w bits gives as a vector, where the function's pool of constants has these bytes
abbrev pub operand_vector : List ℕ → ℕ → Machine → Operand → List ℕ
operand_vector pool w s (Vec n v) = vector_at s n
operand_vector pool w s (Reg n v) = word_vector (slice_index s.regs n)
operand_vector pool w s (Mem base index scale disp) =
    vector_from s.memory (effective_address s.regs base index scale disp) (w / 8)
operand_vector pool w s (Pool at) = vector_from (λ place. slice_index pool place) at (w / 8)
operand_vector pool w s _ = replicate 32 0

-- what an operand that is a vector register holds, and zeros where it is another
abbrev pub register_vector : Machine → Operand → List ℕ
register_vector s (Vec n v) = vector_at s n
register_vector s _ = replicate 32 0

-- what an operation computes of an instruction's arguments
abbrev pub vector_result : List ℕ → VectorOp → Insn → Machine → List ℕ
vector_result pool op i s =
    vector_of op i.w (control_of (operand i 0)) (register_vector s (operand i (source_place i + 1)))
    (operand_vector pool (source_width i.op i.w) s (operand i (source_place i)))

-- a vector register after a write: without VEX its bits 255 to 128 stay (Intel SDM volume 1, 14.8)
abbrev pub written_vector : Bool → List ℕ → List ℕ → List ℕ
written_vector vex old new = if vex then new else take 16 new ++ drop 16 old

-- the state after a write to an operand: to memory n bytes, to a general register 64 bits
abbrev pub with_vector : Bool → ℕ → Machine → Operand → List ℕ → Machine
with_vector vex n s (Vec r v) new = record s { vecs = slice_set s.vecs r (written_vector vex (vector_at s r) new) }
with_vector vex n s (Reg r v) new = record s { regs = slice_set s.regs r (lane 64 0 new) }
with_vector vex n s (Mem base index scale disp) new =
    record s { memory = with_bytes s.memory (effective_address s.regs base index scale disp) (take n new) }
with_vector vex n s _ new = s

-- the operand that is written, the last one
abbrev pub last_operand : Insn → Operand
last_operand i = operand i (arity i - 1)

-- the state after an operation on vectors
abbrev pub after_vectors : Op → List ℕ → Insn → Machine → Machine
after_vectors (Vector op) pool i s =
    with_vector i.vex (target_width i.op i.w / 8) s (last_operand i) (vector_result pool op i s)
after_vectors _ pool i s = s

-- a vector register whose bits 255 to 128 are cleared
abbrev pub cleared_above : List ℕ → List ℕ
cleared_above v = take 16 v ++ replicate 16 0

-- the state after `vzeroupper`
abbrev pub after_clearing : Machine → Machine
after_clearing s = record s { vecs = map cleared_above s.vecs }
