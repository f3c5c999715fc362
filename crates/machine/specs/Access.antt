-- What an instruction may access, and whether all of it is allowed. Regions, the stack range and the test of `ret` are
-- this project's own.
use Rattle.std.specs.Prelude.{ℕ, ◌+◌, ◌-◌, ◌/◌, ◌==◌, Bool, true, false, not, ◌&&◌, ◌||◌, nat_lt, List, [], ◌∷◌, ◌++◌, slice_index, if◌then◌else◌}
use Rattle.std.specs.List.{list_all, list_any}
use Rattle.insn_ops.specs.declared.op.Op.{Op}
use Rattle.insn_ops.specs.declared.op.Op.TheVariants as ops
use Rattle.insn_table.specs.declared.insn.Insn.{Insn}
use Rattle.insn_table.specs.declared.insn.Operand.{Operand}
use Rattle.insn_table.specs.declared.insn.Operand.TheVariants.{Mem}
use Rattle.insn_table.specs.Classes.{is_nothing}
use Rattle.machine.specs.declared.operands.Family.{Family}
use Rattle.machine.specs.declared.operands.Family.TheVariants.{Address, OnVectors, Popping, Pushing, Return}
use Rattle.memory_spans.specs.declared.region.Region.{Region}
use Rattle.machine.specs.Family.{family_of}
use Rattle.machine.specs.Machine.{Machine, stack_base}
use Rattle.memory_spans.specs.Memory.{offset_from}
use Rattle.machine.specs.Operands.{effective_address, operand}
use Rattle.machine.specs.VectorAccess.{alignment, is_aligned, vector_source_width, vector_target_width}

-- some bytes from an address on, and whether they are written
pub record Access : Type 0 where
  pub at : ℕ
  pub bytes : ℕ
  pub write : Bool

-- how many operands an instruction has
abbrev pub arity : Insn → ℕ
arity i =
    if is_nothing (operand i 0) then 0
    else (if is_nothing (operand i 1) then 1
    else (if is_nothing (operand i 2) then 2 else (if is_nothing (operand i 3) then 3 else 4)))

-- whether the last operand is written
abbrev pub writes : Op → Bool
writes ops.Cmp = false
writes ops.Test = false
writes _ = true

-- the width of each operand but the last
abbrev pub source_width : Op → ℕ → ℕ
source_width (ops.Movzx m) w = m
source_width (ops.Movsx m) w = m
source_width ops.Cltq w = 32
source_width (ops.Vector op) w = vector_source_width op w
source_width _ w = w

-- the width of the last operand
abbrev pub target_width : Op → ℕ → ℕ
target_width (ops.Vector op) w = vector_target_width op w
target_width _ w = w

-- the width of operand k
abbrev pub width_at : Insn → ℕ → ℕ
width_at i k = if (k + 1) == arity i then target_width i.op i.w else source_width i.op i.w

-- the access of an operand of w bits: none but of a memory operand
abbrev pub access_of : Machine → Operand → ℕ → Bool → List Access
access_of s (Mem base index scale disp) w write =
    record { at = effective_address s.regs base index scale disp; bytes = w / 8; write = write } ∷ []
access_of s _ w write = []

-- operand k is written where it is the last one, and the operation writes
abbrev pub access_at : Insn → Machine → ℕ → List Access
access_at i s k = access_of s (operand i k) (width_at i k) (((k + 1) == arity i) && writes i.op)

-- the accesses of the memory operands
abbrev pub operand_accesses : Insn → Machine → List Access
operand_accesses i s = access_at i s 0 ++ access_at i s 1 ++ access_at i s 2 ++ access_at i s 3

-- what an instruction of a family may access: its memory operands, but `lea` makes no access
abbrev pub accesses : Family → Insn → Machine → List Access
accesses Address i s = []
accesses _ i s = operand_accesses i s

-- the bytes lie in the region
abbrev pub holds_access : Region → Access → Bool
holds_access r a = not (nat_lt r.len a.bytes) && not (nat_lt (r.len - a.bytes) (offset_from r.base a.at))

-- some region has the bytes and the right
abbrev pub is_allowed : Machine → Access → Bool
is_allowed s a = list_any (λ r. (not a.write || r.write) && holds_access r a) s.regions

-- eight bytes from an address on lie among the declared stack bytes
abbrev pub is_on_stack : Machine → ℕ → Bool
is_on_stack s at = not (nat_lt s.stack 8) && not (nat_lt (s.stack - 8) (offset_from (stack_base s) at))

-- what %rsp holds, register 4
abbrev pub stack_pointer : Machine → ℕ
stack_pointer s = slice_index s.regs 4

-- operand k, where it is in memory, stands at an address that the operation takes
abbrev pub aligned_at : Insn → Machine → ℕ → Bool
aligned_at i s k = is_aligned (alignment i.op i.vex i.w) s.regs (operand i k)

-- each operand in memory does
abbrev pub are_aligned : Insn → Machine → Bool
are_aligned i s = aligned_at i s 0 && (aligned_at i s 1 && (aligned_at i s 2 && aligned_at i s 3))

-- each test of an instruction of a family holds: of PUSH and POP that their bytes are declared, of RET that the stack
-- pointer is that of the entry, of every other that each access is allowed, and of those on vectors that it is aligned
abbrev pub allows_by : Family → Insn → Machine → Bool
allows_by Pushing i s = is_on_stack s (offset_from 8 (stack_pointer s))
allows_by Popping i s = is_on_stack s (stack_pointer s)
allows_by Return i s = stack_pointer s == slice_index s.entry 4
allows_by OnVectors i s = list_all (is_allowed s) (accesses OnVectors i s) && are_aligned i s
allows_by kind i s = list_all (is_allowed s) (accesses kind i s)

-- each test of an instruction holds
abbrev pub allows : Insn → Machine → Bool
allows i s = allows_by (family_of i.op) i s
