-- One step, from its parts: what the instruction may access and whether all of it is allowed (in Access), where it leads,
-- and how it changes the state. The free step takes every access as allowed and every return as one; the step is the
-- free step under the tests of what is allowed.
--
-- What a row computes and which flags it leaves is said in insn_semantics, with the sections of Intel's Software
-- Developer's Manual, volume 2.
use Rattle.std.specs.Prelude.{ℕ, zero, suc, ◌+◌, ◌-◌, ◌==◌, Bool, true, List, Option, Some, None, slice_get, slice_index, slice_set, if◌then◌else◌}
use Rattle.insn_ops.specs.declared.op.Op.{Op}
use Rattle.insn_ops.specs.declared.op.Op.TheVariants as ops
use Rattle.insn_table.specs.declared.insn.Insn.{Insn}
use Rattle.insn_table.specs.declared.insn.Operand.{Operand}
use Rattle.insn_table.specs.declared.insn.Operand.TheVariants.{Reg, Target}
use Rattle.insn_semantics.specs.Words.{bit}
use Rattle.insn_semantics.specs.Exprs.{value}
use Rattle.insn_semantics.specs.Rows.{row_expr}
use Rattle.insn_semantics.specs.FlagRules.{flags_after}
use Rattle.machine.specs.declared.operands.Family.{Family}
use Rattle.machine.specs.declared.operands.Family.TheVariants.{Branch, Choice, Clearing, Idle, Jump, OnVectors, Popping, Pushing, Return, Setting}
use Rattle.machine.specs.Access.{allows, arity, source_width, stack_pointer, writes}
use Rattle.machine.specs.Family.{family_of, holds_of}
use Rattle.machine.specs.Machine.{Machine}
use Rattle.memory_spans.specs.Memory.{address_plus, offset_from, with_word, word_at}
use Rattle.machine.specs.Operands.{address_of, operand, value_of, with_value}
use Rattle.machine.specs.Vectors.{after_clearing, after_vectors}
use Rattle.runs.specs.Run.{Step, Goes, Returns, Faults, MeetsUnset, guarded, tested}

-- The operands of a row by their number: of one operand it is the destination; of two the second is the destination and
-- the first the source; of three the third is written with what the second and the first give. `cltq` has none and is
-- from EAX to RAX.
abbrev pub target_operand : Op → Insn → Operand
target_operand ops.Cltq i = Reg 0 64
target_operand _ i = operand i (arity i - 1)

-- the operand that a row's destination is read from
abbrev pub destination_operand : Op → Insn → Operand
destination_operand ops.Cltq i = Reg 0 64
destination_operand _ i = if arity i == 1 then operand i 0 else operand i 1

-- the operand that a row's source is read from
abbrev pub source_operand : Op → Insn → Operand
source_operand ops.Cltq i = Reg 0 32
source_operand _ i = operand i 0

-- what the source gives: its value at the source's width, of `lea` its address
abbrev pub source_value : List ℕ → Op → Insn → Machine → ℕ
source_value pool ops.Lea i s = address_of s.regs (operand i 0)
source_value pool op i s = value_of pool (source_width op i.w) s (source_operand op i)

-- what the destination gives
abbrev pub destination_value : List ℕ → Insn → Machine → ℕ
destination_value pool i s = value_of pool i.w s (destination_operand i.op i)

-- the leaves of a row: destination, source, condition
abbrev pub operand_leaves : ℕ → ℕ → ℕ → ℕ → ℕ
operand_leaves destination source cond zero = destination
operand_leaves destination source cond (suc zero) = source
operand_leaves destination source cond (suc (suc i)) = cond

-- what a row computes, where its condition has this value
abbrev pub result_of : List ℕ → Insn → Machine → ℕ → ℕ
result_of pool i s cond =
    let source = source_value pool i.op i s in
    value (operand_leaves (destination_value pool i s) source cond) (row_expr i.op i.w source)

-- the state after a row's result
abbrev pub with_result : List ℕ → Insn → Machine → ℕ → Machine
with_result pool i s cond = if writes i.op then with_value i.w s (target_operand i.op i) (result_of pool i s cond) else s

-- the state after a row
abbrev pub after_row : List ℕ → Insn → Machine → ℕ → Machine
after_row pool i s cond =
    record (with_result pool i s cond) {
      flags = flags_after i.op i.w (destination_value pool i s) (source_value pool i.op i s) s.flags;
    }

-- the place that a jump goes to
abbrev pub jump_place : Operand → ℕ
jump_place (Target n) = n
jump_place _ = 0

-- the state at another place
abbrev pub at_place : Machine → ℕ → Machine
at_place s place = record s { place = place }

-- the number of the register that PUSH and POP name
abbrev pub register_number : Operand → ℕ
register_number (Reg n w) = n
register_number _ = 0

-- PUSH stores the old value, also of the stack pointer itself
abbrev pub after_push : Insn → Machine → Machine
after_push i s =
    let below = offset_from 8 (stack_pointer s) in
    record s {
      regs = slice_set s.regs 4 below;
      memory = with_word s.memory below 8 (slice_index s.regs (register_number (operand i 0)));
    }

-- POP into the stack pointer leaves the value read
abbrev pub after_pop : Insn → Machine → Machine
after_pop i s =
    let above = address_plus (stack_pointer s) 8 in
    let read = word_at s.memory (stack_pointer s) 8 in
    record s { regs = slice_set (slice_set s.regs 4 above) (register_number (operand i 0)) read }

-- how an instruction of a family changes registers, flags, vectors and memory, where its condition, if it reads one, has
-- this value
abbrev pub after_change : Family → List ℕ → Insn → Machine → Bool → Machine
after_change Pushing pool i s holds = after_push i s
after_change Popping pool i s holds = after_pop i s
after_change Branch pool i s holds = s
after_change Jump pool i s holds = s
after_change Return pool i s holds = s
after_change Idle pool i s holds = s
after_change OnVectors pool i s holds = after_vectors i.op pool i s
after_change Clearing pool i s holds = after_clearing s
after_change Choice pool i s holds = after_row pool i s (bit holds)
after_change Setting pool i s holds = after_row pool i s (bit holds)
after_change _ pool i s holds = after_row pool i s 0

-- where an instruction of a family at a place leads, where its condition has this value: None where it returns
abbrev pub leads_to : Family → Insn → ℕ → Bool → Option ℕ
leads_to Branch i place holds = Some (if holds then jump_place (operand i 0) else place + 1)
leads_to Jump i place holds = Some (jump_place (operand i 0))
leads_to Return i place holds = None
leads_to _ i place holds = Some (place + 1)

-- the changed state at the place that is led to
abbrev pub step_to : Option ℕ → Machine → Step Machine
step_to None s = Returns
step_to (Some place) s = Goes (at_place s place)

-- the step of an instruction of a family, where its condition has this value
abbrev pub goes : Family → List ℕ → Insn → Machine → Bool → Step Machine
goes kind pool i s holds = step_to (leads_to kind i s.place holds) (after_change kind pool i s holds)

-- what follows a condition's value; a flag that is unset is met
abbrev pub step_where_known : Option Bool → (Bool → Step Machine) → Step Machine
step_where_known None goes = MeetsUnset
step_where_known (Some holds) goes = goes holds

-- the free step of an instruction, which takes every test as met
abbrev pub free_insn : List ℕ → Insn → Machine → Step Machine
free_insn pool i s = step_where_known (holds_of i.op s.flags) (goes (family_of i.op) pool i s)

-- the instruction at the state's place; a place outside of the function faults
abbrev pub free_at : List ℕ → Option Insn → Machine → Step Machine
free_at pool None s = Faults
free_at pool (Some i) s = free_insn pool i s

-- one step of a function of these instructions with this pool, which takes every test as met
abbrev pub free_step : List Insn → List ℕ → Machine → Step Machine
free_step insns pool s = free_at pool (slice_get insns s.place) s

-- each test of the instruction at the state's place holds
abbrev pub allows_at : Option Insn → Machine → Bool
allows_at None s = true
allows_at (Some i) s = allows i s

-- each test of the next step holds
abbrev pub allows_step : List Insn → Machine → Bool
allows_step insns s = allows_at (slice_get insns s.place) s

-- the step of an instruction, under its tests
abbrev pub insn_step : List ℕ → Insn → Machine → Step Machine
insn_step pool i s = tested (allows i s) (free_insn pool i s)

-- one step of a function of these instructions with this pool
abbrev pub step_of : List Insn → List ℕ → Machine → Step Machine
step_of insns pool = guarded (allows_step insns) (free_step insns pool)
