-- What the step does in small cases, computed.
use Rattle.std.specs.Prelude.{◌≡◌, refl, ℕ, ◌+◌, ◌^◌, ◌%◌, true, false, List, [], ◌∷◌, Some, None, slice_index, pos, negsuc}
use Rattle.insn_ops.specs.declared.op.Cond.TheVariants as conds
use Rattle.insn_ops.specs.declared.op.Op.{Op}
use Rattle.insn_ops.specs.declared.op.Op.TheVariants as ops
use Rattle.insn_table.specs.declared.insn.Insn.{Insn}
use Rattle.insn_table.specs.declared.insn.Operand.{Operand}
use Rattle.insn_table.specs.declared.insn.Operand.TheVariants.{Reg, Imm, Mem, Nothing}
use Rattle.insn_semantics.specs.FlagRules.{flags_after}
use Rattle.runs.specs.declared.ends.RunEnd.{RunEnd}
use Rattle.runs.specs.declared.ends.RunEnd.TheVariants.{Returned, Faulted, Unset}
use Rattle.machine.specs.Machine.{Machine, no_flags}
use Rattle.runs.specs.Run.{Step, Goes, run_of, end_of}
use Rattle.machine.specs.Step.{step_of}

abbrev two : Op → ℕ → Operand → Operand → Insn
two o w a b = record { op = o; w = w; vex = false; args = a ∷ b ∷ Nothing ∷ Nothing ∷ []; line = 1 }

abbrev one : Op → ℕ → Operand → Insn
one o w a = record { op = o; w = w; vex = false; args = a ∷ Nothing ∷ Nothing ∷ Nothing ∷ []; line = 1 }

abbrev none : Op → ℕ → Insn
none o w = record { op = o; w = w; vex = false; args = Nothing ∷ Nothing ∷ Nothing ∷ Nothing ∷ []; line = 1 }

-- rax all ones, rcx 5, rdx 0x100, rbx 0x200, rsp 0x8000
abbrev first_regs : List ℕ
first_regs = 0xffffffffffffffff ∷ 5 ∷ 0x100 ∷ 0x200 ∷ 0x8000 ∷ 0 ∷ 0 ∷ 0 ∷ 0 ∷ 0 ∷ 0 ∷ 0 ∷ 0 ∷ 0 ∷ 0 ∷ 0 ∷ []

abbrev first_memory : ℕ → ℕ
first_memory at = at % 256

-- sixteen declared stack bytes; sixteen bytes that may be written, and eight that may only be read
abbrev start : Machine
start = record {
  regs = first_regs;
  entry = first_regs;
  flags = no_flags;
  vecs = [];
  memory = first_memory;
  regions = (record { base = 0x100; len = 16; write = true }) ∷ (record { base = 0x200; len = 8; write = false }) ∷ [];
  stack = 16;
  place = 0;
}

abbrev next_of : Step Machine → (Machine → ℕ) → ℕ
next_of (Goes t) f = f t
next_of _ f = 12345

abbrev reg_after : Insn → ℕ → ℕ
reg_after i n = next_of (step_of (i ∷ []) [] start) (λ t. slice_index t.regs n)

abbrev byte_after : Insn → ℕ → ℕ
byte_after i at = next_of (step_of (i ∷ []) [] start) (λ t. t.memory at)

abbrev end_by : Insn → RunEnd
end_by i = end_of (step_of (i ∷ []) []) start 1

-- mov %ecx, %eax clears the upper half
half_cleared : reg_after (two ops.Mov 32 (Reg 1 32) (Reg 0 32)) 0 ≡ 5
half_cleared = refl

-- push %rsp stores the old pointer, 0x8000
push_old_high : byte_after (one ops.Push 64 (Reg 4 64)) 0x7ff9 ≡ 0x80
push_old_high = refl

-- pop at the entry faults: the return slot is no declared byte
pop_slot_faults : end_by (one ops.Pop 64 (Reg 1 64)) ≡ Faulted 1
pop_slot_faults = refl

-- push rcx, pop rdx, ret
popped_returns : end_of (step_of (one ops.Push 64 (Reg 1 64) ∷ one ops.Pop 64 (Reg 2 64) ∷ none ops.Ret 64 ∷ []) []) start 5 ≡ Returned 3
popped_returns = refl

-- cmov with an unset flag, before the fault of its memory operand
unset_before_fault : end_by (two (ops.Cmov conds.E) 64 (Mem (Some 1) None 1 (pos 0)) (Reg 0 64)) ≡ Unset 1
unset_before_fault = refl

-- cmp, then cmov of 32 bits that does not move: clears the upper half
not_moved_cleared : slice_index (run_of (step_of (two ops.Cmp 64 (Reg 1 64) (Reg 0 64) ∷ two (ops.Cmov conds.E) 32 (Reg 1 32) (Reg 0 32) ∷ []) []) start 2).0.regs 0 ≡ 0xffffffff
unfolding flags_after
not_moved_cleared = refl

compared_flags : (run_of (step_of (two ops.Cmp 64 (Reg 1 64) (Reg 0 64) ∷ []) []) start 1).0.flags ≡ record { cf = Some false; pf = Some true; zf = Some false; sf = Some true; of = Some false }
unfolding flags_after
compared_flags = refl

-- a region that may be read alone: a write faults, and a read past its end
read_only_faults : end_by (two ops.Add 64 (Reg 1 64) (Mem (Some 3) None 1 (pos 0))) ≡ Faulted 1
read_only_faults = refl

end_faults : end_by (two ops.Mov 64 (Mem (Some 3) None 1 (pos 1)) (Reg 0 64)) ≡ Faulted 1
end_faults = refl

-- lea reaches anywhere, and is cut to 32 bits
lea_cut : reg_after (two ops.Lea 32 (Mem (Some 0) (Some 1) 4 (negsuc 0)) (Reg 2 32)) 2 ≡ 18
lea_cut = refl

-- imul of three
three_operands : reg_after (record { op = ops.Imul; w = 32; vex = false; args = Imm 0xfffffffffffffffd ∷ Reg 1 32 ∷ Reg 0 32 ∷ Nothing ∷ []; line = 1 }) 0 ≡ 0xfffffff1
three_operands = refl

-- an address is one modulo 2^64
address_wraps : byte_after (two ops.Mov 8 (Imm 7) (Mem (Some 2) None 1 (pos 0))) (0x100 + 2 ^ 64) ≡ 7
address_wraps = refl
