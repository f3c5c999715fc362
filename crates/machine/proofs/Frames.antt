-- What a step leaves as it was, and what a run does.
use Rattle.std.proofs.Common.{◌≡◌, ◌⊎◌, inl, inr, ℕ, ◌+◌, ◌-◌, ◌/◌, ◌%◌, ◌^◌, ◌<◌, ◌≤◌, Bool, true, false, not, ◌&&◌, ◌||◌, nat_lt, List, [], ◌∷◌, length, take, slice_index, Option, refl, sym, ◌∙◌, ap, subst, arith}
use Rattle.std.specs.List.{list_all, list_any}
use Rattle.std.proofs.lemmas.Bool.{and_from, and_parts, cond_both, lt-ltb, ltb-false, ltb-true, not-true, or_cases, or_left, or_right}
use Rattle.insn_ops.specs.declared.op.Flags.{Flags}
use Rattle.insn_ops.specs.declared.op.Op.{Op}
use Rattle.insn_ops.specs.declared.op.Op.TheVariants as ops
use Rattle.std.proofs.lemmas.List.{length-take}
use Rattle.insn_table.specs.declared.insn.Insn.{Insn}
use Rattle.insn_table.specs.declared.insn.Operand.{Operand}
use Rattle.insn_table.specs.declared.insn.Operand.TheVariants.{Reg, Imm, Mem, Vec, Pool, Target, Nothing}
use Rattle.insn_table.specs.Classes.{is_addressed}
use Rattle.insn_table.specs.Closed.{IsClosed}
use Rattle.insn_table.specs.Table.{IsTableInsn}
use Rattle.insn_semantics.specs.Words.{bit}
use Rattle.machine.specs.declared.operands.Family.{Family}
use Rattle.machine.specs.declared.operands.Family.TheVariants.{Address, Computing, Branch, Choice, Clearing, Idle, Jump, OnVectors, Popping, Pushing, Return, Setting}
use Rattle.machine.specs.Access.{Access, access_of, accesses, allows, allows_by, are_aligned, holds_access, is_allowed, is_on_stack, stack_pointer, target_width, writes}
use Rattle.machine.specs.Family.{family_of}
use Rattle.machine.specs.Frame.{IsWritable, SameFrame, SameUnwritable, has_address, is_writable}
use Rattle.machine.specs.Machine.{Machine, stack_base}
use Rattle.memory_spans.specs.Memory.{offset_from, with_bytes, with_word}
use Rattle.machine.specs.Vectors.{after_vectors, last_operand, vector_result, with_vector}
use Rattle.machine.specs.Operands.{effective_address, operand, with_value}
use Rattle.runs.specs.Run.{Step, Goes, run_of}
use Rattle.runs.proofs.Guarding.{guarded-goes}
use Rattle.machine.specs.Runnable.{IsGeneralRegister}
use Rattle.machine.specs.Step.{after_change, after_row, allows_at, allows_step, at_place, free_step, register_number, result_of, step_of, target_operand, with_result}
use Rattle.machine.proofs.Families.{free-goes}
use Rattle.memory_spans.specs.declared.region.Region.{Region}
use Rattle.runs.proofs.Runs.{run_keeps}
use Rattle.machine.proofs.VectorFamilies.{IsOfWords, vectors_write, words_of, words_width}
use Rattle.machine.proofs.Writing.{row_allowed, written_allowed}
use Rattle.machine.proofs.Closed.{lea_register}
use Rattle.memory_spans.proofs.MemoryWords.{with_word-if, written_past}

-- the frame

-- registers, flags, vectors, memory and place are no part of the frame
frame_with : {s : Machine} {regs : List ℕ} {flags : Flags} {vecs : List (List ℕ)} {memory : ℕ → ℕ} {place : ℕ}
    → SameFrame s (record s { regs = regs; flags = flags; vecs = vecs; memory = memory; place = place })
frame_with = record { entry = refl; regions = refl; stack = refl }

frame-joined : (s t u : Machine) → SameFrame s t → SameFrame t u → SameFrame s u
frame-joined s t u f g = record {
  entry = g.entry ∙ f.entry;
  regions = g.regions ∙ f.regions;
  stack = g.stack ∙ f.stack;
}

write-frame : (w : ℕ) (s : Machine) (o : Operand) (word : ℕ) → SameFrame s (with_value w s o word)
write-frame w s (Reg n width) word = frame_with
write-frame w s (Mem base index scale disp) word = frame_with
write-frame w s _ word = frame_with

row-frame : (pool : List ℕ) (i : Insn) (s : Machine) (cond : ℕ) → SameFrame s (after_row pool i s cond)
row-frame pool i s cond =
    frame-joined s (with_result pool i s cond) (after_row pool i s cond)
    (cond_both (writes i.op) (with_value i.w s (target_operand i.op i) (result_of pool i s cond)) s (SameFrame s)
    (λ writing. write-frame i.w s (target_operand i.op i) (result_of pool i s cond))
    (λ reading. frame_with))
    frame_with

vector-frame : (vex : Bool) (n : ℕ) (s : Machine) (o : Operand) (new : List ℕ) → SameFrame s (with_vector vex n s o new)
vector-frame vex n s (Vec r v) new = frame_with
vector-frame vex n s (Reg r v) new = frame_with
vector-frame vex n s (Mem base index scale disp) new = frame_with
vector-frame vex n s _ new = frame_with

vectors-frame : (op : Op) (pool : List ℕ) (i : Insn) (s : Machine) → SameFrame s (after_vectors op pool i s)
vectors-frame (ops.Vector op) pool i s = vector-frame i.vex (target_width i.op i.w / 8) s (last_operand i) (vector_result pool op i s)
vectors-frame _ pool i s = frame_with

change-frame : (kind : Family) (pool : List ℕ) (i : Insn) (s : Machine) (holds : Bool) → SameFrame s (after_change kind pool i s holds)
change-frame Pushing pool i s holds = frame_with
change-frame Popping pool i s holds = frame_with
change-frame Branch pool i s holds = frame_with
change-frame Jump pool i s holds = frame_with
change-frame Return pool i s holds = frame_with
change-frame Idle pool i s holds = frame_with
change-frame OnVectors pool i s holds = vectors-frame i.op pool i s
change-frame Clearing pool i s holds = frame_with
change-frame Choice pool i s holds = row-frame pool i s (bit holds)
change-frame Setting pool i s holds = row-frame pool i s (bit holds)
change-frame _ pool i s holds = row-frame pool i s 0

-- A free step changes registers, flags, vectors, memory and place alone,
pub free_frame : (insns : List Insn) (pool : List ℕ) (s t : Machine) → free_step insns pool s ≡ Goes t → SameFrame s t
free_frame insns pool s t h =
    let by = free-goes insns pool s t h in
    let after = after_change (family_of by.insn.op) pool by.insn s by.holds in
    subst (SameFrame s) by.is (frame-joined s after (at_place after by.place) (change-frame (family_of by.insn.op) pool by.insn s by.holds) frame_with)

-- and so does a step.
pub step_frame : (insns : List Insn) (pool : List ℕ) (s t : Machine) → step_of insns pool s ≡ Goes t → SameFrame s t
step_frame insns pool s t h = free_frame insns pool s t (guarded-goes (allows_step insns) (free_step insns pool) s t h).1

-- the memory

-- an address in an access of n bytes lies where the access lies
inside : (c at n len x : ℕ) → at ≤ 2 ^ 64 → n ≤ len → (at + c) % 2 ^ 64 ≤ len - n → (x + (2 ^ 64 - at)) % 2 ^ 64 < n → (x + c) % 2 ^ 64 < len
inside c at n len x below fits h k = omega arith

tests-inside : (c at n len x : ℕ) → at ≤ 2 ^ 64
    → (not (nat_lt len n) && not (nat_lt (len - n) ((at + c) % 2 ^ 64))) ≡ true → nat_lt ((x + (2 ^ 64 - at)) % 2 ^ 64) n ≡ true
    → nat_lt ((x + c) % 2 ^ 64) len ≡ true
tests-inside c at n len x below h k =
    let parts = and_parts (not (nat_lt len n)) (not (nat_lt (len - n) ((at + c) % 2 ^ 64))) h in
    let fits : n ≤ len = ltb-false len n (not-true (nat_lt len n) parts.0) in
    let from : (at + c) % 2 ^ 64 ≤ len - n = ltb-false (len - n) ((at + c) % 2 ^ 64) (not-true (nat_lt (len - n) ((at + c) % 2 ^ 64)) parts.1) in
    let near : (x + (2 ^ 64 - at)) % 2 ^ 64 < n = ltb-true ((x + (2 ^ 64 - at)) % 2 ^ 64) n k in
    lt-ltb ((x + c) % 2 ^ 64) len (inside c at n len x below fits from near)

-- some bytes that are written
abbrev written_from : ℕ → ℕ → Access
written_from at n = record { at = at; bytes = n; write = true }

-- what may be written by an access lies in a region that may be written
region-writable : (rs : List Region) (at n x : ℕ) → at ≤ 2 ^ 64
    → list_any (λ r. (not true || r.write) && holds_access r (written_from at n)) rs ≡ true → nat_lt (offset_from at x) n ≡ true
    → list_any (λ r. r.write && has_address x r) rs ≡ true
region-writable [] at n x below h k = h
region-writable (r ∷ rs) at n x below h k =
    elim (or_cases (r.write && holds_access r (written_from at n)) (list_any (λ q. (not true || q.write) && holds_access q (written_from at n)) rs) h) [
      | inl here ↦
          let parts = and_parts r.write (holds_access r (written_from at n)) here in
          or_left (r.write && has_address x r) (list_any (λ q. q.write && has_address x q) rs)
          (and_from r.write (has_address x r) parts.0 (tests-inside (2 ^ 64 - r.base) at n r.len x below parts.1 k))
      | inr there ↦
          or_right (r.write && has_address x r) (list_any (λ q. q.write && has_address x q) rs) (region-writable rs at n x below there k)
    ]

-- a word that is written where each of its bytes may be written
word-kept : (s : Machine) (at n word x : ℕ) → (nat_lt (offset_from at x) n ≡ true → IsWritable s x)
    → (with_word s.memory at n word x ≡ s.memory x) ⊎ IsWritable s x
word-kept s at n word x h =
    rw (with_word-if s.memory at n word x)
    (cond_both (nat_lt (offset_from at x) n) (word / 256 ^ offset_from at x % 256) (s.memory x) (λ (b : ℕ). (b ≡ s.memory x) ⊎ IsWritable s x)
    (λ near. inr (h near))
    (λ far. inl refl))

-- a write whose access is allowed
write-kept : (w : ℕ) (s : Machine) (o : Operand) (word : ℕ) → list_all (is_allowed s) (access_of s o w true) ≡ true → SameUnwritable s (with_value w s o word)
write-kept w s (Mem base index scale disp) word h = λ x.
    let at = effective_address s.regs base index scale disp in
    let below : at ≤ 2 ^ 64 = omega arith in
    let holds = (and_parts (is_allowed s (written_from at (w / 8))) true h).0 in
    word-kept s at (w / 8) word x
    (λ k.
    or_left (list_any (λ r. r.write && has_address x r) s.regions) (nat_lt (offset_from (stack_base s) x) s.stack)
    (region-writable s.regions at (w / 8) x below holds k))
write-kept w s (Reg n width) word h = λ x. inl refl
write-kept w s (Imm v) word h = λ x. inl refl
write-kept w s (Vec n width) word h = λ x. inl refl
write-kept w s (Pool n) word h = λ x. inl refl
write-kept w s (Target n) word h = λ x. inl refl
write-kept w s Nothing word h = λ x. inl refl

-- bytes that are written, at most n, where each of n bytes may be written
bytes-kept : (s : Machine) (at n x : ℕ) (bytes : List ℕ) → length bytes ≤ n → (nat_lt (offset_from at x) n ≡ true → IsWritable s x)
    → (with_bytes s.memory at bytes x ≡ s.memory x) ⊎ IsWritable s x
bytes-kept s at n x bytes few h = elim (nat_lt (offset_from at x) n) as (λ v. nat_lt (offset_from at x) n ≡ v → (with_bytes s.memory at bytes x ≡ s.memory x) ⊎ IsWritable s x) [
  | true ↦ (λ near. inr (h near))
  | false ↦ (λ far. let past : n ≤ offset_from at x = ltb-false (offset_from at x) n far in inl (written_past s.memory at bytes x (omega (arith, few, past))))
] refl

-- what is written to memory of a vector, where the access is allowed
vector-kept : (vex : Bool) (w : ℕ) (s : Machine) (o : Operand) (new : List ℕ) → list_all (is_allowed s) (access_of s o w true) ≡ true
    → SameUnwritable s (with_vector vex (w / 8) s o new)
vector-kept vex w s (Mem base index scale disp) new h = λ x.
    let at = effective_address s.regs base index scale disp in
    let below : at ≤ 2 ^ 64 = omega arith in
    let holds = (and_parts (is_allowed s (written_from at (w / 8))) true h).0 in
    let few : length (take (w / 8) new) ≤ w / 8 = omega (arith, length-take (w / 8) new) in
    bytes-kept s at (w / 8) x (take (w / 8) new) few
    (λ k.
    or_left (list_any (λ r. r.write && has_address x r) s.regions) (nat_lt (offset_from (stack_base s) x) s.stack)
    (region-writable s.regions at (w / 8) x below holds k))
vector-kept vex w s (Reg n width) new h = λ x. inl refl
vector-kept vex w s (Imm v) new h = λ x. inl refl
vector-kept vex w s (Vec n width) new h = λ x. inl refl
vector-kept vex w s (Pool n) new h = λ x. inl refl
vector-kept vex w s (Target n) new h = λ x. inl refl
vector-kept vex w s Nothing new h = λ x. inl refl

vectors-kept : (op : Op) (pool : List ℕ) (i : Insn) (s : Machine) → list_all (is_allowed s) (access_of s (last_operand i) (target_width i.op i.w) true) ≡ true
    → SameUnwritable s (after_vectors op pool i s)
vectors-kept (ops.Vector op) pool i s h = vector-kept i.vex (target_width i.op i.w) s (last_operand i) (vector_result pool op i s) h
vectors-kept _ pool i s h = λ x. inl refl

-- What an instruction writes is tested: `lea` makes no access, so its target is no memory.
abbrev IsTested : Insn → Type 0
IsTested i = i.op ≡ ops.Lea → is_addressed (target_operand ops.Lea i) ≡ false

register-not_addressed : (o : Operand) → IsGeneralRegister o → is_addressed o ≡ false
register-not_addressed (Reg n w) is = refl
register-not_addressed _ is = absurd is

table-tested : (i : Insn) → IsTableInsn i → IsTested i
table-tested i t e = register-not_addressed (target_operand ops.Lea i) (lea_register i t e)

row-kept : (pool : List ℕ) (i : Insn) (s : Machine) (cond : ℕ) → IsOfWords (family_of i.op) → IsTested i → list_all (is_allowed s) (accesses (family_of i.op) i s) ≡ true
    → SameUnwritable s (after_row pool i s cond)
row-kept pool i s cond words lea h =
    cond_both (writes i.op) (with_value i.w s (target_operand i.op i) (result_of pool i s cond)) s (SameUnwritable s)
    (λ writing. write-kept i.w s (target_operand i.op i) (result_of pool i s cond) (row_allowed i.op i s writing (words_width i.op i.w words) words lea h))
    (λ reading x. inl refl)

push-kept : (s : Machine) (word : ℕ) → is_on_stack s (offset_from 8 (stack_pointer s)) ≡ true
    → (x : ℕ) → (with_word s.memory (offset_from 8 (stack_pointer s)) 8 word x ≡ s.memory x) ⊎ IsWritable s x
push-kept s word h x =
    let at = offset_from 8 (stack_pointer s) in
    let below : at ≤ 2 ^ 64 = omega arith in
    word-kept s at 8 word x
    (λ k.
    or_right (list_any (λ r. r.write && has_address x r) s.regions) (nat_lt (offset_from (stack_base s) x) s.stack)
    (tests-inside (2 ^ 64 - stack_base s) at 8 s.stack x below h k))

changed-kept : (kind : Family) (pool : List ℕ) (i : Insn) (s : Machine) (holds : Bool) → family_of i.op ≡ kind → IsTested i → allows_by kind i s ≡ true
    → SameUnwritable s (after_change kind pool i s holds)
changed-kept Pushing pool i s holds f lea h = push-kept s (slice_index s.regs (register_number (operand i 0))) h
changed-kept Popping pool i s holds f lea h = λ x. inl refl
changed-kept Branch pool i s holds f lea h = λ x. inl refl
changed-kept Jump pool i s holds f lea h = λ x. inl refl
changed-kept Return pool i s holds f lea h = λ x. inl refl
changed-kept Idle pool i s holds f lea h = λ x. inl refl
changed-kept Clearing pool i s holds f lea h = λ x. inl refl
changed-kept OnVectors pool i s holds f lea h =
    vectors-kept i.op pool i s (written_allowed i s (vectors_write i.op f) (and_parts (list_all (is_allowed s) (accesses OnVectors i s)) (are_aligned i s) h).0)
changed-kept Choice pool i s holds f lea h = row-kept pool i s (bit holds) (words_of i Choice f tt) lea (rw f h)
changed-kept Setting pool i s holds f lea h = row-kept pool i s (bit holds) (words_of i Setting f tt) lea (rw f h)
changed-kept Computing pool i s holds f lea h = row-kept pool i s 0 (words_of i Computing f tt) lea (rw f h)
changed-kept Address pool i s holds f lea h = row-kept pool i s 0 (words_of i Address f tt) lea (rw f h)

-- Where its tests hold, a free step writes no byte but in a region that may be written and among the declared stack bytes,
pub free_memory : (insns : List Insn) (pool : List ℕ) (s t : Machine) → IsClosed insns → allows_step insns s ≡ true → free_step insns pool s ≡ Goes t
    → SameUnwritable s t
free_memory insns pool s t closed holds h =
    let by = free-goes insns pool s t h in
    let allowed : allows by.insn s ≡ true = ap (λ (o : Option Insn). allows_at o s) (sym by.there) ∙ holds in
    subst (SameUnwritable s) by.is
    (changed-kept (family_of by.insn.op) pool by.insn s by.holds refl (table-tested by.insn (closed.each s.place by.insn by.there)) allowed)

-- and so does a step.
pub step_memory : (insns : List Insn) (pool : List ℕ) (s t : Machine) → IsClosed insns → step_of insns pool s ≡ Goes t → SameUnwritable s t
step_memory insns pool s t closed h =
    let goes = guarded-goes (allows_step insns) (free_step insns pool) s t h in free_memory insns pool s t closed goes.0 goes.1

-- runs

-- what may be written is the same where the frame is
pub same_writable : (s t : Machine) → SameFrame s t → (x : ℕ) → is_writable t x ≡ is_writable s x
same_writable s t f x = λ j.
    list_any (λ r. r.write && has_address x r) (f.regions j)
    || nat_lt (offset_from (offset_from (f.stack j) (slice_index (f.entry j) 4)) x) (f.stack j)

memory-joined : (s t u : Machine) → SameFrame s t → SameUnwritable s t → SameUnwritable t u → SameUnwritable s u
memory-joined s t u f g h x =
    elim (h x) [
      | inl later ↦ elim (g x) [ inl before ↦ inl (later ∙ before) | inr writable ↦ inr writable ]
      | inr writable ↦ inr (sym (same_writable s t f x) ∙ writable)
    ]

-- what each step keeps of the frame, a run keeps
runs_keep_frame : (step : Machine → Step Machine) → ((s t : Machine) → step s ≡ Goes t → SameFrame s t) → (s : Machine) (n : ℕ)
    → SameFrame s (run_of step s n).0
runs_keep_frame step each s n = run_keeps step SameFrame (λ t. frame_with) frame-joined each s n

-- A run leaves the frame as it was,
pub run_frame : (insns : List Insn) (pool : List ℕ) (s : Machine) (n : ℕ) → SameFrame s (run_of (step_of insns pool) s n).0
run_frame insns pool = runs_keep_frame (step_of insns pool) (step_frame insns pool)

-- and so does a free run.
pub free_run_frame : (insns : List Insn) (pool : List ℕ) (s : Machine) (n : ℕ) → SameFrame s (run_of (free_step insns pool) s n).0
free_run_frame insns pool = runs_keep_frame (free_step insns pool) (free_frame insns pool)

-- A run leaves each byte that may not be written.
pub run_memory : (insns : List Insn) (pool : List ℕ) → IsClosed insns → (s : Machine) (n : ℕ) → SameUnwritable s (run_of (step_of insns pool) s n).0
run_memory insns pool closed s n =
    (run_keeps (step_of insns pool) (λ t u. SameFrame t u × SameUnwritable t u)
    (λ t. (frame_with, λ x. inl refl))
    (λ t u v f g. (frame-joined t u v f.0 g.0, memory-joined t u v f.0 f.1 g.1))
    (λ t u h. (step_frame insns pool t u h, step_memory insns pool t u closed h))
    s
    n).1
