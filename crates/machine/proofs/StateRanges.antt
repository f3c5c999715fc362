-- A step keeps each value of a state in its range.
use Rattle.std.proofs.Common.{◌≡◌, ℕ, zero, suc, ◌/◌, ◌%◌, ◌^◌, ◌<◌, nat_lt, Bool, true, false, inl, inr, List, length, slice_index, slice_set, refl, sym, ◌∙◌, subst, arith, lit<}
use Rattle.std.proofs.Math.Nat.{pow-suc}
use Rattle.std.proofs.lemmas.Bool.{cond_both}
use Rattle.std.proofs.lemmas.Nat.{mod_below, pow_pos}
use Rattle.insn_ops.specs.declared.op.Op.{Op}
use Rattle.insn_ops.specs.declared.op.Op.TheVariants as ops
use Rattle.insn_table.specs.Table.{HasRegisters}
use Rattle.insn_table.specs.declared.insn.Insn.{Insn}
use Rattle.insn_table.specs.declared.insn.Operand.{Operand}
use Rattle.insn_table.specs.declared.insn.Operand.TheVariants.{Reg, Imm, Mem, Vec, Pool, Target, Nothing}
use Rattle.insn_semantics.specs.Exprs.{value}
use Rattle.insn_semantics.specs.Rows.{computed, row_expr}
use Rattle.insn_semantics.specs.Words.{bit}
use Rattle.insn_semantics.proofs.WordLaws.{computed_below}
use Rattle.machine.specs.declared.operands.Family.{Family}
use Rattle.machine.specs.declared.operands.Family.TheVariants.{Computing, OnVectors, Clearing, Address, Choice, Setting, Branch, Jump, Pushing, Popping, Return, Idle}
use Rattle.machine.specs.Access.{source_width, stack_pointer, writes}
use Rattle.machine.specs.Family.{family_of}
use Rattle.machine.specs.Machine.{IsState, Machine}
use Rattle.memory_spans.specs.Memory.{address_plus, offset_from, with_word, word_at}
use Rattle.machine.specs.Operands.{effective_address, register_after, operand, value_of, with_value}
use Rattle.runs.specs.Run.{Step, Goes, run_of}
use Rattle.runs.proofs.Guarding.{guarded-goes}
use Rattle.machine.specs.Runnable.{HasWidth, IsRunnable, IsRunnableFunction, IsWidth}
use Rattle.machine.specs.Step.{after_row, allows_step, after_change, free_step, destination_operand, destination_value, register_number, result_of, operand_leaves, source_operand, source_value, step_of, target_operand}
use Rattle.memory_spans.proofs.Bytewise.{byte_in_front}
use Rattle.machine.proofs.Families.{free-goes}
use Rattle.machine.proofs.Keeping.{set_regs}
use Rattle.memory_spans.proofs.MemoryWords.{with_word-if, word_at-suc}
use Rattle.machine.proofs.RowValues.{address_result, choice_result, choice_source, computes, row_computes, setting_result, source_is_width, source_read}
use Rattle.runs.proofs.Runs.{run_keeps}
use Rattle.machine.proofs.Targets.{target_numbers}
use Rattle.machine.proofs.VectorFamilies.{no_vectors}
use Rattle.machine.proofs.VectorRanges.{cleared_ranged, vectors_ranged}

-- each of a pool is a byte
abbrev IsPool : List ℕ → Type 0
IsPool pool = (at : ℕ) → slice_index pool at < 256

word_below : (m : ℕ → ℕ) (at n : ℕ) → ((x : ℕ) → m x < 256) → word_at m at n < 256 ^ n
word_below m at zero h = lit< tt
word_below m at (suc n) h =
    rw (word_at-suc m at n, pow-suc 256 n) (byte_in_front (word_at m at n) (m (address_plus at n)) (256 ^ n) (word_below m at n h) (h (address_plus at n)))

-- as many bytes as the bits of a width
bytes_of_width : (w : ℕ) → IsWidth w → 256 ^ (w / 8) ≡ 2 ^ w
bytes_of_width w (inl e) = rw e refl
bytes_of_width w (inr (inl e)) = rw e refl
bytes_of_width w (inr (inr (inl e))) = rw e refl
bytes_of_width w (inr (inr (inr e))) = rw e refl

value_below : (pool : List ℕ) (w : ℕ) (s : Machine) (o : Operand) → IsWidth w → IsPool pool → IsState s → value_of pool w s o < 2 ^ w
value_below pool w s (Reg n width) h bytes state = mod_below (slice_index s.regs n) (2 ^ w) (pow_pos w)
value_below pool w s (Imm v) h bytes state = mod_below v (2 ^ w) (pow_pos w)
value_below pool w s (Mem base index scale disp) h bytes state =
    subst (λ (p : ℕ). word_at s.memory (effective_address s.regs base index scale disp) (w / 8) < p) (bytes_of_width w h)
    (word_below s.memory (effective_address s.regs base index scale disp) (w / 8) state.memory)
value_below pool w s (Pool n) h bytes state =
    subst (λ (p : ℕ). word_at (λ at. slice_index pool at) n (w / 8) < p) (bytes_of_width w h) (word_below (λ at. slice_index pool at) n (w / 8) bytes)
value_below pool w s (Vec n width) h bytes state = pow_pos w
value_below pool w s (Target n) h bytes state = pow_pos w
value_below pool w s Nothing h bytes state = pow_pos w

merged_at : (w v old word : ℕ) → w ≡ v → (word < 2 ^ v → register_after v old word < 2 ^ 64) → word < 2 ^ w → register_after w old word < 2 ^ 64
merged_at w v old word e h k = subst (λ (u : ℕ). word < 2 ^ u → register_after u old word < 2 ^ 64) (sym e) h k

merged_below : (w old word : ℕ) → IsWidth w → old < 2 ^ 64 → word < 2 ^ w → register_after w old word < 2 ^ 64
merged_below w old word (inl e) h k = merged_at w 8 old word e (λ small. omega arith) k
merged_below w old word (inr (inl e)) h k = merged_at w 16 old word e (λ small. omega arith) k
merged_below w old word (inr (inr (inl e))) h k = merged_at w 32 old word e (λ small. omega arith) k
merged_below w old word (inr (inr (inr e))) h k = merged_at w 64 old word e (λ small. omega arith) k

memory_below : (m : ℕ → ℕ) (at n word x : ℕ) → ((y : ℕ) → m y < 256) → with_word m at n word x < 256
memory_below m at n word x h =
    rw (with_word-if m at n word x)
    (cond_both (nat_lt (offset_from at x) n) (word / 256 ^ offset_from at x % 256) (m x) (λ (b : ℕ). b < 256)
    (λ near. mod_below (word / 256 ^ offset_from at x) 256 (lit< tt))
    (λ far. h x))

write_ranged : (w : ℕ) (s : Machine) (o : Operand) (word : ℕ) → IsWidth w → HasRegisters o → word < 2 ^ w → IsState s → IsState (with_value w s o word)
write_ranged w s (Reg n width) word h low small state = record {
  regs = set_regs s.regs n (register_after w (slice_index s.regs n) word) low (merged_below w (slice_index s.regs n) word h (state.regs.below n) small) state.regs;
  entry = state.entry;
  vecs = state.vecs;
  memory = state.memory;
}
write_ranged w s (Mem base index scale disp) word h low small state = record {
  regs = state.regs;
  entry = state.entry;
  vecs = state.vecs;
  memory = λ x. memory_below s.memory (effective_address s.regs base index scale disp) (w / 8) word x state.memory;
}
write_ranged w s (Imm v) word h low small state = state
write_ranged w s (Vec n width) word h low small state = state
write_ranged w s (Pool n) word h low small state = state
write_ranged w s (Target n) word h low small state = state
write_ranged w s Nothing word h low small state = state

-- an instruction of a family on words has the width of a word
width_in : (i : Insn) (kind : Family) (n : ℕ) → family_of i.op ≡ kind → IsRunnable n i → HasWidth kind i.w
width_in i kind n f r = subst (λ (k : Family). HasWidth k i.w) f r.width

-- a row whose result has its width
row_ranged : (pool : List ℕ) (n : ℕ) (i : Insn) (s : Machine) (cond : ℕ) → IsWidth i.w → IsRunnable n i → result_of pool i s cond < 2 ^ i.w → IsState s
    → IsState (after_row pool i s cond)
row_ranged pool n i s cond width r small state =
    let t = cond_both (writes i.op) (with_value i.w s (target_operand i.op i) (result_of pool i s cond)) s IsState
    (λ writing. write_ranged i.w s (target_operand i.op i) (result_of pool i s cond) width (target_numbers i.op i r.numbers) small state)
    (λ reading. state)
    in
    record { regs = t.regs; entry = t.entry; vecs = t.vecs; memory = t.memory }

-- what a row computes has its width
computed_result : (pool : List ℕ) (n : ℕ) (i : Insn) (s : Machine) → family_of i.op ≡ Computing → IsRunnable n i → IsPool pool → IsState s
    → result_of pool i s 0 < 2 ^ i.w
computed_result pool n i s f r bytes state =
    let width : IsWidth i.w = width_in i Computing n f r in
    let a = destination_value pool i s in
    let b = value_of pool (source_width i.op i.w) s (source_operand i.op i) in
    let low : a < 2 ^ i.w = value_below pool i.w s (destination_operand i.op i) width bytes state in
    let high : b < 2 ^ source_width i.op i.w = value_below pool (source_width i.op i.w) s (source_operand i.op i) (source_is_width i.op i width r.row) bytes state in
    let small : computed i.op i.w a b < 2 ^ i.w = computed_below i.op i.w a b (row_computes pool i.op i s a b f width r.row low high refl) in
    let same : computed i.op i.w a b ≡ result_of pool i s 0 = sym (computes i.op i.w 0 a b f) ∙ (λ j. value (operand_leaves a (sym (source_read pool i.op i s f) j) 0) (row_expr i.op i.w (sym (source_read pool i.op i s f) j))) in
    subst (λ (x : ℕ). x < 2 ^ i.w) same small

address_below : (pool : List ℕ) (i : Insn) (s : Machine) → family_of i.op ≡ Address → result_of pool i s 0 < 2 ^ i.w
address_below pool i s f =
    subst (λ (x : ℕ). x < 2 ^ i.w) (sym (address_result i.op i.w (destination_value pool i s) (source_value pool i.op i s) f))
    (mod_below (source_value pool i.op i s) (2 ^ i.w) (pow_pos i.w))

choice_width : (op : Op) (w : ℕ) → family_of op ≡ Choice → source_width op w ≡ w
choice_width (ops.Cmov c) w f = refl
choice_width (ops.Vector op) w f = absurd (no_vectors op Choice tt f)
choice_width _ w f = cc

choice_below : (pool : List ℕ) (n : ℕ) (i : Insn) (s : Machine) (holds : Bool) → family_of i.op ≡ Choice → IsRunnable n i → IsPool pool → IsState s
    → result_of pool i s (bit holds) < 2 ^ i.w
choice_below pool n i s holds f r bytes state =
    let width : IsWidth i.w = width_in i Choice n f r in
    let b = source_value pool i.op i s in
    let high : b < 2 ^ i.w = subst (λ (x : ℕ). x < 2 ^ i.w) (sym (choice_source pool i.op i s f))
    (subst (λ (w : ℕ). value_of pool (source_width i.op i.w) s (source_operand i.op i) < 2 ^ w) (choice_width i.op i.w f)
    (value_below pool (source_width i.op i.w) s (source_operand i.op i) (source_is_width i.op i width r.row) bytes state)) in
    subst (λ (x : ℕ). x < 2 ^ i.w) (sym (choice_result i.op i.w (destination_value pool i s) b holds f))
    (cond_both holds b (destination_value pool i s) (λ (x : ℕ). x < 2 ^ i.w) (λ moving. high)
    (λ staying. value_below pool i.w s (destination_operand i.op i) width bytes state))

bit_small : (b : Bool) → bit b < 2
bit_small true = lit< tt
bit_small false = lit< tt

bit_below : (b : Bool) (w : ℕ) → IsWidth w → bit b < 2 ^ w
bit_below b w (inl e) = rw e (omega (arith, bit_small b))
bit_below b w (inr (inl e)) = rw e (omega (arith, bit_small b))
bit_below b w (inr (inr (inl e))) = rw e (omega (arith, bit_small b))
bit_below b w (inr (inr (inr e))) = rw e (omega (arith, bit_small b))

setting_below : (pool : List ℕ) (i : Insn) (s : Machine) (holds : Bool) → family_of i.op ≡ Setting → IsWidth i.w → result_of pool i s (bit holds) < 2 ^ i.w
setting_below pool i s holds f w =
    subst (λ (x : ℕ). x < 2 ^ i.w) (sym (setting_result i.op i.w (destination_value pool i s) (source_value pool i.op i s) holds f)) (bit_below holds i.w w)

number_below : (o : Operand) → HasRegisters o → register_number o < 16
number_below (Reg n w) h = h
number_below _ h = lit< tt

changed_ranged : (kind : Family) (pool : List ℕ) (n : ℕ) (i : Insn) (s : Machine) (holds : Bool) → family_of i.op ≡ kind → IsRunnable n i → IsPool pool → IsState s
    → IsState (after_change kind pool i s holds)
changed_ranged Computing pool n i s holds f r bytes state = row_ranged pool n i s 0 (width_in i Computing n f r) r (computed_result pool n i s f r bytes state) state
changed_ranged Address pool n i s holds f r bytes state = row_ranged pool n i s 0 (width_in i Address n f r) r (address_below pool i s f) state
changed_ranged Choice pool n i s holds f r bytes state = row_ranged pool n i s (bit holds) (width_in i Choice n f r) r (choice_below pool n i s holds f r bytes state) state
changed_ranged Setting pool n i s holds f r bytes state = row_ranged pool n i s (bit holds) (width_in i Setting n f r) r (setting_below pool i s holds f (width_in i Setting n f r)) state
changed_ranged OnVectors pool n i s holds f r bytes state = vectors_ranged i.op pool n i s refl f r state
changed_ranged Clearing pool n i s holds f r bytes state = cleared_ranged s state
changed_ranged Branch pool n i s holds f r bytes state = state
changed_ranged Jump pool n i s holds f r bytes state = state
changed_ranged Return pool n i s holds f r bytes state = state
changed_ranged Idle pool n i s holds f r bytes state = state
changed_ranged Pushing pool n i s holds f r bytes state = record {
  regs = set_regs s.regs 4 (offset_from 8 (stack_pointer s)) (lit< tt) (omega arith) state.regs;
  entry = state.entry;
  vecs = state.vecs;
  memory = λ x. memory_below s.memory (offset_from 8 (stack_pointer s)) 8 (slice_index s.regs (register_number (operand i 0))) x state.memory;
}
changed_ranged Popping pool n i s holds f r bytes state = record {
  regs = set_regs (slice_set s.regs 4 (address_plus (stack_pointer s) 8)) (register_number (operand i 0)) (word_at s.memory (stack_pointer s) 8)
      (number_below (operand i 0) (r.numbers 0)) (word_below s.memory (stack_pointer s) 8 state.memory)
      (set_regs s.regs 4 (address_plus (stack_pointer s) 8) (lit< tt) (omega arith) state.regs);
  entry = state.entry;
  vecs = state.vecs;
  memory = state.memory;
}

-- A free step keeps each value of a state in its range,
pub free_ranged : (insns : List Insn) (pool : List ℕ) (s t : Machine) → IsRunnableFunction insns → ((at : ℕ) → slice_index pool at < 256) → IsState s
    → free_step insns pool s ≡ Goes t → IsState t
free_ranged insns pool s t f bytes state h =
    let by = free-goes insns pool s t h in
    let after = changed_ranged (family_of by.insn.op) pool (length insns) by.insn s by.holds refl (f.each s.place by.insn by.there) bytes state in
    subst IsState by.is (record { regs = after.regs; entry = after.entry; vecs = after.vecs; memory = after.memory })

-- and so does a step.
pub step_ranged : (insns : List Insn) (pool : List ℕ) (s t : Machine) → IsRunnableFunction insns → ((at : ℕ) → slice_index pool at < 256) → IsState s
    → step_of insns pool s ≡ Goes t → IsState t
step_ranged insns pool s t f bytes state h = free_ranged insns pool s t f bytes state (guarded-goes (allows_step insns) (free_step insns pool) s t h).1

-- what each step keeps, a run keeps
runs_keep_state : (step : Machine → Step Machine) → ((s t : Machine) → IsState s → step s ≡ Goes t → IsState t) → (s : Machine) (n : ℕ) → IsState s
    → IsState (run_of step s n).0
runs_keep_state step each s n state = run_keeps step (λ t u. IsState t → IsState u) (λ t h. h) (λ t u v g h k. h (g k)) (λ t u h k. each t u k h) s n state

-- A run keeps each value of a state in its range,
pub run_ranged : (insns : List Insn) (pool : List ℕ) (s : Machine) (n : ℕ) → IsRunnableFunction insns → ((at : ℕ) → slice_index pool at < 256) → IsState s
    → IsState (run_of (step_of insns pool) s n).0
run_ranged insns pool s n f bytes state = runs_keep_state (step_of insns pool) (λ t u k h. step_ranged insns pool t u f bytes k h) s n state

-- and so does a free run.
pub free_run_ranged : (insns : List Insn) (pool : List ℕ) (s : Machine) (n : ℕ) → IsRunnableFunction insns → ((at : ℕ) → slice_index pool at < 256) → IsState s
    → IsState (run_of (free_step insns pool) s n).0
free_run_ranged insns pool s n f bytes state = runs_keep_state (free_step insns pool) (λ t u k h. free_ranged insns pool t u f bytes k h) s n state
