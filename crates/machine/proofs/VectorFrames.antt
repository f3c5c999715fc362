-- Which vectors a step and a run leave as they were.
use Rattle.std.proofs.Common.{◌≡◌, ◌≢◌, ℕ, zero, suc, Bool, true, false, ◌||◌, List, [], ◌∷◌, slice_get, slice_set, Some, refl, sym, ◌∙◌, ap, subst}
use Rattle.std.specs.List.{list_any}
use Rattle.std.proofs.lemmas.Bool.{cond_both, false≢true}
use Rattle.std.proofs.lemmas.Bool.Decides.{Decides-eqb}
use Rattle.insn_ops.specs.declared.op.Op.{Op}
use Rattle.insn_ops.specs.declared.op.Op.TheVariants as ops
use Rattle.insn_table.specs.declared.insn.Insn.{Insn}
use Rattle.insn_table.specs.declared.insn.Operand.{Operand}
use Rattle.insn_table.specs.declared.insn.Operand.TheVariants.{Reg, Mem, Vec}
use Rattle.insn_semantics.specs.Words.{bit}
use Rattle.machine.specs.declared.operands.Family.{Family}
use Rattle.machine.specs.declared.operands.Family.TheVariants.{Branch, Choice, Clearing, Idle, Jump, OnVectors, Popping, Pushing, Return, Setting}
use Rattle.machine.specs.Access.{writes}
use Rattle.machine.specs.Family.{family_of}
use Rattle.machine.specs.Frame.{SameVector, changes_vector, is_vector, writes_vector}
use Rattle.machine.specs.Machine.{Machine}
use Rattle.machine.specs.Operands.{with_value}
use Rattle.machine.specs.Step.{after_change, after_row, allows_step, free_step, result_of, step_of, target_operand}
use Rattle.machine.specs.Vectors.{after_vectors, last_operand, vector_result, with_vector}
use Rattle.machine.proofs.Families.{free-goes}
use Rattle.runs.specs.Run.{Step, Goes, run_of}
use Rattle.runs.proofs.Guarding.{guarded-goes}
use Rattle.runs.proofs.Runs.{run_keeps}

-- an item that is not the one that was set
other_stays : (vecs : List (List ℕ)) (r n : ℕ) (v : List ℕ) → r ≢ n → slice_get (slice_set vecs r v) n ≡ slice_get vecs n
other_stays [] r n v e = refl
other_stays (x ∷ xs) zero zero v e = absurd (e refl)
other_stays (x ∷ xs) zero (suc n) v e = refl
other_stays (x ∷ xs) (suc r) zero v e = refl
other_stays (x ∷ xs) (suc r) (suc n) v e = other_stays xs r n v (λ same. e (ap suc same))

write-vectors : (w : ℕ) (s : Machine) (o : Operand) (word : ℕ) → (with_value w s o word).vecs ≡ s.vecs
write-vectors w s (Reg n width) word = refl
write-vectors w s (Mem base index scale disp) word = refl
write-vectors w s _ word = refl

row-vectors : (pool : List ℕ) (i : Insn) (s : Machine) (cond n : ℕ) → SameVector n s (after_row pool i s cond)
row-vectors pool i s cond n =
    ap (λ (vecs : List (List ℕ)). slice_get vecs n)
    (cond_both (writes i.op) (with_value i.w s (target_operand i.op i) (result_of pool i s cond)) s (λ (t : Machine). t.vecs ≡ s.vecs)
    (λ writing. write-vectors i.w s (target_operand i.op i) (result_of pool i s cond))
    (λ reading. refl))

vector-vectors : (vex : Bool) (w n : ℕ) (s : Machine) (o : Operand) (new : List ℕ) → is_vector n o ≡ false → SameVector n s (with_vector vex w s o new)
vector-vectors vex w n s (Vec r v) new e = other_stays s.vecs r n _ (λ same. false≢true (sym e ∙ (Decides-eqb r n).1 same))
vector-vectors vex w n s (Reg r v) new e = refl
vector-vectors vex w n s (Mem base index scale disp) new e = refl
vector-vectors vex w n s _ new e = refl

vectors-vectors : (op : Op) (pool : List ℕ) (i : Insn) (s : Machine) (n : ℕ) → is_vector n (last_operand i) ≡ false → SameVector n s (after_vectors op pool i s)
vectors-vectors (ops.Vector op) pool i s n e = vector-vectors i.vex _ n s (last_operand i) (vector_result pool op i s) e
vectors-vectors _ pool i s n e = refl

change-vectors : (kind : Family) (pool : List ℕ) (i : Insn) (s : Machine) (holds : Bool) (n : ℕ) → changes_vector kind n i ≡ false
    → SameVector n s (after_change kind pool i s holds)
change-vectors Pushing pool i s holds n e = refl
change-vectors Popping pool i s holds n e = refl
change-vectors Branch pool i s holds n e = refl
change-vectors Jump pool i s holds n e = refl
change-vectors Return pool i s holds n e = refl
change-vectors Idle pool i s holds n e = refl
change-vectors OnVectors pool i s holds n e = vectors-vectors i.op pool i s n e
change-vectors Clearing pool i s holds n e = cc
change-vectors Choice pool i s holds n e = row-vectors pool i s (bit holds) n
change-vectors Setting pool i s holds n e = row-vectors pool i s (bit holds) n
change-vectors _ pool i s holds n e = row-vectors pool i s 0 n

-- the instruction at a state's place is one
same_insn : (insns : List Insn) (k : ℕ) (i j : Insn) → slice_get insns k ≡ Some i → slice_get insns k ≡ Some j → j ≡ i
same_insn insns k i j h g = let same : Some j ≡ Some i = sym g ∙ h in cc

-- A free step leaves each vector register that its instruction doesn't write,
pub free_vectors : (insns : List Insn) (pool : List ℕ) (s t : Machine) (i : Insn) (r : ℕ) → slice_get insns s.place ≡ Some i → writes_vector r i ≡ false
    → free_step insns pool s ≡ Goes t → SameVector r s t
free_vectors insns pool s t i r at keeps h =
    let by = free-goes insns pool s t h in
    let there : writes_vector r by.insn ≡ false = subst (λ (j : Insn). writes_vector r j ≡ false) (sym (same_insn insns s.place i by.insn at by.there)) keeps in
    let kept : SameVector r s (after_change (family_of by.insn.op) pool by.insn s by.holds) = change-vectors (family_of by.insn.op) pool by.insn s by.holds r there in
    subst (SameVector r s) by.is kept

-- and so does a step.
pub step_vectors : (insns : List Insn) (pool : List ℕ) (s t : Machine) (i : Insn) (r : ℕ) → slice_get insns s.place ≡ Some i → writes_vector r i ≡ false
    → step_of insns pool s ≡ Goes t → SameVector r s t
step_vectors insns pool s t i r at keeps h = free_vectors insns pool s t i r at keeps (guarded-goes (allows_step insns) (free_step insns pool) s t h).1

or_false : (a b : Bool) → (a || b) ≡ false → (a ≡ false) × (b ≡ false)
or_false true b h = cc
or_false false b h = (refl, h)

none_at : (p : Insn → Bool) (insns : List Insn) (k : ℕ) (i : Insn) → list_any p insns ≡ false → slice_get insns k ≡ Some i → p i ≡ false
none_at p [] k i none at = cc
none_at p (j ∷ js) zero i none at = let same : j ≡ i = cc in subst (λ (x : Insn). p x ≡ false) same (or_false (p j) (list_any p js) none).0
none_at p (j ∷ js) (suc k) i none at = none_at p js k i (or_false (p j) (list_any p js) none).1 at

-- a free step of a function that writes a vector register nowhere leaves it
free_unwritten : (insns : List Insn) (pool : List ℕ) (r : ℕ) → list_any (writes_vector r) insns ≡ false → (s t : Machine) → free_step insns pool s ≡ Goes t → SameVector r s t
free_unwritten insns pool r none s t h =
    let by = free-goes insns pool s t h in
    free_vectors insns pool s t by.insn r by.there (none_at (writes_vector r) insns s.place by.insn none by.there) h

runs_keep_vector : (step : Machine → Step Machine) (r : ℕ) → ((s t : Machine) → step s ≡ Goes t → SameVector r s t) → (s : Machine) (n : ℕ)
    → SameVector r s (run_of step s n).0
runs_keep_vector step r each s n = run_keeps step (SameVector r) (λ t. refl) (λ t u v f g. g ∙ f) each s n

-- A free run leaves each vector register that no instruction of the function writes,
pub free_run_vectors : (insns : List Insn) (pool : List ℕ) (s : Machine) (n r : ℕ) → list_any (writes_vector r) insns ≡ false
    → SameVector r s (run_of (free_step insns pool) s n).0
free_run_vectors insns pool s n r none = runs_keep_vector (free_step insns pool) r (free_unwritten insns pool r none) s n

-- and so does a run.
pub run_vectors : (insns : List Insn) (pool : List ℕ) (s : Machine) (n r : ℕ) → list_any (writes_vector r) insns ≡ false
    → SameVector r s (run_of (step_of insns pool) s n).0
run_vectors insns pool s n r none =
    runs_keep_vector (step_of insns pool) r (λ t u h. free_unwritten insns pool r none t u (guarded-goes (allows_step insns) (free_step insns pool) t u h).1) s n
