-- What plain functions do from a start state: they return at their last instruction.
use Rattle.std.proofs.Common.{◌≡◌, ℕ, zero, suc, ◌+◌, List, [], ◌∷◌, ◌++◌, length, drop, slice_get, slice_index, unwrap_or, Some, Bool, refl, sym, ◌∙◌, ap, subst, add-zero, zero-add, eq-eqb, get_or-set_other, length-append, arith}
use Rattle.std.specs.List.{AllByRecursion}
use Rattle.insn_ops.specs.declared.op.Op.{Op}
use Rattle.insn_ops.specs.declared.op.Op.TheVariants.{Ret}
use Rattle.insn_table.specs.declared.insn.Operand.{Operand}
use Rattle.insn_table.specs.declared.insn.Operand.TheVariants.{Reg, Imm, Mem, Vec, Pool, Target, Nothing}
use Rattle.insn_table.specs.declared.insn.Insn.{Insn}
use Rattle.plain_functions.specs.Plain.{IsFree, IsPlainMove, IsRegister, IsReturn}
use Rattle.machine.specs.Access.{allows_by, stack_pointer}
use Rattle.machine.specs.Family.{family_of, holds_of}
use Rattle.machine.specs.Frame.{SameFrame}
use Rattle.machine.specs.Machine.{AreRegs, Machine, entry_pointer}
use Rattle.plain_functions.specs.ShortForm.{IsPlainStart}
use Rattle.machine.specs.Operands.{operand}
use Rattle.runs.specs.Run.{Goes, Returns, run_of, tested}
use Rattle.machine.specs.Step.{step_where_known, goes, step_of}
use Rattle.plain_functions.specs.Straight.{plain_result, regs_after, regs_through, value_at, regs_with}
use Rattle.runs.specs.declared.ends.RunEnd.TheVariants.{Returned, Running}
use Rattle.plain_functions.proofs.Keeping.{move_keeps_regs}
use Rattle.machine.proofs.Families.{step_at}
use Rattle.plain_functions.proofs.Moves.{moved, step_moves}
use Rattle.runs.proofs.Runs.{one_more}

free-kept : (o : Operand) (regs : List ℕ) (v : ℕ) → IsRegister o → IsFree o → slice_index (regs_with regs o v) 4 ≡ slice_index regs 4
free-kept (Reg n w) regs v is free = get_or-set_other regs n 4 v 0 (λ e. free (sym e))
free-kept (Imm a) regs v is free = absurd is
free-kept (Mem base index scale disp) regs v is free = absurd is
free-kept (Vec n w) regs v is free = absurd is
free-kept (Pool n) regs v is free = absurd is
free-kept (Target n) regs v is free = absurd is
free-kept Nothing regs v is free = absurd is

-- a plain move leaves the stack pointer alone
pub move_keeps : (i : Insn) (regs : List ℕ) → IsPlainMove i → slice_index (regs_after i regs) 4 ≡ slice_index regs 4
move_keeps i regs m =
    let v = plain_result i.op (value_at regs (operand i 1)) (value_at regs (operand i 0)) in
    let target : operand i 1 ≡ m.target = ap (λ (args : List Operand). unwrap_or (slice_get args 1) Nothing) m.move.args in
    ap (λ (o : Operand). slice_index (regs_with regs o v) 4) target ∙ free-kept m.target regs v m.move.writes m.target_free

-- and so do many
pub moves_keep : (moves : List Insn) (regs : List ℕ) → AllByRecursion IsPlainMove moves → slice_index (regs_through moves regs) 4 ≡ slice_index regs 4
moves_keep [] regs each = refl
moves_keep (i ∷ is) regs each = moves_keep is (regs_after i regs) each.1 ∙ move_keeps i regs each.0

-- the instruction where the rest of a function begins
pub at_rest : (xs : List Insn) (k : ℕ) (x : Insn) (rest : List Insn) → drop k xs ≡ x ∷ rest → (slice_get xs k ≡ Some x) × (drop (suc k) xs ≡ rest)
at_rest [] zero x rest h = absurd (cc)
at_rest [] (suc k) x rest h = absurd (cc)
at_rest (y ∷ ys) zero x rest h = (cc, cc)
at_rest (y ∷ ys) (suc k) x rest h = at_rest ys k x rest h

-- the state after plain moves
abbrev pub state_through : List ℕ → List Insn → Machine → Machine
state_through pool [] s = s
state_through pool (i ∷ is) s = state_through pool is (moved pool i s)

-- the registers after plain moves
pub through-regs : (pool : List ℕ) (moves : List Insn) (s : Machine) → (state_through pool moves s).regs ≡ regs_through moves s.regs
through-regs pool [] s = refl
through-regs pool (i ∷ is) s = through-regs pool is (moved pool i s)

-- plain moves leave the memory
pub through-memory : (pool : List ℕ) (moves : List Insn) (s : Machine) → (state_through pool moves s).memory ≡ s.memory
through-memory pool [] s = refl
through-memory pool (i ∷ is) s = through-memory pool is (moved pool i s)

-- plain moves leave the frame
pub through_frame : (pool : List ℕ) (moves : List Insn) (s : Machine) → SameFrame s (state_through pool moves s)
through_frame pool [] s = record { entry = refl; regions = refl; stack = refl }
through_frame pool (i ∷ is) s =
    let rest = through_frame pool is (moved pool i s) in
    record { entry = rest.entry; regions = rest.regions; stack = rest.stack }

-- plain moves leave the vectors
pub through-vectors : (pool : List ℕ) (moves : List Insn) (s : Machine) → (state_through pool moves s).vecs ≡ s.vecs
through-vectors pool [] s = refl
through-vectors pool (i ∷ is) s = through-vectors pool is (moved pool i s)

-- A run that comes to moves goes through them.
pub through_moves : (insns : List Insn) (pool : List ℕ) (s t : Machine) (moves rest : List Insn) (k : ℕ)
    → drop k insns ≡ moves ++ rest → AllByRecursion IsPlainMove moves → AreRegs t.regs → t.place ≡ k → run_of (step_of insns pool) s k ≡ (t, Running)
    → (run_of (step_of insns pool) s (k + length moves) ≡ (state_through pool moves t, Running))
    × (drop (k + length moves) insns ≡ rest)
    × ((state_through pool moves t).place ≡ k + length moves)
through_moves insns pool s t [] rest k left each all at h = rw add-zero (h, left, at)
through_moves insns pool s t (i ∷ is) rest k left each all at h =
    let here = at_rest insns k i (is ++ rest) left in
    let there : slice_get insns t.place ≡ Some i = ap (slice_get insns) at ∙ here.0 in
    let goes = step_moves insns pool t i there each.0 all in
    let come : run_of (step_of insns pool) s (suc k) ≡ (moved pool i t, Running) = one_more (step_of insns pool) s t k (Goes (moved pool i t)) h goes in
    let next : t.place + 1 ≡ suc k = omega arith in
    let kept = move_keeps_regs i each.0.source each.0.target t.regs each.0.move all in
    let count : suc k + length is ≡ k + suc (length is) = omega arith in
    subst
    (λ (n : ℕ). (run_of (step_of insns pool) s n ≡ (state_through pool is (moved pool i t), Running)) × (drop n insns ≡ rest)
    × ((state_through pool is (moved pool i t)).place ≡ n))
    count
    (through_moves insns pool s (moved pool i t) is rest (suc k) here.1 each.1 kept next come)

-- at a return the stack pointer is that of the entry
returns_at : (insns : List Insn) (pool : List ℕ) (t : Machine) (last : Insn) → slice_get insns t.place ≡ Some last → last.op ≡ Ret
    → stack_pointer t ≡ entry_pointer t → step_of insns pool t ≡ Returns
returns_at insns pool t last at op sp =
    step_at insns pool t last at
    ∙ ap (λ (o : Op). tested (allows_by (family_of o) last t) (step_where_known (holds_of o t.flags) (goes (family_of o) pool last t))) op
    ∙ ap (λ (b : Bool). tested b Returns) (eq-eqb (stack_pointer t) (entry_pointer t) sp)

-- A plain function returns at its last instruction, in the state after its moves.
pub plain-returns : (insns : List Insn) (pool : List ℕ) (moves : List Insn) (last : Insn) (s : Machine)
    → insns ≡ moves ++ last ∷ [] → AllByRecursion IsPlainMove moves → IsReturn last → IsPlainStart s
    → run_of (step_of insns pool) s (length insns) ≡ (state_through pool moves s, Returned (length insns))
plain-returns insns pool moves last s whole each returns plain =
    let start = plain.start in
    let n = length moves in
    let t = state_through pool moves s in
    let through = through_moves insns pool s s moves (last ∷ []) 0 whole each start.valid.regs start.first refl in
    let come : run_of (step_of insns pool) s n ≡ (t, Running) =
    subst (λ (k : ℕ). run_of (step_of insns pool) s k ≡ (t, Running)) (zero-add n) through.0
    in
    let left : drop n insns ≡ last ∷ [] = subst (λ (k : ℕ). drop k insns ≡ last ∷ []) (zero-add n) through.1 in
    let stands : t.place ≡ n = through.2 ∙ zero-add n in
    let at = at_rest insns n last [] left in
    let there : slice_get insns t.place ≡ Some last = ap (slice_get insns) stands ∙ at.0 in
    let sp : stack_pointer t ≡ entry_pointer t =
    ap (λ (regs : List ℕ). slice_index regs 4) (through-regs pool moves s)
    ∙ moves_keep moves s.regs each
    ∙ ap (λ (regs : List ℕ). slice_index regs 4) (start.entered ∙ sym (through_frame pool moves s).entry)
    in
    let ended = one_more (step_of insns pool) s t n Returns come (returns_at insns pool t last there returns.op sp) in
    let count : suc n ≡ length insns = omega (arith, ap length whole, length-append moves (last ∷ [])) in
    subst (λ (k : ℕ). run_of (step_of insns pool) s k ≡ (t, Returned k)) count ended
