-- Laws of plain functions: how they end, and when two are equivalent.
use Rattle.std.proofs.Common.{◌≡◌, ◌≢◌, ℕ, zero, suc, ◌-◌, ◌*◌, ◌%◌, ◌^◌, max, List, [], ◌∷◌, ◌++◌, length, take, slice_get, slice_index, Some, sym, ◌∙◌, ap, subst, length-append, arith}
use Rattle.std.proofs.Math.Seq.{take-append_seam}
use Rattle.insn_ops.specs.declared.output.Output.{Output}
use Rattle.insn_ops.specs.declared.output.Output.TheVariants.{Reg}
use Rattle.insn_table.specs.declared.insn.Insn.{Insn}
use Rattle.plain_functions.specs.Plain.{IsPlain}
use Rattle.machine.specs.Difference.{Agree}
use Rattle.plain_functions.specs.ShortForm.{SamePlainEnd}
use Rattle.runs.specs.Equivalent.{AreEquivalent}
use Rattle.machine.specs.Machine.{AreRegs, Machine, rax}
use Rattle.plain_functions.specs.ShortForm.{IsPlainStart}
use Rattle.runs.specs.Run.{run_of, end_of}
use Rattle.machine.specs.Step.{step_of}
use Rattle.plain_functions.specs.Straight.{regs_through, OnlyReturns}
use Rattle.runs.specs.declared.ends.RunEnd.TheVariants.{Returned, Faulted, Unset}
use Rattle.plain_functions.proofs.Keeping.{moves_keep_regs}
use Rattle.plain_functions.proofs.PlainRuns.{plain-returns, state_through, through_frame, through-memory, through-vectors, through-regs}
use Rattle.runs.proofs.Returning.{returned_only, never_faulted, never_unset, returning_equivalent}

-- the end of a plain function from a start state
abbrev pub plain_end : {insns : List Insn} → List ℕ → IsPlain insns → Machine → Machine
plain_end pool p s = state_through pool p.moves s

-- the registers at the end of a plain function
pub plain_end-regs : {insns : List Insn} (pool : List ℕ) (p : IsPlain insns) (s : Machine) → (plain_end pool p s).regs ≡ regs_through p.moves s.regs
plain_end-regs pool p s = through-regs pool p.moves s

-- a plain function returns at its last instruction
pub plain_ends : (insns : List Insn) (pool : List ℕ) (p : IsPlain insns) (s : Machine) → IsPlainStart s
    → run_of (step_of insns pool) s (length insns) ≡ (plain_end pool p s, Returned (length insns))
plain_ends insns pool p s start = plain-returns insns pool p.moves p.last s p.whole p.each p.returns start

-- a plain function never faults
pub plain_never_faults : (insns : List Insn) (pool : List ℕ) → IsPlain insns → (s : Machine) → IsPlainStart s → (n i : ℕ)
    → end_of (step_of insns pool) s n ≢ Faulted i
plain_never_faults insns pool p s start n i h =
    never_faulted (step_of insns pool) s (plain_end pool p s) (length insns) (length insns) (plain_ends insns pool p s start) n i h

-- a plain function meets no unset flag
pub plain_never_unset : (insns : List Insn) (pool : List ℕ) → IsPlain insns → (s : Machine) → IsPlainStart s → (n i : ℕ)
    → end_of (step_of insns pool) s n ≢ Unset i
plain_never_unset insns pool p s start n i h =
    never_unset (step_of insns pool) s (plain_end pool p s) (length insns) (length insns) (plain_ends insns pool p s start) n i h

-- a plain function has one return
pub plain-returns_only : (insns : List Insn) (pool : List ℕ) (p : IsPlain insns) (s : Machine) → IsPlainStart s → (n i : ℕ)
    → end_of (step_of insns pool) s n ≡ Returned i
    → ((run_of (step_of insns pool) s n).0 ≡ plain_end pool p s) × (i ≡ length insns)
plain-returns_only insns pool p s start n i h =
    returned_only (step_of insns pool) s (plain_end pool p s) (length insns) (length insns) (plain_ends insns pool p s start) n i h

one_output : (s t : Machine) (o output : Output) (j : ℕ) → Agree s t o → slice_get (o ∷ []) j ≡ Some output → Agree s t output
one_output s t o output zero agree h = let same : o ≡ output = cc in subst (Agree s t) same agree
one_output s t o output (suc j) agree h = absurd (cc)

-- the same %rax and the same memory are the same end
same_plain_end : (s t : Machine) → rax s ≡ rax t → s.memory ≡ t.memory → SamePlainEnd s t
same_plain_end s t same memory = record {
  outputs = λ j output before live. one_output s t (Reg 0 64) output j (ap (λ (x : ℕ). x % 2 ^ 64) same) live;
  memory = λ at compared. ap (λ (m : ℕ → ℕ). m at) memory;
}

-- two plain functions whose moves leave the same in %rax are equivalent
pub plain-equivalent : (f g : List Insn) (pool_f pool_g : List ℕ) (p : IsPlain f) (q : IsPlain g)
    → ((s : Machine) → IsPlainStart s → slice_index (regs_through p.moves s.regs) 0 ≡ slice_index (regs_through q.moves s.regs) 0)
    → AreEquivalent IsPlainStart SamePlainEnd (2 * max (length f) (length g)) (step_of f pool_f) (step_of g pool_g)
plain-equivalent f g pool_f pool_g p q same =
    returning_equivalent IsPlainStart SamePlainEnd (step_of f pool_f) (step_of g pool_g) (plain_end pool_f p) (plain_end pool_g q)
    (length f) (length g) (2 * max (length f) (length g))
    (plain_ends f pool_f p)
    (plain_ends g pool_g q)
    (omega arith)
    (omega arith)
    (λ s start.
    same_plain_end (plain_end pool_f p s) (plain_end pool_g q s)
    (ap (λ (regs : List ℕ). slice_index regs 0) (plain_end-regs pool_f p s)
    ∙ same s start
    ∙ ap (λ (regs : List ℕ). slice_index regs 0) (sym (plain_end-regs pool_g q s)))
    (through-memory pool_f p.moves s ∙ sym (through-memory pool_g q.moves s)))

-- the moves are all instructions but the last
pub plain_moves : (insns : List Insn) (p : IsPlain insns) → p.moves ≡ take (length insns - 1) insns
plain_moves insns p =
    let count : length insns - 1 ≡ length p.moves = omega (arith, ap length p.whole, length-append p.moves (p.last ∷ [])) in
    sym (ap (λ (xs : List Insn). take (length insns - 1) xs) p.whole ∙ ap (λ (n : ℕ). take n (p.moves ++ p.last ∷ [])) count
    ∙ take-append_seam p.moves (p.last ∷ []))

-- a plain function returns, and ends in no other way
pub plain-only_returns : (insns : List Insn) (pool : List ℕ) → IsPlain insns → (s : Machine) → IsPlainStart s → OnlyReturns insns pool s
plain-only_returns insns pool p s start = record {
  end = plain_end pool p s;
  returned = plain_ends insns pool p s start;
  regs = subst AreRegs (sym (plain_end-regs pool p s)) (moves_keep_regs p.moves s.regs p.each start.start.valid.regs);
  after = plain_end-regs pool p s ∙ ap (λ (moves : List Insn). regs_through moves s.regs) (plain_moves insns p);
  frame = through_frame pool p.moves s;
  vecs = through-vectors pool p.moves s;
  memory = through-memory pool p.moves s;
  once = λ n i h. (plain-returns_only insns pool p s start n i h).1;
  no_fault = plain_never_faults insns pool p s start;
  no_unset = plain_never_unset insns pool p s start;
}
