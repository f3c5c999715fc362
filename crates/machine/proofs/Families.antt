-- The step at an instruction, and that it leads to a place of the function.
use Rattle.std.proofs.Common.{◌≡◌, ◌≢◌, ◌⊎◌, inl, inr, ℕ, ◌+◌, ◌-◌, ◌<◌, Bool, true, false, List, length, slice_get, slice_index_or, Option, Some, None, IfSome, refl, sym, ◌∙◌, ap, subst, arith}
use Rattle.std.proofs.lemmas.Bool.{cond_both}
use Rattle.std.proofs.lemmas.Option.{slice_get-get_or}
use Rattle.insn_ops.specs.declared.op.Op.{Op}
use Rattle.insn_ops.specs.declared.op.Op.TheVariants as ops
use Rattle.insn_table.specs.declared.insn.Insn.{Insn}
use Rattle.insn_table.specs.Closed.{IsLeaving}
use Rattle.machine.specs.declared.operands.Family.{Family}
use Rattle.machine.specs.declared.operands.Family.TheVariants.{Branch, Jump, Return}
use Rattle.runs.specs.declared.ends.StepEnd.{StepEnd}
use Rattle.machine.specs.Access.{allows}
use Rattle.machine.specs.Family.{family_of, holds_of}
use Rattle.machine.specs.Kept.{Kept}
use Rattle.machine.specs.Machine.{Machine}
use Rattle.runs.specs.Run.{Step, Goes, tested}
use Rattle.machine.specs.Runnable.{IsRunnableFunction, JumpsBelow}
use Rattle.machine.specs.Step.{allows_at, after_change, at_place, step_where_known, free_at, free_step, goes, step_to, insn_step, jump_place, leads_to, step_of}
use Rattle.machine.specs.Operands.{operand}
use Rattle.runs.specs.Stepping.{StepsAs}
use Rattle.machine.proofs.VectorFamilies.{no_vectors}
use Rattle.runs.proofs.Guarding.{failed_stays}

-- the step at a known instruction
pub step_at : (insns : List Insn) (pool : List ℕ) (s : Machine) (i : Insn) → slice_get insns s.place ≡ Some i → step_of insns pool s ≡ insn_step pool i s
step_at insns pool s i e = ap (λ (o : Option Insn). tested (allows_at o s) (free_at pool o s)) e

place_after : (n : ℕ) (holds : Bool) (o : Option Bool) (g : Bool → Step Machine) (s t : Machine) (end : StepEnd) → s.place < n
    → ((h : Bool) → StepsAs (g h) s end t → t.place < n) → StepsAs (tested holds (step_where_known o g)) s end t → t.place < n
place_after n true None g s t end at go steps = subst (λ (m : Machine). m.place < n) (sym steps.1) at
place_after n true (Some h) g s t end at go steps = go h steps
place_after n false None g s t end at go steps = subst (λ (m : Machine). m.place < n) (sym steps.1) at
place_after n false (Some h) g s t end at go steps = subst (λ (m : Machine). m.place < n) (sym (failed_stays (g h) s t end steps)) at

leaving_family : (op : Op) → IsLeaving op → (family_of op ≡ Return) ⊎ (family_of op ≡ Jump)
leaving_family ops.Ret is = inl refl
leaving_family ops.Jmp is = inr refl
leaving_family _ is = absurd is

not_leaving : (op : Op) (kind : Family) → family_of op ≡ kind → (kind ≡ Return → ⊥) → (kind ≡ Jump → ⊥) → IsLeaving op → ⊥
not_leaving op kind f no_return no_jump is =
    elim (leaving_family op is) [ inl e ↦ no_return (sym f ∙ e) | inr e ↦ no_jump (sym f ∙ e) ]

jumps_within : (n : ℕ) (op : Op) (i : Insn) → (family_of op ≡ Jump) ⊎ (family_of op ≡ Branch) → JumpsBelow n op i → jump_place (operand i 0) < n
jumps_within n (ops.Jump c) i f h = h
jumps_within n ops.Jmp i f h = h
jumps_within n (ops.Vector op) i (inl f) h = absurd (no_vectors op Jump tt f)
jumps_within n (ops.Vector op) i (inr f) h = absurd (no_vectors op Branch tt f)
jumps_within n _ i (inl f) h = cc
jumps_within n _ i (inr f) h = cc

gone_within : (n : ℕ) (next : Option ℕ) (s u t : Machine) (end : StepEnd) → s.place < n → IfSome next (λ p. p < n) → StepsAs (step_to next u) s end t → t.place < n
gone_within n None s u t end at low steps = subst (λ (m : Machine). m.place < n) (sym steps.1) at
gone_within n (Some p) s u t end at low steps = subst (λ (m : Machine). m.place < n) (sym steps.1) low

-- where an instruction that stays in the function leads, it has a next one but for a jump and a return
leads_within : (kind : Family) (n : ℕ) (i : Insn) (place : ℕ) (holds : Bool) → family_of i.op ≡ kind
    → ((IsLeaving i.op → ⊥) → place + 1 < n) → JumpsBelow n i.op i → IfSome (leads_to kind i place holds) (λ p. p < n)
leads_within Branch n i place holds f next jump =
    cond_both holds (jump_place (operand i 0)) (place + 1) (λ (p : ℕ). p < n) (λ jumping. jumps_within n i.op i (inr f) jump)
    (λ passing. next (λ is. not_leaving i.op Branch f (λ e. cc) (λ e. cc) is))
leads_within Jump n i place holds f next jump = jumps_within n i.op i (inl f) jump
leads_within Return n i place holds f next jump = tt
leads_within kind n i place holds f next jump = next (λ is. not_leaving i.op kind f (λ e. cc) (λ e. cc) is)

next_place : (insns : List Insn) (place : ℕ) (i : Insn) → IsRunnableFunction insns → place < length insns → slice_get insns place ≡ Some i
    → (IsLeaving i.op → ⊥) → place + 1 < length insns
next_place insns place i f at is stays =
    let last : place ≢ length insns - 1 = λ e. stays (f.last i (subst (λ (j : ℕ). slice_get insns j ≡ Some i) e is)) in
    omega arith

known-goes : (o : Option Bool) (g : Bool → Step Machine) (t : Machine) → step_where_known o g ≡ Goes t → (holds : Bool) × (g holds ≡ Goes t)
known-goes None g t h = absurd (cc)
known-goes (Some holds) g t h = (holds, h)

to-goes : (next : Option ℕ) (u t : Machine) → step_to next u ≡ Goes t → (place : ℕ) × (next ≡ Some place) × (at_place u place ≡ t)
to-goes None u t h = absurd (cc)
to-goes (Some place) u t h = (place, refl, cc)

-- the free step goes on by an instruction: to its change of the state, at the place to which it leads
pub record GoesBy (insns : List Insn) (pool : List ℕ) (s t : Machine) : Type 0 where
  pub insn : Insn
  pub there : slice_get insns s.place ≡ Some insn
  pub holds : Bool
  pub place : ℕ
  pub led : leads_to (family_of insn.op) insn s.place holds ≡ Some place
  pub is : at_place (after_change (family_of insn.op) pool insn s holds) place ≡ t

found-goes : (insns : List Insn) (pool : List ℕ) (s t : Machine) (found : Option Insn) → slice_get insns s.place ≡ found → free_at pool found s ≡ Goes t
    → GoesBy insns pool s t
found-goes insns pool s t None there h = absurd (cc)
found-goes insns pool s t (Some i) there h =
    let known = known-goes (holds_of i.op s.flags) (goes (family_of i.op) pool i s) t h in
    let led = to-goes (leads_to (family_of i.op) i s.place known.0) (after_change (family_of i.op) pool i s known.0) t known.1 in
    record { insn = i; there = there; holds = known.0; place = led.0; led = led.1; is = led.2 }

-- A free step that goes on does so by the instruction at the state's place.
pub free-goes : (insns : List Insn) (pool : List ℕ) (s t : Machine) → free_step insns pool s ≡ Goes t → GoesBy insns pool s t
free-goes insns pool s t h = found-goes insns pool s t (slice_get insns s.place) refl h

-- a step of a function leads to a place of the function
pub stays_inside : (insns : List Insn) (pool : List ℕ) (i : Insn) (s t : Machine) (end : StepEnd) → IsRunnableFunction insns → s.place < length insns
    → slice_get insns s.place ≡ Some i → StepsAs (insn_step pool i s) s end t → t.place < length insns
stays_inside insns pool i s t end f at is steps =
    let kind = family_of i.op in
    place_after (length insns) (allows i s) (holds_of i.op s.flags) (goes kind pool i s) s t end at
    (λ h. gone_within (length insns) (leads_to kind i s.place h) s (after_change kind pool i s h) t end at
    (leads_within kind (length insns) i s.place h refl (next_place insns s.place i f at is) (f.each s.place i is).jump))
    steps

-- the instruction that the code reads, of a list and a state that it has opened
pub insn_at : (insns kept : List Insn) (s t : Kept) (d : Insn) → kept ≡ insns → s ≡ t → t.place < length insns
    → slice_get insns t.place ≡ Some (slice_index_or kept s.place d)
insn_at insns kept s t d same_insns same lt = rw (same_insns, same) (slice_get-get_or insns t.place d lt)

-- the code's step of the instruction at the state's place is the step
pub step_taken : (insns : List Insn) (pool taken : List ℕ) (i : Insn) (s t : Machine) (end : StepEnd) → taken ≡ pool → slice_get insns s.place ≡ Some i
    → StepsAs (insn_step taken i s) s end t → StepsAs (step_of insns pool s) s end t
step_taken insns pool taken i s t end same at steps =
    let step : insn_step taken i s ≡ step_of insns pool s = (λ j. insn_step (same j) i s) ∙ sym (step_at insns pool s i at) in
    subst (λ (p : Step Machine). StepsAs p s end t) step steps
