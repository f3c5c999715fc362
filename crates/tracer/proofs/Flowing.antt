-- A run follows the flow graph of its function.
use Rattle.std.proofs.Common.{◌≡◌, inl, inr, ℕ, zero, suc, ◌+◌, ◌<◌, ◌≤◌, Bool, true, false, List, length, Option, Some, slice_get, slice_index, refl, sym, ◌∙◌, ap, subst, add-one, arith}
use Rattle.std.specs.Option.{option_map}
use Rattle.std.proofs.lemmas.Bool.{cases_lt}
use Rattle.std.proofs.lemmas.List.{length-map}
use Rattle.std.proofs.lemmas.Option.{same_Some, slice_get-get_or, slice_get-map}
use Rattle.insn_ops.specs.declared.op.Op.{Op}
use Rattle.insn_ops.specs.declared.op.Op.TheVariants as ops
use Rattle.insn_ops.specs.declared.vector_op.VectorOp.{VectorOp}
use Rattle.insn_ops.specs.declared.vector_op.VectorOp.TheVariants.{Vzeroupper}
use Rattle.insn_table.specs.Closed.{IsClosed}
use Rattle.insn_table.specs.declared.insn.Insn.{Insn}
use Rattle.insn_table.specs.declared.insn.Operand.{Operand}
use Rattle.insn_table.specs.declared.insn.Operand.TheVariants.{Reg, Imm, Mem, Vec, Pool, Target, Nothing}
use Rattle.flow_graph.specs.Flows.{Follows, IsPath, Leads, flow_by, flow_of, flows_of, target_place}
use Rattle.machine.proofs.Closed.{closed-runnable}
use Rattle.machine.proofs.Families.{free-goes, stays_inside, step_at}
use Rattle.machine.specs.Family.{family_of, vector_family}
use Rattle.machine.specs.Machine.{Machine}
use Rattle.machine.specs.Operands.{operand}
use Rattle.machine.specs.Step.{allows_step, free_step, goes, jump_place, leads_to, step_of}
use Rattle.runs.specs.declared.ends.RunEnd.{RunEnd}
use Rattle.runs.specs.declared.ends.RunEnd.TheVariants.{Returned, Faulted, Unset, Running}
use Rattle.runs.specs.declared.ends.StepEnd.TheVariants as ends
use Rattle.runs.specs.Run.{Step, Goes, Returns, Faults, MeetsUnset, ended_by, end_of, run_of, stepped, tested}
use Rattle.runs.specs.Stepping.{StepsAs}
use Rattle.tracer.specs.Traces.{ArePlaces}

-- one step

same_target : (o : Operand) → jump_place o ≡ target_place o
same_target (Target place) = refl
same_target (Reg n w) = refl
same_target (Imm v) = refl
same_target (Mem base index scale disp) = refl
same_target (Vec n w) = refl
same_target (Pool at) = refl
same_target Nothing = refl

-- an instruction on vectors leads to the next one
led-vectors : (op : VectorOp) (i : Insn) (from to : ℕ) (holds : Bool) → leads_to (vector_family op) i from holds ≡ Some to → Leads (flow_by (ops.Vector op) i) from to
led-vectors Vzeroupper i from to holds h = sym (same_Some _ _ h)
led-vectors _ i from to holds h = sym (same_Some _ _ h)

-- where an instruction leads is in its flow
led : (op : Op) (i : Insn) (from to : ℕ) (holds : Bool) → leads_to (family_of op) i from holds ≡ Some to → Leads (flow_by op i) from to
led (ops.Jump c) i from to true h = inl (sym (same_Some _ _ h) ∙ same_target (operand i 0))
led (ops.Jump c) i from to false h = inr (sym (same_Some _ _ h))
led ops.Jmp i from to holds h = sym (same_Some _ _ h) ∙ same_target (operand i 0)
led ops.Ret i from to holds h = absurd (cc)
led (ops.Vector op) i from to holds h = led-vectors op i from to holds h
led _ i from to holds h = sym (same_Some _ _ h)

tested-goes : {S : Type 0} (b : Bool) (p : Step S) (t : S) → tested b p ≡ Goes t → p ≡ Goes t
tested-goes true p t h = h
tested-goes false (Goes u) t h = absurd (cc)
tested-goes false Returns t h = absurd (cc)
tested-goes false Faults t h = absurd (cc)
tested-goes false MeetsUnset t h = absurd (cc)

-- a step of the function goes on by an instruction, to a place that follows in the flow
pub record GoesOn (insns : List Insn) (s t : Machine) : Type 0 where
  pub insn : Insn
  pub there : slice_get insns s.place ≡ Some insn
  pub leads : Leads (flow_of insn) s.place t.place

goes-on : (insns : List Insn) (pool : List ℕ) (s t : Machine) → step_of insns pool s ≡ Goes t → GoesOn insns s t
goes-on insns pool s t h =
    let by = free-goes insns pool s t (tested-goes (allows_step insns s) (free_step insns pool s) t h) in
    let next : leads_to (family_of by.insn.op) by.insn s.place by.holds ≡ Some t.place = by.led ∙ ap (λ (m : Machine). Some m.place) by.is in
    record { insn = by.insn; there = by.there; leads = led by.insn.op by.insn s.place t.place by.holds next }

-- a step that goes on follows the flow
pub step-follows : (insns : List Insn) (pool : List ℕ) (s t : Machine) → step_of insns pool s ≡ Goes t → Follows (flows_of insns) s.place t.place
step-follows insns pool s t h =
    let on = goes-on insns pool s t h in
    record {
      flow = flow_of on.insn;
      there = slice_get-map flow_of insns s.place ∙ ap (λ (o : Option Insn). option_map flow_of o) on.there;
      leads = on.leads;
    }

-- a step that goes on stays inside of the function
step-inside : (insns : List Insn) (pool : List ℕ) (s t : Machine) → IsClosed insns → s.place < length insns → step_of insns pool s ≡ Goes t → t.place < length insns
step-inside insns pool s t closed at h =
    let on = goes-on insns pool s t h in
    let by = sym (step_at insns pool s on.insn on.there) ∙ h in
    stays_inside insns pool on.insn s t ends.Next (closed-runnable insns closed) at on.there
    (subst (λ (p : Step Machine). StepsAs p s ends.Next t) (sym by) (refl, refl))

-- a run that still goes on

ended-goes : {S : Type 0} (t : S) (n : ℕ) (p : Step S) → (ended_by t n p).1 ≡ Running → p ≡ Goes (ended_by t n p).0
ended-goes t n (Goes next) h = refl
ended-goes t n Returns h = absurd (cc)
ended-goes t n Faults h = absurd (cc)
ended-goes t n MeetsUnset h = absurd (cc)

-- a run that goes on behind a step went on before it, and by that step
one-back : {S : Type 0} (step : S → Step S) (n : ℕ) (t : S) (e : RunEnd) → (stepped step n (t, e)).1 ≡ Running
    → (e ≡ Running) × (step t ≡ Goes (stepped step n (t, e)).0)
one-back step n t Running h = (refl, ended-goes t n (step t) h)
one-back step n t (Returned i) h = absurd (cc)
one-back step n t (Faulted i) h = absurd (cc)
one-back step n t (Unset i) h = absurd (cc)

before-end : {S : Type 0} (step : S → Step S) (s : S) (n : ℕ) → end_of step s (suc n) ≡ Running
    → (end_of step s n ≡ Running) × (step (run_of step s n).0 ≡ Goes (run_of step s (suc n)).0)
before-end step s n h = one-back step (suc n) (run_of step s n).0 (run_of step s n).1 h

-- each step of a run that goes on goes on
pub each-goes : {S : Type 0} (step : S → Step S) (s : S) (n k : ℕ) → end_of step s n ≡ Running → k < n
    → step (run_of step s k).0 ≡ Goes (run_of step s (suc k)).0
each-goes step s zero k h lt = absurd (omega arith)
each-goes step s (suc n) k h lt =
    let back = before-end step s n h in
    elim (cases_lt k n) [
      | inl less ↦ each-goes step s n k back.0 less
      | inr le ↦
          let same : n ≡ k = omega arith in
          subst (λ (j : ℕ). step (run_of step s j).0 ≡ Goes (run_of step s (suc j)).0) same back.1
    ]

inside-at : (insns : List Insn) (pool : List ℕ) (s : Machine) (n k : ℕ) → IsClosed insns → s.place < length insns → end_of (step_of insns pool) s n ≡ Running
    → k ≤ n → (run_of (step_of insns pool) s k).0.place < length insns
inside-at insns pool s n zero closed at goes le = at
inside-at insns pool s n (suc k) closed at goes le =
    step-inside insns pool (run_of (step_of insns pool) s k).0 (run_of (step_of insns pool) s (suc k)).0 closed
    (inside-at insns pool s n k closed at goes (omega arith)) (each-goes (step_of insns pool) s n k goes (omega arith))

-- where the run has come to behind k steps
abbrev state : List Insn → List ℕ → Machine → ℕ → Machine
state insns pool s k = (run_of (step_of insns pool) s k).0

place_is : (insns : List Insn) (pool : List ℕ) (s : Machine) (n : ℕ) (places : List ℕ) (k : ℕ) → ArePlaces (state insns pool s) n places → k < n
    → slice_index places k ≡ (state insns pool s k).place
place_is insns pool s n places k are lt =
    let within : k < length places = omega (arith, are.count) in
    same_Some (slice_index places k) (state insns pool s k).place (sym (slice_get-get_or places k 0 within) ∙ are.each k lt)

follows_at : (insns : List Insn) (pool : List ℕ) (s : Machine) (n k : ℕ) → end_of (step_of insns pool) s n ≡ Running → k < n
    → Follows (flows_of insns) (state insns pool s k).place (state insns pool s (k + 1)).place
follows_at insns pool s n k goes lt =
    rw add-one (step-follows insns pool (state insns pool s k) (state insns pool s (suc k)) (each-goes (step_of insns pool) s n k goes lt))

-- The places where a run stands before and behind n steps that go on are a path.
pub run-path : (insns : List Insn) (pool : List ℕ) (s : Machine) (n : ℕ) (places : List ℕ) → IsClosed insns → s.place < length insns
    → end_of (step_of insns pool) s n ≡ Running → ArePlaces (λ k. (run_of (step_of insns pool) s k).0) (n + 1) places → IsPath (flows_of insns) places
run-path insns pool s n places closed at goes are = record {
  inside = λ k lt.
      let few : k < n + 1 = omega (arith, are.count) in
      let count : length (flows_of insns) ≡ length insns = length-map insns flow_of in
      subst (λ (p : ℕ). p < length (flows_of insns)) (sym (place_is insns pool s (n + 1) places k are few))
      (subst (λ (m : ℕ). (state insns pool s k).place < m) (sym count) (inside-at insns pool s n k closed at goes (omega arith)));
  follows = λ k lt.
      let few : k + 1 < n + 1 = omega (arith, are.count) in
      let now = place_is insns pool s (n + 1) places k are (omega arith) in
      let then = place_is insns pool s (n + 1) places (k + 1) are few in
      subst (λ (p : ℕ). Follows (flows_of insns) p (slice_index places (k + 1))) (sym now)
      (subst (λ (p : ℕ). Follows (flows_of insns) (state insns pool s k).place p) (sym then) (follows_at insns pool s n k goes (omega arith)));
}
