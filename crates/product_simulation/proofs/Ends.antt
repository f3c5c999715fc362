-- Same ends of the machine, from one start state on.
use Rattle.std.proofs.Common.{◌≡◌, ℕ, ◌+◌, ◌<◌, true, List, slice_index, sym, ◌∙◌, subst}
use Rattle.insn_ops.specs.declared.output.Output.{Output}
use Rattle.insn_ops.specs.declared.output.Output.TheVariants.{Reg, Vec}
use Rattle.insn_table.specs.declared.insn.Function.{Function}
use Rattle.machine.specs.Difference.{Agree, is_in_scratch}
use Rattle.machine.specs.Frame.{SameFrame}
use Rattle.machine.specs.Machine.{IsInStack, Machine}
use Rattle.memory_spans.specs.Memory.{offset_from}
use Rattle.machine.proofs.Frames.{run_frame}
use Rattle.runs.specs.Run.{run_of}
use Rattle.product_simulation.specs.Functions.{function_step}
use Rattle.product_simulation.specs.Related.{SameEndAt, Scratch}

agree-trans : (x y z : Machine) (output : Output) → Agree x y output → Agree y z output → Agree x z output
agree-trans x y z (Reg n w) h k = h ∙ k
agree-trans x y z (Vec n w) h k = h ∙ k

-- the stack range by the entry registers and the number of stack bytes
abbrev IsInRange : ℕ → List ℕ → ℕ → Type 0
IsInRange at entry stack = offset_from (offset_from stack (slice_index entry 4)) at < stack + 8

same_stack : (x y : Machine) (at : ℕ) → y.entry ≡ x.entry → y.stack ≡ x.stack → IsInStack y at → IsInStack x at
same_stack x y at entry stack h =
    let here : IsInRange at x.entry y.stack = subst (λ (e : List ℕ). IsInRange at e y.stack) entry h in
    subst (λ (n : ℕ). IsInRange at x.entry n) stack here

-- Of three states with one entry the ends are the same in turn.
same_end-trans : (live : List Output) (scratch : Scratch) (x y z : Machine) → y.entry ≡ x.entry → y.stack ≡ x.stack
    → SameEndAt live scratch x y → SameEndAt live scratch y z → SameEndAt live scratch x z
same_end-trans live scratch x y z entry stack h k = record {
  outputs = λ j output before is. agree-trans x y z output (h.outputs j output before is) (k.outputs j output before is);
  memory = λ at compared. h.memory at compared ∙ k.memory at (record {
    address = compared.address;
    no_scratch = λ inside. compared.no_scratch (subst (λ (e : List ℕ). is_in_scratch (scratch e) at ≡ true) entry inside);
    no_stack = λ inside. compared.no_stack (same_stack x y at entry stack inside);
  });
}

-- The ends of three functions from one start state are the same in turn.
pub ends_join : (live : List Output) (scratch : Scratch) (s : Machine) (f g h : Function) (n m o : ℕ)
    → SameEndAt live scratch (run_of (function_step f) s n).0 (run_of (function_step g) s m).0
    → SameEndAt live scratch (run_of (function_step g) s m).0 (run_of (function_step h) s o).0
    → SameEndAt live scratch (run_of (function_step f) s n).0 (run_of (function_step h) s o).0
ends_join live scratch s f g h n m o =
    let left : SameFrame s (run_of (function_step f) s n).0 = run_frame f.insns f.pool s n in
    let right : SameFrame s (run_of (function_step g) s m).0 = run_frame g.insns g.pool s m in
    same_end-trans live scratch (run_of (function_step f) s n).0 (run_of (function_step g) s m).0 (run_of (function_step h) s o).0
    (right.entry ∙ sym left.entry) (right.stack ∙ sym left.stack)
