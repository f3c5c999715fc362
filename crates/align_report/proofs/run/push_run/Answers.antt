use Rattle.std.proofs.Common.{◌≡◌, ◌++◌, List, string_bytes, sym, ◌∙◌, ap, subst}
use Rattle.insn_ops.specs.declared.output.Output.{Output}
use Rattle.runs.specs.Run.{run_of}
use Rattle.runs.specs.declared.ends.RunEnd.{RunEnd}
use Rattle.machine.specs.Frame.{SameUnwritable}
use Rattle.machine.specs.Kept.{pure_of}
use Rattle.machine.specs.Machine.{Machine}
use Rattle.machine.specs.Step.{step_of}
use Rattle.test_states.specs.Starts.{start_of}
use Rattle.align_report.specs.Outputs.{output_lines}
use Rattle.align_report.specs.RunReport.{end_name, test_line}
use Rattle.align_report.specs.Writing.{AppendsChanges}
use Rattle.align_report.proofs.Running.{not_returned, returned, same_outside}
use Rattle.align_report.proofs.run.push_run.Goals as goal
use Rattle.align_report.proofs.run.push_run.Goals.{in-Returned+in_ok-push_outputs+in_ok-ranges+in_ok-push_changes, in_default}

pub push_changes-requires-clause-same : goal.push_changes-requires-clause-same
push_changes-requires-clause-same c =
    same_outside c.args.admission.now c.args.test.now (pure_of c.args.start.now) (pure_of c.run-end.new.self) c.deref.result.now c.requires.start
    (rw c.deref.ensures.value c.in_ok-ranges.ensures.covered)
    (subst (λ (m : Machine). SameUnwritable m (pure_of c.run-end.new.self)) c.in_ok-state.ensures.pure
    (subst (λ (m : Machine). SameUnwritable (pure_of c.in_ok-state.state) m) (ap (λ r. r.0) c.run-end.ensures.runs)
    (c.step_frame_law.ensures.run_memory c.args.f.now.insns c.args.f.now.pool (pure_of c.in_ok-state.state) c.args.steps c.requires.closed)))

pub returns : goal.returns
returns c =
    let run : run_of (step_of c.args.f.now.insns c.args.f.now.pool) (start_of c.args.admission.now c.args.test.now) c.args.steps ≡ (pure_of c.run-end.new.self, c.run-end.result) =
    ap (λ (s : Machine). run_of (step_of c.args.f.now.insns c.args.f.now.pool) s c.args.steps) (sym (c.in_ok-state.ensures.pure ∙ c.requires.start)) ∙ c.run-end.ensures.runs in
    elim c.match-end.branch [
      | in-Returned+in_ok-push_outputs+in_ok-ranges+in_ok-push_changes w ↦ rw w.out-is
          (returned c.args.f.now c.args.admission.now c.args.steps c.args.k w.in-Returned.field-0 c.args.test.now (pure_of c.run-end.new.self)
          (string_bytes c.args.out.now) (string_bytes c.push_ended.new.out) (string_bytes w.push_outputs.new.out) (string_bytes w.push_changes.new.out)
          c.requires.loadable
          (run ∙ ap (λ (e : RunEnd). (pure_of c.run-end.new.self, e)) w.in-Returned.is)
          (c.in_ok-push_ended.ensures ∙ ap (λ (e : RunEnd). string_bytes c.args.out.now ++ test_line c.args.k (end_name e)) w.in-Returned.is)
          (w.in_ok-push_outputs.ensures ∙ ap (λ (os : List Output). string_bytes c.push_ended.new.out ++ output_lines (pure_of c.run-end.new.self) os) w.as_slice.ensures)
          (subst (λ (m : Machine). AppendsChanges m.memory (pure_of c.run-end.new.self).memory (string_bytes w.push_outputs.new.out) (string_bytes w.push_changes.new.out))
          c.requires.start w.in_ok-push_changes.ensures))
      | in_default w ↦ rw w.out-is
          (not_returned c.args.f.now c.args.admission.now c.args.steps c.args.k c.args.test.now (pure_of c.run-end.new.self) c.run-end.result
          (string_bytes c.args.out.now) (string_bytes c.push_ended.new.out) c.requires.loadable run w.in_default.not-Returned c.in_ok-push_ended.ensures)
    ]
