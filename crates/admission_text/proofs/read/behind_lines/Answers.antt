use Rattle.std.proofs.Common.{ap, Bor, List, ℕ}
use Rattle.std.specs.Option.{option_map}
use Rattle.std.proofs.lemmas.Result.{err_from_is_err_and}
use Rattle.admission_text.proofs.LineSteps.{line-end, line-some, line-stop}
use Rattle.admission_text.proofs.LoopSteps.{left-less}
use Rattle.admission_text.proofs.read.behind_lines.Goals as goal

pub returns-in_err-draft : goal.returns-in_err-draft
returns-in_err-draft c =
    let h = c.loop-left in
    let p = err_from_is_err_and c.from_residual.result c.from_residual.ensures.1 in
    rw (p.1, p.2)
    (line-stop (option_map (λ (t : Bor (List ℕ)). t.now) h.left) h.number h.draft c.args.text.now h.invariant.0 c.in-Some.rest.now c.first_part.result.0.now
    (option_map (λ (t : Bor (List ℕ)). t.now) c.first_part.result.1) c.saturating_add-number.result c.in_err-draft.field-0.0
    (ap (option_map (λ (t : Bor (List ℕ)). t.now)) c.in-Some.is) c.first_part.ensures c.saturating_add-number.ensures c.in_err-draft.ensures.gives)

pub loop-left-smaller : goal.loop-left-smaller
loop-left-smaller c =
    left-less 10 (option_map (λ (t : Bor (List ℕ)). t.now) c.loop-left.left) (option_map (λ (t : Bor (List ℕ)). t.now) c.first_part.result.1) c.in-Some.rest.now
    c.first_part.result.0.now (ap (option_map (λ (t : Bor (List ℕ)). t.now)) c.in-Some.is) c.first_part.ensures

pub loop-left-preserved : goal.loop-left-preserved
loop-left-preserved c =
    let h = c.loop-left in (
      line-some (option_map (λ (t : Bor (List ℕ)). t.now) h.left) h.number h.draft c.args.text.now h.invariant.0 c.in-Some.rest.now c.first_part.result.0.now
          (option_map (λ (t : Bor (List ℕ)). t.now) c.first_part.result.1) c.saturating_add-number.result c.in_ok-draft.draft
          (ap (option_map (λ (t : Bor (List ℕ)). t.now)) c.in-Some.is) c.first_part.ensures c.saturating_add-number.ensures c.in_ok-draft.ensures.gives,
      c.in_ok-draft.ensures.few,
    )

pub returns : goal.returns
returns c =
    let h = c.loop-left in
    line-end (option_map (λ (t : Bor (List ℕ)). t.now) h.left) h.number h.draft c.args.text.now h.invariant.0 (ap (option_map (λ (t : Bor (List ℕ)). t.now)) c.in_default.is)
