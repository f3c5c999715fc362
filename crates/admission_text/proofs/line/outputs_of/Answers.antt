use Rattle.std.proofs.Common.{ap, Bor, List, ℕ}
use Rattle.std.specs.Option.{option_map}
use Rattle.admission_text.proofs.LoopSteps.{left-less, output-end, output-none, output-some}
use Rattle.admission_text.proofs.line.outputs_of.Goals as goal

pub returns-in_default-output_of : goal.returns-in_default-output_of
returns-in_default-output_of c =
    let h = c.loop-left in
    output-none (option_map (λ (t : Bor (List ℕ)). t.now) c.args.rest) (option_map (λ (t : Bor (List ℕ)). t.now) h.left) h.live h.invariant
    c.in-Some.text.now c.first_part.result.0.now (option_map (λ (t : Bor (List ℕ)). t.now) c.first_part.result.1)
    (ap (option_map (λ (t : Bor (List ℕ)). t.now)) c.in-Some.is) c.first_part.ensures c.in_default-output_of.ensures

pub loop-left-smaller : goal.loop-left-smaller
loop-left-smaller c =
    left-less 32 (option_map (λ (t : Bor (List ℕ)). t.now) c.loop-left.left) (option_map (λ (t : Bor (List ℕ)). t.now) c.first_part.result.1) c.in-Some.text.now
    c.first_part.result.0.now (ap (option_map (λ (t : Bor (List ℕ)). t.now)) c.in-Some.is) c.first_part.ensures

pub loop-left-preserved : goal.loop-left-preserved
loop-left-preserved c =
    let h = c.loop-left in
    output-some (option_map (λ (t : Bor (List ℕ)). t.now) c.args.rest) (option_map (λ (t : Bor (List ℕ)). t.now) h.left) h.live h.invariant
    c.in-Some.text.now c.first_part.result.0.now (option_map (λ (t : Bor (List ℕ)). t.now) c.first_part.result.1) c.in-Some-output_of.output c.push.new.self
    (ap (option_map (λ (t : Bor (List ℕ)). t.now)) c.in-Some.is) c.first_part.ensures c.in-Some-output_of.ensures c.in_ok-push.ensures.ok

pub returns : goal.returns
returns c =
    let h = c.loop-left in
    output-end (option_map (λ (t : Bor (List ℕ)). t.now) c.args.rest) (option_map (λ (t : Bor (List ℕ)). t.now) h.left) h.live h.invariant
    (ap (option_map (λ (t : Bor (List ℕ)). t.now)) c.in_default.is)
