use Rattle.std.proofs.Common.{ℕ, inr, List, None, sym, ◌∙◌, ap, rules}
use Rattle.admission.specs.Admitted.{IsAdmitted}
use Rattle.test_states.specs.Choosing.{least_outside}
use Rattle.test_states.proofs.Loading.{all_inside, first_outside, is_small}
use Rattle.test_states.proofs.starts.loaded.Goals as goal

pub returns-in-Some-clause-exact : goal.returns-in-Some-clause-exact
returns-in-Some-clause-exact c =
    let admitted : IsAdmitted c.args.admission.now c.args.test.now.regs = search rules in
    inr (
      admitted,
      is_small c.args.admission.now c.args.test.now c.deref.result.now (c.deref.ensures.value ∙ c.in_ok-regions.ensures) (sym c.is_large.ensures ∙ c.if-is_large.false),
      first_outside c.args.admission.now c.args.test.now c.deref-2.result.now (c.deref-2.ensures.value ∙ c.in_ok-regions.ensures) c.in-Some.at
          (sym c.in-Some.is ∙ c.least_outside.ensures ∙ ap (λ (bytes : List (ℕ × ℕ)). least_outside c.deref-2.result.now None bytes) c.as_slice.ensures),
    )

pub start_state-requires-clause-inside : goal.start_state-requires-clause-inside
start_state-requires-clause-inside c = all_inside c.args.admission.now c.args.test.now c.deref-2.result.now (c.deref-2.ensures.value ∙ c.in_ok-regions.ensures)
    (sym c.in_default.is ∙ c.least_outside.ensures ∙ ap (λ (bytes : List (ℕ × ℕ)). least_outside c.deref-2.result.now None bytes) c.as_slice.ensures)

pub returns-clause-exact : goal.returns-clause-exact
returns-clause-exact c =
    let admitted : IsAdmitted c.args.admission.now c.args.test.now.regs = search rules in (
      record {
        admitted = admitted;
        small = is_small c.args.admission.now c.args.test.now c.deref.result.now (c.deref.ensures.value ∙ c.in_ok-regions.ensures) (sym c.is_large.ensures ∙ c.if-is_large.false);
        inside = all_inside c.args.admission.now c.args.test.now c.deref-2.result.now (c.deref-2.ensures.value ∙ c.in_ok-regions.ensures)
            (sym c.in_default.is ∙ c.least_outside.ensures ∙ ap (λ (bytes : List (ℕ × ℕ)). least_outside c.deref-2.result.now None bytes) c.as_slice.ensures);
      },
      c.in_ok-state.ensures.pure,
    )
