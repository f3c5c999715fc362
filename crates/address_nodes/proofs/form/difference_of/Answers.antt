use Rattle.std.proofs.Common.{ℕ, length, ◌∙◌}
use Rattle.node_forms.specs.Forms.{form_at}
use Rattle.address_nodes.proofs.Terms.{listed_terms}
use Rattle.address_nodes.proofs.form.difference_of.Goals as goal

pub returns-clause-terms : goal.returns-clause-terms
returns-clause-terms c =
    let n : ℕ = length c.args.sheet.now in
    let f : ℕ → ℕ = λ x. (form_at c.args.sheet.now 64 c.args.a.0).coefficient x in
    let g : ℕ → ℕ = λ x. (form_at c.args.sheet.now 64 c.args.b.0).coefficient x in
    let first = c.in_ok-first.ensures.form in
    let second = c.in_ok-second.ensures.form in
    c.from_vec.ensures
    ∙ c.in_ok-terms.ensures n f g
    (c.as_slice.ensures ∙ listed_terms f n c.in_ok-first.first.atoms first.falling first.some (λ x b. first.coefficients x))
    (c.as_slice-2.ensures ∙ listed_terms g n c.in_ok-second.second.atoms second.falling second.some (λ x b. second.coefficients x))
