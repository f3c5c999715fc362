use Rattle.std.proofs.Common.{◌≡◌, ℕ, ◌+◌, ◌*◌, ◌%◌, ◌^◌, ◌∙◌, refl, sym, ap}
use Rattle.node_forms.specs.declared.form.Form.{Form}
use Rattle.node_forms.specs.Forms.{form_at}
use Rattle.node_forms.specs.Sums.{SameWord}
use Rattle.node_forms.proofs.Residues.{same_add, same_low}
use Rattle.linear_forms.proofs.Powers.{same_narrow}
use Rattle.form_sums.proofs.Making.{some_same}
use Rattle.form_sums.proofs.sums.add_part.Goals as goal

pub returns-clause-constant : goal.returns-clause-constant
returns-clause-constant c =
    let form : Form = c.at-form.result.now in
    let k : ℕ = c.args.weight in
    let has = c.in_ok-place.ensures.form in
    let own : form.c ≡ (form_at c.args.nodes.now c.args.w c.args.node.0).constant =
    ap (λ (f : Form). f.c) (some_same form has.form (sym c.at-form.ensures ∙ has.there)) ∙ has.is.constant in
    let sum : SameWord 64 ((c.args.constant + k * form.c % 2 ^ 64) % 2 ^ 64) (c.args.constant + k * form.c) =
    same_low 64 (c.args.constant + k * form.c % 2 ^ 64)
    ∙ same_add 64 c.args.constant c.args.constant (k * form.c % 2 ^ 64) (k * form.c) refl (same_low 64 (k * form.c)) in
    same_narrow 64 c.args.w ((c.args.constant + k * form.c % 2 ^ 64) % 2 ^ 64) (c.args.constant + k * form.c) c.requires.width.1 sum
    ∙ ap (λ (t : ℕ). (c.args.constant + k * t) % 2 ^ c.args.w) own
