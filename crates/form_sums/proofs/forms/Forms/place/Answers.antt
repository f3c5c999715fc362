use Rattle.std.proofs.Common.{◌≡◌, ◌==◌, ◌&&◌, ◌∷◌, ◌++◌, [], ℕ, Bool, List, Some, false, ◌∙◌, sym, ap, subst, if◌then◌else◌}
use Rattle.std.specs.Prelude.{get_or, slice_get}
use Rattle.std.specs.List.{list_any}
use Rattle.std.proofs.lemmas.List.Quantifiers.{position-Some}
use Rattle.std.proofs.lemmas.Option.{slice_get-get_or}
use Rattle.node_values.specs.declared.node.NodeId.{NodeId}
use Rattle.form_sums.specs.Made.{AreForms, MadeForms}
use Rattle.form_sums.proofs.Making.{forms_pushed, last_got, same_key}
use Rattle.form_sums.proofs.forms.Forms.place.Goals as goal

pub returns-in-Some-clause-form : goal.returns-in-Some-clause-form
returns-in-Some-clause-form c =
    let keys : List (NodeId × ℕ) = c.self.inside.keys.keys in
    let key : NodeId × ℕ = (c.args.node, c.args.w) in
    let at = position-Some _ keys c.in-Some.place key (sym c.in-Some.ensures.index) in
    let same : key ≡ get_or keys c.in-Some.place key = same_key c.args.node c.args.w (get_or keys c.in-Some.place key) at.1 in
    c.requires.forms c.in-Some.place key
    (ap (λ (m : MadeForms). slice_get m.keys c.in-Some.place) (sym c.self.view_is) ∙ slice_get-get_or keys c.in-Some.place key at.0 ∙ ap Some (sym same))

pub returns-in-Ok-clause-form : goal.returns-in-Ok-clause-form
returns-in-Ok-clause-form c = record {
  form = c.in_ok-form.form;
  there = ap (λ fs. slice_get fs c.len-place.result) c.in_ok-push.ensures.items
      ∙ ap (λ i. slice_get (c.self.inside.forms.items ++ c.in_ok-form.form ∷ []) i) (c.len-place.ensures.len ∙ c.self.invariant)
      ∙ last_got c.self.inside.forms.items c.in_ok-form.form;
  is = c.in_ok-form.ensures.form;
}

pub returns-in-Ok-clause-forms : goal.returns-in-Ok-clause-forms
returns-in-Ok-clause-forms c =
    let old : MadeForms = record { keys = c.self.inside.keys.keys; forms = c.self.inside.forms.items } in
    let key : NodeId × ℕ = (c.args.node, c.args.w) in
    let is_key : NodeId × ℕ → Bool = λ y. (key.0.0 == y.0.0) && (key.1 == y.1) in
    let absent : list_any is_key old.keys ≡ false = sym c.in_default.ensures.found in
    let keys : c.insert.new.self.keys ≡ old.keys ++ key ∷ [] =
    c.in-Ok.ensures.keys ∙ ap (λ t. if t then old.keys else old.keys ++ key ∷ []) absent in
    let pushed = forms_pushed c.args.nodes.now old key c.in_ok-form.form c.self.invariant c.in_ok-form.ensures.form
    (subst (AreForms c.args.nodes.now) (sym c.self.view_is) c.requires.forms) in
    subst (AreForms c.args.nodes.now) (λ i. record { keys = sym keys i; forms = sym c.in_ok-push.ensures.items i }) pushed
