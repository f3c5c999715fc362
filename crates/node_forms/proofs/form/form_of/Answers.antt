use Rattle.std.proofs.Common.{◌≡◌, ℕ, ◌+◌, ◌*◌, ◌≤◌, ◌^◌, [], ◌∷◌, ◌++◌, sym, ◌∙◌, ap, subst, arith}
use Rattle.node_values.specs.Sheets.{value_at}
use Rattle.node_values.proofs.SheetLaws.{width_ranged}
use Rattle.insn_semantics.proofs.WordLaws.{power_grows}
use Rattle.node_forms.specs.Gathering.{AreParts}
use Rattle.node_forms.specs.Sums.{IsLinear, SameWord, weighted_sum}
use Rattle.node_forms.proofs.Gathered.{atoms_some, coefficients_of_node, constant_of_node}
use Rattle.node_forms.proofs.Residues.{same_number}
use Rattle.node_forms.proofs.ValueLaws.{value_linear}
use Rattle.node_forms.proofs.form.form_of.Goals as goal

pub gather-requires-clause-width : goal.gather-requires-clause-width
gather-requires-clause-width c =
    let ranged = width_ranged c.args.nodes.now c.requires.sheet c.args.at.0 c.requires.place in
    (c.requires.width.0, omega (arith, ranged.1, c.requires.width.1))

pub gather-requires-clause-parts : goal.gather-requires-clause-parts
gather-requires-clause-parts c =
    let e : c.push.new.self.items ≡ (c.args.at, 1) ∷ [] = c.in_ok-push.ensures.items ∙ ap (λ ps. ps ++ (c.args.at, 1) ∷ []) c.new-pending.ensures.items in
    let two : 2 ^ 1 ≤ 2 ^ c.args.w = power_grows 1 c.args.w c.requires.width.0 in
    subst (AreParts c.args.nodes.now c.args.w) (sym e) (((c.requires.place, c.requires.width.1), omega (arith, two)), tt)

pub returns-clause-form : goal.returns-clause-form
returns-clause-form c =
    let e : c.push.new.self.items ≡ (c.args.at, 1) ∷ [] = c.in_ok-push.ensures.items ∙ ap (λ ps. ps ++ (c.args.at, 1) ∷ []) c.new-pending.ensures.items in
    let sum : (k : ℕ) (f : ℕ → ℕ) → IsLinear c.args.nodes.now c.args.w k f → SameWord c.args.w (weighted_sum f c.in_ok-form.form.atoms + k * c.in_ok-form.form.c) (weighted_sum f ((c.args.at, 1) ∷ [])) =
    λ k f is. c.in_ok-form.ensures.sum k f is ∙ same_number c.args.w _ _ (ap (weighted_sum f) e) in
    record {
      width = c.in_ok-form.ensures.width;
      falling = c.in_ok-form.ensures.falling;
      some = atoms_some c.args.nodes.now c.args.w c.in_ok-form.form.atoms c.in_ok-form.ensures.atoms;
      coefficients = coefficients_of_node c.args.nodes.now c.requires.sheet c.args.w c.requires.width.0 c.args.at c.requires.place c.in_ok-form.form.atoms c.in_ok-form.form.c
          c.in_ok-form.ensures.falling c.in_ok-form.ensures.atoms c.in_ok-form.ensures.constant sum;
      constant = constant_of_node c.args.nodes.now c.requires.sheet c.args.w c.requires.width.0 c.args.at c.requires.place c.in_ok-form.form.atoms c.in_ok-form.form.c
          c.in_ok-form.ensures.falling c.in_ok-form.ensures.atoms c.in_ok-form.ensures.constant sum;
    }

pub returns-clause-value : goal.returns-clause-value
returns-clause-value c e =
    let V : ℕ → ℕ = value_at e c.args.nodes.now in
    let parts : c.push.new.self.items ≡ (c.args.at, 1) ∷ [] = c.in_ok-push.ensures.items ∙ ap (λ ps. ps ++ (c.args.at, 1) ∷ []) c.new-pending.ensures.items in
    sym (same_number c.args.w (weighted_sum (value_at e c.args.nodes.now) c.in_ok-form.form.atoms + c.in_ok-form.form.c)
    (weighted_sum (value_at e c.args.nodes.now) c.in_ok-form.form.atoms + 1 * c.in_ok-form.form.c) (omega arith)
    ∙ c.in_ok-form.ensures.sum 1 (value_at e c.args.nodes.now) (value_linear e c.args.nodes.now c.requires.sheet c.args.w)
    ∙ same_number c.args.w _ (value_at e c.args.nodes.now c.args.at.0) (ap (weighted_sum (value_at e c.args.nodes.now)) parts ∙ one (value_at e c.args.nodes.now c.args.at.0)))
  where
    one : (n : ℕ) → 1 * n + 0 ≡ n
    one n = omega arith
