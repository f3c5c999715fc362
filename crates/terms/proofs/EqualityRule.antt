-- What an equality is built as, by what the forms of its arguments tell.
use Rattle.std.proofs.Common.{◌≡◌, ℕ, ◌==◌, List, Bool, Option, Some, None, length, sym, ◌∙◌, ap, subst, inl, inr, if◌then◌else◌}
use Rattle.std.specs.Prelude.{slice_index}
use Rattle.std.proofs.lemmas.Bool.{cases_Bool, eq-eqb, ne_eqb}
use Rattle.insn_semantics.specs.Words.{bit, minus}
use Rattle.node_values.specs.declared.node.Node.{Node}
use Rattle.node_values.specs.declared.node.Node.TheVariants.{Const, Eq}
use Rattle.node_values.specs.declared.node.NodeId.{NodeId}
use Rattle.node_values.specs.Nodes.{AreAlike}
use Rattle.node_values.specs.Sheets.{width_at}
use Rattle.node_values.proofs.SheetLaws.{width_ranged}
use Rattle.node_forms.specs.Forms.{differ_by_constant, form_at}
use Rattle.node_forms.specs.Listed.{difference_of_forms}
use Rattle.node_forms.proofs.Gathered.{no_difference}
use Rattle.node_forms.proofs.WidthLists.{same_widths}
use Rattle.terms.specs.declared.rules.Reduced.{Reduced}
use Rattle.terms.specs.declared.rules.Reduced.TheVariants.{New}
use Rattle.terms.specs.Rules.{ordered, unfolded}
use Rattle.terms.specs.Sheet.{IsWidthList}

module _ (ns : List Node) (widths : List ℕ) (list : IsWidthList ns widths) (a b : NodeId) (alike : AreAlike (slice_index widths) (length ns) a.0 b.0)
    (c : ℕ) (told : Some c ≡ difference_of_forms ns (width_at ns a.0) a.0 b.0) where
  abbrev W : ℕ
  W = width_at ns a.0

  abbrev told_by : Bool → Option ℕ
  told_by t = if t then Some (minus W (form_at ns W a.0).constant (form_at ns W b.0).constant) else None

  abbrev built_by : Bool → Reduced
  built_by t = if t then New (Const 1 (bit ((form_at ns W a.0).constant == (form_at ns W b.0).constant))) else ordered Eq a b

  -- the answer is 1 where the difference is 0, and else 0
  by_forms : New (Const 1 (bit (c == 0))) ≡ unfolded ns (width_at ns) (Eq a b)
  by_forms = elim (cases_Bool (differ_by_constant ns (width_at ns a.0) a.0 b.0)) [
    | inl t ↦
        let some : Some c ≡ Some (minus W (form_at ns W a.0).constant (form_at ns W b.0).constant) = told ∙ ap told_by t in
        let is : c ≡ minus W (form_at ns W a.0).constant (form_at ns W b.0).constant = cc in
        let ranged = width_ranged ns list.0 a.0 alike.0 in
        ap (λ n. New (Const 1 (bit (n == 0)))) is
        ∙ ap (λ z. New (Const 1 (bit z))) (no_difference ns list.0 W ranged.0 a.0 b.0 alike.0 alike.1)
        ∙ sym (ap built_by t)
    | inr f ↦
        let none : Some c ≡ None = told ∙ ap told_by f in
        absurd (impossible c none)
  ]
    where
      impossible : (n : ℕ) → Some n ≡ None → ⊥
      impossible n h = cc

  by_list : New (Const 1 (bit (c == 0))) ≡ unfolded ns (slice_index widths) (Eq a b)
  by_list = subst (λ f. New (Const 1 (bit (c == 0))) ≡ unfolded ns f (Eq a b)) (sym (same_widths ns widths list.1)) by_forms

  -- forms with no difference
  pub equality_holds : c ≡ 0 → New (Const 1 1) ≡ unfolded ns (slice_index widths) (Eq a b)
  equality_holds h = ap (λ t. New (Const 1 (bit t))) (sym (eq-eqb c 0 h)) ∙ by_list

  -- forms with another difference
  pub equality_fails : (c ≡ 0 → ⊥) → New (Const 1 0) ≡ unfolded ns (slice_index widths) (Eq a b)
  equality_fails h = ap (λ t. New (Const 1 (bit t))) (sym (ne_eqb c 0 h)) ∙ by_list
