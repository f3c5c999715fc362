-- A list of the widths of a sheet's nodes, read by number, is the widths of the sheet.
use Rattle.std.proofs.Common.{◌≡◌, ℕ, ◌<◌, ◌≤◌, List, length, sym, ◌∙◌, ap, subst, arith, inl, inr}
use Rattle.std.specs.Prelude.{slice_index}
use Rattle.std.proofs.lemmas.Bool.{cases_lt}
use Rattle.std.proofs.lemmas.List.{get_or_past}
use Rattle.node_values.specs.declared.node.Node.{Node}
use Rattle.node_values.specs.declared.node.Node.TheVariants.{Const}
use Rattle.node_values.specs.Nodes.{AreWordWidths, IsNode, node_width}
use Rattle.node_values.specs.Sheets.{AreWidths, IsSheet, node_at, through, width_at}
use Rattle.node_values.proofs.SheetLaws.{width_ranged}

-- past its end a list has no widths
width_at-past : (ns : List Node) (i : ℕ) → length ns ≤ i → width_at ns i ≡ 0
unfolding width_at through
width_at-past ns i b = ap (node_width (through 0 (λ widths j. node_width widths (node_at ns j)) i)) (get_or_past ns i (Const 0 0) b)

module _ (ns : List Node) (widths : List ℕ) (are : AreWidths ns widths) where
  same_width : (i : ℕ) → slice_index widths i ≡ width_at ns i
  same_width i = elim (cases_lt i (length ns)) [
    | inl inside ↦ are.1 i inside
    | inr past ↦ get_or_past widths i 0 (omega (arith, are.0)) ∙ sym (width_at-past ns i past)
  ]

  pub same_widths : slice_index widths ≡ width_at ns
  same_widths = λ k. λ i. same_width i k

  pub word_widths : IsSheet ns → AreWordWidths widths
  word_widths sheet i b =
      let ranged = width_ranged ns sheet i (omega (arith, are.0, b)) in
      rw (same_width i) ranged

  pub node_by_widths : IsSheet ns → (i : ℕ) → i < length ns → IsNode (slice_index widths) i (node_at ns i)
  node_by_widths sheet i b = subst (λ f. IsNode f i (node_at ns i)) (sym same_widths) (sheet i b)
