-- A node that is built has its value in the sheet after it, and older nodes stay.
use Rattle.std.proofs.Common.{◌≡◌, ℕ, ◌<◌, List, [], ◌∷◌, ◌++◌, Bool, true, false, length, refl, sym, ◌∙◌, ap, subst, arith, inl, inr, if◌then◌else◌, rules, length-append}
use Rattle.std.specs.List.{list_any, position_or_len}
use Rattle.std.proofs.lemmas.Bool.{cases_Bool}
use Rattle.std.proofs.lemmas.List.{append-nil}
use Rattle.std.proofs.lemmas.List.Sums.{passes_at_first}
use Rattle.node_values.specs.declared.node.Node.{Node}
use Rattle.node_values.specs.declared.node.Node.TheVariants.{Const, Reg, Entry, VecByte, Start, Probe, Add, Sub, Mul, And, Or, Xor, Not, Shl, Shr, Sar, Cat, Cut, Sx, Eq, Ult, Slt, If}
use Rattle.node_values.specs.Nodes.{IsNode, node_width}
use Rattle.node_values.specs.Values.{Environment, node_value}
use Rattle.node_values.specs.Sheets.{AreWidths, Extends, IsSheet, node_at, value_at, width_at}
use Rattle.node_values.proofs.SheetLaws.{IsSheet-push, value_at-is, value_at-push, width_at-is, width_at-push}
use Rattle.terms.specs.declared.rules.Reduced.{Reduced}
use Rattle.terms.specs.declared.rules.Reduced.TheVariants.{Old, New}
use Rattle.terms.specs.Made.{Made, is_same_node, made, node_number, placed}
use Rattle.std.specs.Prelude.{slice_index}
use Rattle.node_forms.proofs.WidthLists.{same_widths}
use Rattle.terms.specs.Rules.{by_rules, folded, is_folded, reduced, unfolded}
use Rattle.terms.specs.Sheet.{Stands}
use Rattle.terms.proofs.RuleLaws.{reduced_stands}

-- two nodes that the test finds the same are equal
pub same_node : (x y : Node) → is_same_node x y ≡ true → x ≡ y
same_node (Const a b) y h = search rules
same_node (Reg a b) y h = search rules
same_node (Entry a) y h = search rules
same_node (VecByte a b c) y h = search rules
same_node (Start a b) y h = search rules
same_node Probe y h = search rules
same_node (Add a b) y h = search rules
same_node (Sub a b) y h = search rules
same_node (Mul a b) y h = search rules
same_node (And a b) y h = search rules
same_node (Or a b) y h = search rules
same_node (Xor a b) y h = search rules
same_node (Not a) y h = search rules
same_node (Shl a k) y h = search rules
same_node (Shr a k) y h = search rules
same_node (Sar a k) y h = search rules
same_node (Cat a b) y h = search rules
same_node (Cut a k n) y h = search rules
same_node (Sx n a) y h = search rules
same_node (Eq a b) y h = search rules
same_node (Ult a b) y h = search rules
same_node (Slt a b) y h = search rules
same_node (If c a b) y h = search rules

found_inside : {X : Type 0} (p : X → Bool) (xs : List X) → list_any p xs ≡ true → position_or_len p xs < length xs
found_inside p [] h = cc
found_inside p (x ∷ xs) h = elim (cases_Bool (p x)) [
  | inl t ↦ rw t (omega arith)
  | inr f ↦
      let rest : list_any p xs ≡ true = rw f at h in
      let inside : position_or_len p xs < length xs = found_inside p xs rest in
      rw f (omega arith)
]

-- what no element of a list passes is placed at its end
pub not_found : {X : Type 0} (p : X → Bool) (xs : List X) → list_any p xs ≡ false → position_or_len p xs ≡ length xs
not_found p [] h = refl
not_found p (x ∷ xs) h = elim (cases_Bool (p x)) [
  | inl t ↦ absurd (contradiction (list_any p xs) (rw t at h))
  | inr f ↦
      let rest : list_any p xs ≡ false = rw f at h in
      let all : position_or_len p xs ≡ length xs = not_found p xs rest in
      rw f (omega (arith, all))
]
  where
    contradiction : (b : Bool) → true ≡ false → ⊥
    contradiction b h = cc

-- what a built node is in the sheet that has it
pub record IsBuilt (ns : List Node) (n : Node) (m : Made) : Type 0 where
  pub extends : Extends ns m.nodes
  pub sheet : IsSheet m.nodes
  pub inside : m.id.0 < length m.nodes
  pub width : width_at m.nodes m.id.0 ≡ node_width (width_at ns) n
  pub value : (e : Environment) → value_at e m.nodes m.id.0 ≡ node_value e (width_at ns) (value_at e ns) n

module _ (ns : List Node) (sheet : IsSheet ns) (n : Node) where
  nothing_more : ns ≡ ns ++ []
  nothing_more = sym (append-nil ns)

  placed_built : (r : Reduced) → Stands ns n r → IsBuilt ns n (placed ns r)
  placed_built (Old a) h = record { extends = ([], nothing_more); sheet = sheet; inside = h.0; width = h.1; value = h.2 }
  placed_built (New m) h = elim (cases_Bool (list_any (is_same_node m) ns)) [
    | inl there ↦
        let at : ℕ = node_number ns m in
        let inside : node_number ns m < length ns = found_inside (is_same_node m) ns there in
        let is : m ≡ node_at ns (node_number ns m) = same_node m (node_at ns (node_number ns m)) (passes_at_first (is_same_node m) ns (Const 0 0) inside) in
        rw there
        (record {
          extends = ([], nothing_more);
          sheet = sheet;
          inside = inside;
          width = width_at-is ns sheet (node_number ns m) inside ∙ ap (node_width (width_at ns)) (sym is) ∙ h.1;
          value = λ e. value_at-is ns sheet e (node_number ns m) inside ∙ ap (node_value e (width_at ns) (value_at e ns)) (sym is) ∙ h.2 e;
        })
    | inr new ↦
        let last : node_number ns m ≡ length ns = not_found (is_same_node m) ns new in
        rw (new, last)
        (record {
          extends = (m ∷ [], refl);
          sheet = IsSheet-push ns sheet m h.0;
          inside = omega (arith, length-append ns (m ∷ []));
          width = width_at-push ns sheet m h.0 ∙ h.1;
          value = λ e. value_at-push ns sheet m h.0 e ∙ h.2 e;
        })
  ]

  -- a node that is built
  pub made_built : IsNode (width_at ns) (length ns) n → IsBuilt ns n (made ns n)
  unfolding made
  made_built node = placed_built (reduced ns n) (reduced_stands ns sheet n node)

-- a node is built as the rules say over the list of widths
pub made_by : (ns : List Node) (widths : List ℕ) (n : Node) (r : Reduced) → AreWidths ns widths → r ≡ by_rules ns (slice_index widths) n → made ns n ≡ placed ns r
unfolding made reduced
made_by ns widths n r are e = ap (placed ns) (ap (λ f. by_rules ns f n) (sym (same_widths ns widths are)) ∙ sym e)

-- a new node of the rules may stand there
pub new_node : (ns : List Node) (sheet : IsSheet ns) (widths : List ℕ) (n m : Node) → AreWidths ns widths → IsNode (width_at ns) (length ns) n
    → New m ≡ by_rules ns (slice_index widths) n → IsNode (width_at ns) (length ns) m
unfolding reduced
new_node ns sheet widths n m are node e =
    let by : reduced ns n ≡ New m = ap (λ f. by_rules ns f n) (sym (same_widths ns widths are)) ∙ sym e in
    let stands : Stands ns n (New m) = subst (Stands ns n) by (reduced_stands ns sheet n node) in
    stands.0

-- a node that is no constant is what the rules behind the first say
pub not_folded : (ns : List Node) (widths : ℕ → ℕ) (n : Node) → is_folded ns n ≡ false → by_rules ns widths n ≡ unfolded ns widths n
not_folded ns widths n h = ap (λ t. if t then New (folded ns widths n) else unfolded ns widths n) h
