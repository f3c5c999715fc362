-- A sheet has each node once, and still does with a node that it did not have.
use Rattle.std.proofs.Common.{◌≡◌, ℕ, ◌<◌, List, [], ◌∷◌, ◌++◌, true, false, length, sym, ◌∙◌, ap, arith, inl, inr, rules, length-append}
use Rattle.std.specs.List.{list_any}
use Rattle.std.proofs.lemmas.Bool.{cases_lt, true≢false}
use Rattle.std.proofs.lemmas.List.Folds.{list_any_at}
use Rattle.std.proofs.Math.ListN.{get_or-append}
use Rattle.std.proofs.Math.Seq.{get_or-append_seam}
use Rattle.node_values.specs.declared.node.Node.{Node}
use Rattle.node_values.specs.declared.node.Node.TheVariants.{Const, Reg, Entry, VecByte, Start, Probe, Add, Sub, Mul, And, Or, Xor, Not, Shl, Shr, Sar, Cat, Cut, Sx, Eq, Ult, Slt, If}
use Rattle.node_values.specs.Sheets.{node_at}
use Rattle.terms.specs.Kept.{HasEachNodeOnce}
use Rattle.terms.specs.Made.{is_same_node}

-- a node is the same as itself
pub same_as_itself : (x : Node) → is_same_node x x ≡ true
same_as_itself (Const a b) = search rules
same_as_itself (Reg a b) = search rules
same_as_itself (Entry a) = search rules
same_as_itself (VecByte a b c) = search rules
same_as_itself (Start a b) = search rules
same_as_itself Probe = search rules
same_as_itself (Add a b) = search rules
same_as_itself (Sub a b) = search rules
same_as_itself (Mul a b) = search rules
same_as_itself (And a b) = search rules
same_as_itself (Or a b) = search rules
same_as_itself (Xor a b) = search rules
same_as_itself (Not a) = search rules
same_as_itself (Shl a k) = search rules
same_as_itself (Shr a k) = search rules
same_as_itself (Sar a k) = search rules
same_as_itself (Cat a b) = search rules
same_as_itself (Cut a k n) = search rules
same_as_itself (Sx n a) = search rules
same_as_itself (Eq a b) = search rules
same_as_itself (Ult a b) = search rules
same_as_itself (Slt a b) = search rules
same_as_itself (If c a b) = search rules

module _ (ns : List Node) (n : Node) (absent : list_any (is_same_node n) ns ≡ false) where
  older : (i : ℕ) → i < length ns → node_at (ns ++ n ∷ []) i ≡ node_at ns i
  older i b = get_or-append ns (n ∷ []) (Const 0 0) i b

  newest : (i : ℕ) → i ≡ length ns → node_at (ns ++ n ∷ []) i ≡ n
  newest i e = ap (node_at (ns ++ n ∷ [])) e ∙ get_or-append_seam ns n [] (Const 0 0)

  not_there : (i : ℕ) → i < length ns → node_at ns i ≡ n → ⊥
  not_there i b e =
      let there : list_any (is_same_node n) ns ≡ true = list_any_at (is_same_node n) ns i (Const 0 0) b (ap (is_same_node n) e ∙ same_as_itself n) in
      true≢false (sym there ∙ absent)

  -- one more node, which the sheet did not have
  pub distinct_push : HasEachNodeOnce ns → HasEachNodeOnce (ns ++ n ∷ [])
  distinct_push distinct i j b c e = elim (cases_lt i (length ns)) [
    | inl first ↦ elim (cases_lt j (length ns)) [
      | inl second ↦ distinct i j first second (sym (older i first) ∙ e ∙ older j second)
      | inr last ↦
          let end : j ≡ length ns = omega (arith, length-append ns (n ∷ [])) in
          absurd (not_there i first (sym (older i first) ∙ e ∙ newest j end))
    ]
    | inr last ↦
        let end : i ≡ length ns = omega (arith, length-append ns (n ∷ [])) in
        elim (cases_lt j (length ns)) [
          | inl second ↦ absurd (not_there j second (sym (older j second) ∙ sym e ∙ newest i end))
          | inr both ↦ omega (arith, length-append ns (n ∷ []))
        ]
  ]
