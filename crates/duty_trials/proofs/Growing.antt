-- Sheets that grow by a node.
use Rattle.std.proofs.Common.{◌≡◌, ◌⊎◌, ℕ, suc, ◌+◌, ◌<◌, ◌≤◌, Bool, true, false, List, [], ◌∷◌, ◌++◌, length, get_or, refl, sym, ◌∙◌, ap, subst, arith, inl, inr}
use Rattle.std.specs.List.{list_any, position_or_len}
use Rattle.std.proofs.lemmas.Bool.{cases_Bool, cases_lt}
use Rattle.std.proofs.lemmas.List.{get_or_append_left, get_or_push, length_push}
use Rattle.node_values.specs.declared.node.Node.{Node}
use Rattle.node_values.specs.declared.node.Node.TheVariants.{Const}
use Rattle.node_values.specs.declared.node.NodeId.{NodeId}
use Rattle.node_values.specs.Sheets.{AreWidths, IsSheet, node_at, width_at}
use Rattle.node_values.proofs.SheetLaws.{width_at-append}
use Rattle.terms.specs.Made.{Made, is_same_node, made, placed, with_node}
use Rattle.terms.specs.Rules.{reduced}
use Rattle.terms.specs.declared.rules.Reduced.{Reduced}
use Rattle.terms.specs.declared.rules.Reduced.TheVariants.{Old, New}
use Rattle.duty_trials.specs.Trials.{IsGrown}

not_found : {X : Type 0} (p : X → Bool) (xs : List X) → list_any p xs ≡ false → position_or_len p xs ≡ length xs
not_found p [] h = refl
not_found p (x ∷ xs) h = elim (cases_Bool (p x)) [
  | inl t ↦ absurd (no (rw t at h))
  | inr f ↦ rw f (let rest = not_found p xs (rw f at h) in omega (arith, rest))
]
  where
    no : true ≡ false → ⊥
    no e = cc

-- the two ways in which a sheet takes a node
placed_grown : (ns : List Node) (m : Node) → IsGrown ns (placed ns (New m)).nodes (placed ns (New m)).id ⊎ ((placed ns (New m)).nodes ≡ ns)
placed_grown ns m = elim (cases_Bool (list_any (is_same_node m) ns)) [
  | inl t ↦ inr (rw t refl)
  | inr f ↦ inl (inr (not_found (is_same_node m) ns f, rw f (behind (position_or_len (is_same_node m) ns) (not_found (is_same_node m) ns f))))
]
  where
    behind : (i : ℕ) → i ≡ length ns → ns ++ m ∷ [] ≡ ns ++ node_at (ns ++ m ∷ []) i ∷ []
    behind i e = ap (λ (n : Node). ns ++ n ∷ []) (sym (get_or_push ns m (Const 0 0) i (sym e)))

grown_by : (ns : List Node) (r : Reduced) → (placed ns r).id.0 < length (placed ns r).nodes → IsGrown ns (placed ns r).nodes (placed ns r).id
grown_by ns (Old a) b = inl (refl, b)
grown_by ns (New m) b = elim (placed_grown ns m) [
  | inl g ↦ g
  | inr e ↦ inl (e, subst (λ (xs : List Node). (placed ns (New m)).id.0 < length xs) e b)
]

pub made_grown : (ns : List Node) (node : Node) (new : List Node) (id : NodeId) → made ns node ≡ record { nodes = new; id = id } → id.0 < length new
    → IsGrown ns new id
unfolding made
made_grown ns node new id e b =
    subst (λ (m : Made). IsGrown ns m.nodes m.id) e (grown_by ns (reduced ns node) (subst (λ (m : Made). m.id.0 < length m.nodes) (sym e) b))

-- with one more node its width
pub widths_more : (ns : List Node) (ws : List ℕ) (n : Node) (w : ℕ) → IsSheet ns → AreWidths ns ws → w ≡ width_at (ns ++ n ∷ []) (length ns)
    → AreWidths (ns ++ n ∷ []) (ws ++ w ∷ [])
widths_more ns ws n w sheet are e = (long, each)
  where
    long : length (ws ++ w ∷ []) ≡ length (ns ++ n ∷ [])
    long = omega (arith, length_push ws w, length_push ns n, are.0)

    each : (i : ℕ) → i < length (ns ++ n ∷ []) → get_or (ws ++ w ∷ []) i 0 ≡ width_at (ns ++ n ∷ []) i
    each i b = elim (cases_lt i (length ns)) [
      | inl before ↦
          get_or_append_left ws (w ∷ []) 0 i (omega (arith, before, are.0)) ∙ are.1 i before ∙ width_at-append ns sheet (n ∷ []) i before
      | inr last ↦
          let here : length ns ≡ i = omega (arith, length_push ns n) in
          get_or_push ws w 0 i (are.0 ∙ here) ∙ e ∙ ap (width_at (ns ++ n ∷ [])) here
    ]

-- where the number is of an older node, the sheet is as it was
pub kept : (old new : List Node) (id : NodeId) → IsGrown old new id → id.0 < length old → old ≡ new
kept old new id (inl g) b = sym g.0
kept old new id (inr g) b = absurd (omega (arith, g.0, b))

-- else it has one more
pub one_more : (old new : List Node) (id : NodeId) → IsGrown old new id → length old ≤ id.0
    → (id.0 ≡ length old) × (new ≡ old ++ node_at new id.0 ∷ [])
one_more old new id (inl g) b = absurd (omega (arith, g.1, b))
one_more old new id (inr g) b = g

-- the widths of a sheet with one more
pub widths_of_more : (old new : List Node) (id : NodeId) (ws : List ℕ) (w : ℕ) → IsGrown old new id → length old ≤ id.0 → IsSheet old → AreWidths old ws
    → w ≡ width_at new id.0 → AreWidths new (ws ++ w ∷ [])
widths_of_more old new id ws w g b sheet are e =
    let more = one_more old new id g b in
    subst (λ (ns : List Node). AreWidths ns (ws ++ w ∷ [])) (sym more.1)
    (widths_more old ws (node_at new id.0) w sheet are (e ∙ (λ j. width_at (more.1 j) (more.0 j))))
