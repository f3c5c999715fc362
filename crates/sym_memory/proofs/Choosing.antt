-- Choices that are built one after another, the last one first.
use Rattle.std.proofs.Common.{◌≡◌, ◌<◌, List, [], ◌∷◌, ◌++◌, length, refl, sym, ap, subst}
use Rattle.node_values.specs.declared.node.Node.{Node}
use Rattle.node_values.specs.declared.node.Node.TheVariants.{If}
use Rattle.node_values.specs.declared.node.NodeId.{NodeId}
use Rattle.node_values.specs.Sheets.{Extends, IsSheet}
use Rattle.terms.specs.Made.{Made, made}
use Rattle.address_nodes.specs.Multiples.{IsOfWidth}
use Rattle.address_nodes.proofs.Growing.{stays}
use Rattle.sym_memory.specs.Choices.{AreChoices, with_choices}
use Rattle.sym_memory.proofs.Longer.{choices_longer}

-- the last choice is built first
pub choice_first : (cs : List (NodeId × NodeId)) (c : NodeId × NodeId) (m : Made)
    → with_choices (cs ++ c ∷ []) m ≡ with_choices cs (made m.nodes (If c.0 c.1 m.id))
choice_first [] c m = refl
choice_first (d ∷ cs) c m = ap (λ r. made r.nodes (If d.0 d.1 r.id)) (choice_first cs c m)

pub choices_stay : (ns : List Node) → IsSheet ns → (later : List Node) → Extends ns later → (cs : List (NodeId × NodeId)) → AreChoices ns cs → AreChoices later cs
choices_stay ns sheet later ext [] h = tt
choices_stay ns sheet later ext (c ∷ cs) h = ((stays ns sheet later ext 1 c.0 h.0.0, stays ns sheet later ext 8 c.1 h.0.1), choices_stay ns sheet later ext cs h.1)

pub choices_push : (ns : List Node) (cs : List (NodeId × NodeId)) (c : NodeId × NodeId) → AreChoices ns cs → IsOfWidth ns 1 c.0 → IsOfWidth ns 8 c.1 → AreChoices ns (cs ++ c ∷ [])
choices_push ns [] c h test value = ((test, value), tt)
choices_push ns (d ∷ cs) c h test value = (h.0, choices_push ns cs c h.1 test value)

pub choices_pop : (ns : List Node) (cs : List (NodeId × NodeId)) (c : NodeId × NodeId) → AreChoices ns (cs ++ c ∷ []) → AreChoices ns cs × (IsOfWidth ns 1 c.0 × IsOfWidth ns 8 c.1)
choices_pop ns [] c h = (tt, h.0)
choices_pop ns (d ∷ cs) c h = let rest = choices_pop ns cs c h.1 in ((h.0, rest.0), rest.1)

-- all choices are as long as with the last one
pub popped_longer : (cs : List (NodeId × NodeId)) (c : NodeId × NodeId) (m : Made)
    → 65536 < length (made m.nodes (If c.0 c.1 m.id)).nodes → 65536 < length (with_choices (cs ++ c ∷ []) m).nodes
popped_longer cs c m h =
    subst (λ r. 65536 < length r.nodes) (sym (choice_first cs c m)) (choices_longer cs (made m.nodes (If c.0 c.1 m.id)) h)
