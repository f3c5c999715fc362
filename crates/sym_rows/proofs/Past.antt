-- A sheet that is past its room stays so.
use Rattle.std.proofs.Common.{◌<◌, ◌≤◌, List, [], ◌∷◌, length, arith, inl, inr, length-append}
use Rattle.std.specs.List.{list_any}
use Rattle.std.proofs.lemmas.Bool.{cases_Bool}
use Rattle.node_values.specs.declared.node.Node.{Node}
use Rattle.terms.specs.declared.rules.Reduced.{Reduced}
use Rattle.terms.specs.declared.rules.Reduced.TheVariants.{Old, New}
use Rattle.terms.specs.Made.{is_same_node, made, placed}
use Rattle.terms.specs.Rules.{reduced}

placed_longer : (ns : List Node) (r : Reduced) → length ns ≤ length (placed ns r).nodes
placed_longer ns (Old a) = omega arith
placed_longer ns (New n) = elim (cases_Bool (list_any (is_same_node n) ns)) [
  | inl there ↦ rw there (omega arith)
  | inr new ↦ rw new (omega (arith, length-append ns (n ∷ [])))
]

-- building adds nodes only
pub made_longer : (ns : List Node) (n : Node) → length ns ≤ length (made ns n).nodes
unfolding made
made_longer ns n = placed_longer ns (reduced ns n)

pub still_over : (ns : List Node) (n : Node) → 65536 < length ns → 65536 < length (made ns n).nodes
still_over ns n h = omega (arith, h, made_longer ns n)
